-- What an accepted call has, and that the promises leave no choice.
use mathlib.Core.Path.{◌≡◌, refl, sym, ◌∙◌}
use mathlib.Core.Bool.{true, not}
use mathlib.Core.List.{List, [], ◌∷◌}
use Prim.Native.Nat.{ℕ, ◌<◌}
use borrow.Author.Tests.{eqb-true, eqb-false, not-false}
use lib.Dec.{eqb}
use lib.ListN.{length, get_or}
use Rattle.morph.specs.declared.Kind.{Kind}
use Rattle.morph.specs.Order.{Order, order_of, reach_back, ahead_of, kind_of}
use Rattle.morph.specs.Grey.{grey}
use Rattle.morph.specs.Origin.{LatestEntry}
use Rattle.morph.specs.Lists.{Each}
use Rattle.morph.specs.Numbers.{given}
use Rattle.morph.proofs.Lists.{split}
use Rattle.morph.proofs.Numbers.{first_one, first_zero, given_zero, skip}
use Rattle.sample.specs.Samples.{greys}
use Rattle.row.proofs.Origins.{positions_latest}
use Rattle.line_judge.specs.Numbers.{line_start_number}
use Rattle.line_judge.specs.Inner.{LineSound}
use Rattle.line_judge.proofs.Numbers.{start_zero}
use Rattle.firmware.specs.Row.{filter_row_number, FiltersRow, filter_positions_number, FiltersRowPositions}

-- the number, from that of the line's start
module _ (kind left right pixels places : ℕ) {n : ℕ} (e : n ≡ line_start_number kind left right pixels) where
  abbrev uneven : ℕ
  uneven = given 7 (not (eqb pixels places))

  pub row_lengths : {m : ℕ} → n ≡ 0 → m ≡ uneven → m ≡ filter_row_number kind left right pixels places
  unfolding filter_row_number
  row_lengths z f = skip (line_start_number kind left right pixels) (uneven ∷ []) (sym e ∙ z) (f ∙ sym (first_one uneven))

-- an accepted call is a sound line's, and its rows are alike in length
pub row_zero : (kind left right pixels places : ℕ) → filter_row_number kind left right pixels places ≡ 0 → LineSound (kind_of kind) left right pixels 0 0 0 × (pixels ≡ places)
unfolding filter_row_number
row_zero kind left right pixels places h =
    let (a, b) = first_zero (line_start_number kind left right pixels) (given 7 (not (eqb pixels places)) ∷ []) h in
    let (c, _) = first_zero (given 7 (not (eqb pixels places))) [] b in
    (start_zero kind left right pixels a, eqb-true pixels places (not-false _ (given_zero 6 _ c)))

-- every byte is an accepted pixel
all_good : (row : List ℕ) → Each (λ a. greys.good a ≡ true) row
all_good [] = tt
all_good (a ∷ row) = (refl, all_good row)

-- what is made of the copy, F, in the words of the promise: the row filtered, or its positions
pub filtered : (F : Order ℕ → ℕ → ℕ → List ℕ → List ℕ) (kind left right : ℕ) (k : Kind) (back ahead : ℕ) (input copied : List ℕ) {output : List ℕ} → k ≡ kind_of kind → back ≡ reach_back k left right
    → ahead ≡ ahead_of k left right → copied ≡ input → (Each (λ a. greys.good a ≡ true) copied → output ≡ F (order_of k grey) back ahead copied)
    → output ≡ F (order_of (kind_of kind) grey) (reach_back (kind_of kind) left right) (ahead_of (kind_of kind) left right) input
filtered F kind left right k back ahead input copied e b a c h = rw (b, a, c, e) at (h (all_good copied))

-- "the answer, the state and all lent cells afterwards follow from its inputs alone, also on a refusal"
pub filter_row_unique : (kind left right : ℕ) (input output output₁ output₂ : List ℕ) (r₁ r₂ : ℕ) → FiltersRow kind left right input output output₁ r₁ → FiltersRow kind left right input output output₂ r₂
    → (r₁ ≡ r₂) × (output₁ ≡ output₂)
filter_row_unique kind left right input output output₁ output₂ r₁ r₂ h k = (
  h.told ∙ sym k.told,
  split (eqb (filter_row_number kind left right (length input) (length output)) 0)
      (λ z. h.filters (eqb-true _ 0 z) ∙ sym (k.filters (eqb-true _ 0 z)))
      (λ z. h.refuses (eqb-false _ 0 z) ∙ sym (k.refuses (eqb-false _ 0 z))),
)

-- ---- with positions

module _ (kind left right pixels places columns : ℕ) {n : ℕ} (e : n ≡ filter_row_number kind left right pixels places) where
  pub both_second : {m : ℕ} → n ≡ 0 → m ≡ filter_row_number kind left right pixels columns → m ≡ filter_positions_number kind left right pixels places columns
  unfolding filter_positions_number
  both_second z f =
      skip (filter_row_number kind left right pixels places) (filter_row_number kind left right pixels columns ∷ []) (sym e ∙ z) (f ∙ sym (first_one (filter_row_number kind left right pixels columns)))

-- an accepted call is a sound line's, and its three rows are alike in length
pub both_zero : (kind left right pixels places columns : ℕ) → filter_positions_number kind left right pixels places columns ≡ 0
    → LineSound (kind_of kind) left right pixels 0 0 0 × (pixels ≡ places) × (pixels ≡ columns)
unfolding filter_positions_number
both_zero kind left right pixels places columns h =
    let (a, b) = first_zero (filter_row_number kind left right pixels places) (filter_row_number kind left right pixels columns ∷ []) h in
    let (c, _) = first_zero (filter_row_number kind left right pixels columns) [] b in
    let (s, p) = row_zero kind left right pixels places a in
    let (_, q) = row_zero kind left right pixels columns c in
    (s, p, q)

module _ (kind left right : ℕ) (input output positions : List ℕ) where
  abbrev number : ℕ
  number = filter_positions_number kind left right (length input) (length output) (length positions)

  -- the answer and both rows afterwards follow from the inputs alone
  pub filter_positions_unique : (output₁ output₂ positions₁ positions₂ : List ℕ) (r₁ r₂ : ℕ) → FiltersRowPositions kind left right input output positions output₁ positions₁ r₁
      → FiltersRowPositions kind left right input output positions output₂ positions₂ r₂ → (r₁ ≡ r₂) × (output₁ ≡ output₂) × (positions₁ ≡ positions₂)
  filter_positions_unique output₁ output₂ positions₁ positions₂ r₁ r₂ h k = (
    h.told ∙ sym k.told,
    split (eqb number 0)
        (λ z. h.filters (eqb-true _ 0 z) ∙ sym (k.filters (eqb-true _ 0 z)))
        (λ z. (h.refuses (eqb-false _ 0 z)).0 ∙ sym (k.refuses (eqb-false _ 0 z)).0),
    split (eqb number 0)
        (λ z. h.locates (eqb-true _ 0 z) ∙ sym (k.locates (eqb-true _ 0 z)))
        (λ z. (h.refuses (eqb-false _ 0 z)).1 ∙ sym (k.refuses (eqb-false _ 0 z)).1),
  )

  -- each position told is "the position that gave the value, the latest one in the window where several are equal"
  pub filter_positions_latest : (output' positions' : List ℕ) (r x : ℕ) → FiltersRowPositions kind left right input output positions output' positions' r → r ≡ 0 → x < length input
      → LatestEntry (order_of (kind_of kind) grey) (reach_back (kind_of kind) left right) (ahead_of (kind_of kind) left right) input x (record { value = get_or output' x 0; position = get_or positions' x 0 })
  filter_positions_latest output' positions' r x h z l =
      let a : number ≡ 0 = sym h.told ∙ z in
      rw (h.filters a, h.locates a) (positions_latest greys (kind_of kind) (reach_back (kind_of kind) left right) (ahead_of (kind_of kind) left right) input x l)
