-- The two steps' promises, put together: of a number that is not 0 and of a step that was made.
use mathlib.Core.Path.{◌≡◌, refl, sym, ◌∙◌, subst}
use mathlib.Core.Bool.{true, false}
use mathlib.Core.List.{List, map}
use Prim.Native.Nat.{ℕ}
use native.Mathlib.Omega.{arith}
use borrow.Author.Tests.{eq-eqb, ne_eqb}
use lib.ListN.{length}
use Rattle.morph.specs.Lists.{all}
use Rattle.sample.specs.Samples.{Samples, first_bad}
use Rattle.picture_state.specs.declared.State.{State}
use Rattle.picture_state.specs.declared.Answer.{Answer}
use Rattle.picture_state.specs.Step.{refused, row_said_of}
use Rattle.picture_state.proofs.Numbers.{drain_accepted}
use Rattle.picture_state.proofs.Step.{accepts_drain}
use Rattle.picture_origin.specs.Numbers.{OriginMemory, OriginRows, origin_offer_number, origin_row_number, origin_drain_number}
use Rattle.picture_origin.specs.Step.{OriginsAdvanced, OriginRowStep, OriginDrainStep}
use Rattle.picture_origin.proofs.Judged.{offer_judged, offer_judged_law, drain_asked, drain_judged_law}
use Rattle.picture_origin.proofs.Numbers.{row_found, row_past, origin_drain_plain}

module _ {A : Type 0} (K : Samples A) (kind : ℕ) (S : State) (M : OriginMemory A) where
  module _ (pixels : List A) (out : OriginRows A) where
    abbrev offer : ℕ
    offer = origin_offer_number kind S M pixels out

    abbrev row_number : ℕ
    row_number = origin_row_number K kind S M pixels out

    pub refuses_origin_row : (n : ℕ) (answer : Answer) (S' : State) → n ≡ offer_judged kind S M pixels out → (n ≡ 0 → ⊥) → row_said_of answer ≡ refused n 0 → S' ≡ S
        → OriginRowStep K kind S M pixels out M out answer S'
    refuses_origin_row n answer S' q h s t =
        let e : n ≡ offer = q ∙ offer_judged_law kind S M pixels out in
        let z : offer ≡ 0 → ⊥ = λ k. h (e ∙ k) in
        let f = row_found K kind S M pixels out z in
        record {
          refusal = λ _. record {
            plain = record { said = s ∙ rw (f, ne_eqb offer 0 z, e); state = t; memory = refl; output = refl };
            columns = refl;
            rows = refl;
            origin_columns = refl;
          };
          accepted = λ k. absurd (z (sym f ∙ k));
        }

    pub bad_origin_row : (n : ℕ) (answer : Answer) (S' : State) → n ≡ offer_judged kind S M pixels out → n ≡ 0 → all K.good pixels ≡ false → row_said_of answer ≡ refused 8 (first_bad K pixels) → S' ≡ S
        → OriginRowStep K kind S M pixels out M out answer S'
    bad_origin_row n answer S' q y b s t =
        let z : offer ≡ 0 = sym (q ∙ offer_judged_law kind S M pixels out) ∙ y in
        let e : row_number ≡ 8 = row_past K kind S M pixels out z ∙ rw b in
        record {
          refusal = λ _. record {
            plain = record { said = s ∙ rw (e, eq-eqb offer 0 z); state = t; memory = refl; output = refl };
            columns = refl;
            rows = refl;
            origin_columns = refl;
          };
          accepted = λ k. absurd (omega (arith, e));
        }

    pub accepts_origin_row : (n : ℕ) (M' : OriginMemory A) (out' : OriginRows A) (answer : Answer) (S' : State) → n ≡ offer_judged kind S M pixels out → n ≡ 0 → all K.good pixels ≡ true
        → OriginsAdvanced K S M (map K.taken pixels) out M' out' answer S' → OriginRowStep K kind S M pixels out M' out' answer S'
    accepts_origin_row n M' out' answer S' q y b h =
        let z : offer ≡ 0 = sym (q ∙ offer_judged_law kind S M pixels out) ∙ y in
        let e : row_number ≡ 0 = row_past K kind S M pixels out z ∙ rw b in
        record { refusal = λ k. absurd (k e); accepted = λ _. h }

  module _ (out : OriginRows A) where
    pub refuses_origin_drain : (n : ℕ) (answer : Answer) (S' : State) → n ≡ drain_asked kind S M out → (n ≡ 0 → ⊥) → row_said_of answer ≡ refused n 0 → S' ≡ S
        → OriginDrainStep K kind S M out M out answer S'
    refuses_origin_drain n answer S' q h s t =
        let e : n ≡ origin_drain_number kind S M out = q ∙ drain_judged_law kind S M out in
        record {
          refusal = λ _. record { plain = record { said = rw (← e) s; state = t; memory = refl; output = refl }; columns = refl; rows = refl; origin_columns = refl };
          accepted = λ k. absurd (h (e ∙ k));
        }

    -- the row that the stage worked on is none of the picture's
    pub accepts_origin_drain : (n : ℕ) (work : List A) (M' : OriginMemory A) (out' : OriginRows A) (answer : Answer) (S' : State) → n ≡ drain_asked kind S M out → n ≡ 0
        → OriginsAdvanced K S M work out M' out' answer S' → OriginDrainStep K kind S M out M' out' answer S'
    accepts_origin_drain n work M' out' answer S' q y h =
        let z : origin_drain_number kind S M out ≡ 0 = sym (q ∙ drain_judged_law kind S M out) ∙ y in
        let p = origin_drain_plain kind S M out z in
        let a = (drain_accepted kind S (length M.cells.values) (length M.cells.positions) M.cells.starts M.cells.lengths (length out.pixels) p).read in
        let plain = accepts_drain K kind S M.cells out.pixels work M'.cells out'.pixels answer S' p h.plain in
        record {
          refusal = λ k. absurd (k z);
          accepted = λ _. record {
            plain = plain.accepted p;
            columns_long = h.columns_long;
            columns_past = h.columns_past;
            columns_put_holds = λ k _. absurd (omega arith);
            columns_stay = h.columns_stay;
            early = h.early;
            rows_told = λ p whole holds _. h.rows_told p whole holds (λ k. absurd (omega arith));
            told = λ p whole holds _. h.told p whole holds (λ k. absurd (omega arith));
          };
        }

-- a step over a copy of the row is a step over the row
pub origins_as : {A : Type 0} (K : Samples A) (S : State) (M : OriginMemory A) (work pixels : List A) (out : OriginRows A) (M' : OriginMemory A) (out' : OriginRows A) (answer : Answer) (S' : State) → work ≡ pixels
    → OriginsAdvanced K S M work out M' out' answer S' → OriginsAdvanced K S M pixels out M' out' answer S'
origins_as K S M work pixels out M' out' answer S' e h = subst (λ w. OriginsAdvanced K S M w out M' out' answer S') e h
