-- What the code judges is what the definition says. By which idea: a call that asks judges 20 and then all that a call judges that does not ask, with the shortest slice of cells, and with 0, which is no
-- picture's width, for rows out that are not as long as each other.
use mathlib.Core.Path.{◌≡◌, refl, sym, ap, ◌∙◌}
use mathlib.Core.Bool.{Bool, true, false, not, ◌||◌, and-false}
use mathlib.Core.List.{List, [], ◌∷◌, ◌++◌}
use Prim.Native.Nat.{ℕ, zero, suc, ◌≤◌, ◌<◌, min}
use native.Mathlib.Omega.{arith}
use borrow.Author.Tests.{eqb-true, eqb-false, ltb-false, eq-eqb, ne_eqb, le-ltb, not-false}
use lib.Dec.{eqb}
use lib.ListN.{length}
use Rattle.morph.specs.Numbers.{given, first_of}
use Rattle.morph.proofs.Lists.{split, neither}
use Rattle.morph.proofs.Numbers.{first_one, first_zero, given_zero, skip}
use Rattle.plan_record.specs.Plan.{plan_ahead}
use Rattle.picture_state.specs.declared.State.{State}
use Rattle.picture_state.specs.Numbers.{is_all_read, is_past_last, has_no_drain, state_number, lent_number, offer_number, drain_number}
use Rattle.picture_state.specs.Inner.{StateSound}
use Rattle.picture_state.proofs.Numbers.{state_accepted}
use Rattle.picture_origin.specs.Numbers.{several_number, OriginMemory, OriginRows, asked_number, origin_lent_number, out_number, origin_offer_number, origin_drain_number}
use Rattle.picture_origin.specs.Inner.{alike_of}

-- ---- lists of rules

-- rules within rules are one list of rules
first_within : (l m : List ℕ) → first_of (first_of l ∷ m) ≡ first_of (l ++ m)
first_within [] m = refl
first_within (zero ∷ l) m = first_within l m
first_within (suc a ∷ l) m = refl

first_behind : (a : ℕ) (l : List ℕ) → first_of (a ∷ first_of l ∷ []) ≡ first_of (a ∷ l)
first_behind zero l = first_one (first_of l)
first_behind (suc a) l = refl

-- what comes after a rule matters where that holds
first_same : (a : ℕ) (l m : List ℕ) → (a ≡ 0 → first_of l ≡ first_of m) → first_of (a ∷ l) ≡ first_of (a ∷ m)
first_same zero l m h = h refl
first_same (suc a) l m h = refl

given_either : (a b : Bool) → first_of (given 7 (a || b) ∷ []) ≡ first_of (given 7 a ∷ given 7 b ∷ [])
given_either true b = refl
given_either false b = refl

-- ---- rows out that are as long as each other

either_last : (x y z : Bool) → (x || z) ≡ true → (x || y || z) ≡ true
either_last true y z h = refl
either_last false true z h = refl
either_last false false z h = h

three_same : (x : Bool) → not x ≡ (not x || not x || not x)
three_same true = refl
three_same false = refl

module _ (a b c : ℕ) where
  pub alike_all : a ≡ b → a ≡ c → a ≡ alike_of a b c
  unfolding alike_of
  alike_all e f = rw (eq-eqb a b e, eq-eqb a c f)

  pub alike_rows : (a ≡ b → ⊥) → 0 ≡ alike_of a b c
  unfolding alike_of
  alike_rows h = rw (ne_eqb a b h)

  pub alike_columns : (a ≡ c → ⊥) → 0 ≡ alike_of a b c
  unfolding alike_of
  alike_columns h = rw (ne_eqb a c h, and-false (eqb a b))

  module _ (W : ℕ) (w : 0 < W) where
    abbrev off : Bool
    off = not (eqb a W) || not (eqb b W) || not (eqb c W)

    -- two that differ are not both as long as the width
    apart : (x y : ℕ) → (x ≡ y → ⊥) → (not (eqb x W) || not (eqb y W)) ≡ true
    apart x y h = split (eqb x W) (λ e. split (eqb y W) (λ f. absurd (h (eqb-true x W e ∙ sym (eqb-true y W f)))) (λ f. rw (e, f))) (λ e. rw e)

    unlike : 0 ≡ alike_of a b c → off ≡ true → not (eqb (alike_of a b c) W) ≡ off
    unlike e f = rw (← e, f, ne_eqb 0 W (λ (z : 0 ≡ W). omega arith))

    -- their length is not the width exactly where one of them is not as long as the width
    alike_wide : not (eqb (alike_of a b c) W) ≡ off
    alike_wide =
        split (eqb a b)
        (λ e. split (eqb a c)
        (λ f. let d = eqb-true a b e in let g = eqb-true a c f in rw (← alike_all d g, ← d, ← g) (three_same (eqb a W)))
        (λ f. let h = eqb-false a c f in unlike (alike_columns h) (either_last (not (eqb a W)) (not (eqb b W)) (not (eqb c W)) (apart a c h))))
        (λ e. let h = eqb-false a b e in unlike (alike_rows h) (ap (λ (x : Bool). x || not (eqb c W)) (apart a b h)))

    -- where their length is the width, each is as long
    pub alike_each : alike_of a b c ≡ W → (a ≡ W) × (b ≡ W) × (c ≡ W)
    alike_each e =
        let (h, z) = neither (not (eqb a W) || not (eqb b W)) (not (eqb c W)) (sym alike_wide ∙ ap not (eq-eqb (alike_of a b c) W e)) in
        let (x, y) = neither (not (eqb a W)) (not (eqb b W)) h in
        (eqb-true a W (not-false _ x), eqb-true b W (not-false _ y), eqb-true c W (not-false _ z))

-- ---- 12, 20

pub asked_accepted : (S : State) → asked_number S ≡ 0 → (state_number S ≡ 0) × StateSound S × (S.plan.count ≡ 1)
unfolding asked_number
asked_accepted S e =
    let (a, b) = first_zero (state_number S) (several_number S.plan.count ∷ []) e in
    let (c, _) = first_zero (several_number S.plan.count) [] b in
    let (_, s) = state_accepted S a in
    let l = ltb-false 1 S.plan.count (given_zero 19 _ c) in
    (a, s, omega (arith, s.plan.some))

-- where nothing is wrong with the state, and its plan has one stage
pub asked_one : (S : State) → state_number S ≡ 0 → S.plan.count ≤ 1 → 0 ≡ asked_number S
unfolding asked_number
asked_one S z h = skip (state_number S) (several_number S.plan.count ∷ []) z (rw (le-ltb 1 S.plan.count h))

-- ---- a row and a drain

module _ {A : Type 0} where
  -- the positions and the columns lent, and the rows out, as the code counts them
  abbrev pub beside : OriginMemory A → ℕ
  beside M = min (length M.cells.positions) (length M.columns)

  abbrev pub outs : OriginRows A → ℕ
  outs out = alike_of (length out.pixels) (length out.rows) (length out.columns)

  module _ (kind : ℕ) (S : State) (M : OriginMemory A) where
    -- the numbers of calls that do not ask, with so many positions, and a row and a row out of these lengths
    abbrev pub lent_at : ℕ → ℕ
    lent_at positions = lent_number kind S (length M.cells.values) positions M.cells.starts M.cells.lengths

    abbrev pub offer_at : ℕ → ℕ → ℕ → ℕ
    offer_at positions row out = offer_number kind S row out (length M.cells.values) positions M.cells.starts M.cells.lengths

    abbrev pub drain_at : ℕ → ℕ → ℕ
    drain_at positions out = drain_number kind S out (length M.cells.values) positions M.cells.starts M.cells.lengths

    -- what the code judges
    abbrev pub offer_judged : List A → OriginRows A → ℕ
    offer_judged pixels out = first_of (asked_number S ∷ offer_at (beside M) (length pixels) (outs out) ∷ [])

    abbrev pub drain_asked : OriginRows A → ℕ
    drain_asked out = first_of (asked_number S ∷ drain_at (beside M) (outs out) ∷ [])

    outs_wide : (out : OriginRows A) → asked_number S ≡ 0 → given 7 (not (eqb (outs out) S.width)) ≡ out_number S out
    outs_wide out z = let (_, s, _) = asked_accepted S z in ap (given 7) (alike_wide (length out.pixels) (length out.rows) (length out.columns) S.width s.wide)

    pub offer_judged_law : (pixels : List A) (out : OriginRows A) → offer_judged pixels out ≡ origin_offer_number kind S M pixels out
    unfolding offer_number origin_offer_number origin_lent_number
    offer_judged_law pixels out =
        let lent : ℕ = lent_at (beside M) in
        let nine : ℕ = given 9 (is_all_read S.ending S.rows S.step) in
        let last : ℕ = given 28 (is_past_last S.ending S.step) in
        let row : Bool = not (eqb (length pixels) S.width) in
        let off : Bool = not (eqb (outs out) S.width) in
        first_behind (asked_number S) (lent ∷ nine ∷ last ∷ given 7 (row || off) ∷ [])
        ∙ first_same (asked_number S) (lent ∷ nine ∷ last ∷ given 7 (row || off) ∷ []) (lent ∷ nine ∷ last ∷ given 7 row ∷ out_number S out ∷ []) (λ z.
        first_same lent (nine ∷ last ∷ given 7 (row || off) ∷ []) (nine ∷ last ∷ given 7 row ∷ out_number S out ∷ []) (λ _.
        first_same nine (last ∷ given 7 (row || off) ∷ []) (last ∷ given 7 row ∷ out_number S out ∷ []) (λ _.
        first_same last (given 7 (row || off) ∷ []) (given 7 row ∷ out_number S out ∷ []) (λ _.
        given_either row off ∙ ap (λ (n : ℕ). first_of (given 7 row ∷ n ∷ [])) (outs_wide out z)))))
        ∙ sym (first_within (asked_number S ∷ lent ∷ []) (nine ∷ last ∷ given 7 row ∷ out_number S out ∷ []))

    pub drain_judged_law : (out : OriginRows A) → drain_asked out ≡ origin_drain_number kind S M out
    unfolding drain_number origin_drain_number origin_lent_number
    drain_judged_law out =
        let lent : ℕ = lent_at (beside M) in
        let ten : ℕ = given 10 (has_no_drain S.ending S.rows (plan_ahead S.plan) S.step) in
        let off : ℕ = given 7 (not (eqb (outs out) S.width)) in
        first_behind (asked_number S) (lent ∷ ten ∷ off ∷ [])
        ∙ first_same (asked_number S) (lent ∷ ten ∷ off ∷ []) (lent ∷ ten ∷ out_number S out ∷ []) (λ z. ap (λ (n : ℕ). first_of (lent ∷ ten ∷ n ∷ [])) (outs_wide out z))
        ∙ sym (first_within (asked_number S ∷ lent ∷ []) (ten ∷ out_number S out ∷ []))
