-- Which rule decides, and what holds where none is broken; and with that what a call has promised.
use mathlib.Core.Path.{◌≡◌, refl, sym, ap, ◌∙◌}
use mathlib.Core.Logic.{◌≢◌}
use mathlib.Core.Bool.{not}
use mathlib.Core.List.{List, [], ◌∷◌}
use Prim.Native.Nat.{ℕ, ◌*◌, ◌/◌, ◌%◌, ◌≤◌, ◌<◌}
use native.Mathlib.Omega.{arith}
use borrow.Author.Tests.{eqb-true, ltb-false, eq-eqb, ne_eqb, lt-ltb, le-ltb, not-false}
use lib.Dec.{eqb, ltb}
use lib.ListN.{length}
use Rattle.morph.specs.Numbers.{given}
use Rattle.morph.specs.Picture.{Stage}
use Rattle.morph.proofs.Numbers.{first_zero, given_zero, skip, found}
use Rattle.sample.specs.Samples.{Samples, first_bad}
use Rattle.plan_record.specs.Numbers.{size_number}
use Rattle.plan_record.proofs.Numbers.{size_accepted}
use Rattle.whole_judge.specs.declared.Filtered.{Filtered}
use Rattle.whole_judge.specs.Whole.{lent_judged, whole_said, Changes, FiltersWhole}

-- ---- the rules

-- what is lent to a call that is taken
pub record Lent (plan width rows pixels places : ℕ) : Type 0 where
  pub planned : plan ≡ 0
  pub some : 0 < width
  pub width_fits : width ≤ 4096
  pub rows_fit : rows ≤ 65535
  pub whole : pixels ≡ rows * width
  pub room : width ≤ places

module _ (plan width rows pixels places : ℕ) where
  -- the rules behind the size's, behind the picture's
  abbrev lent_rules : List ℕ
  lent_rules = given 7 (not (eqb pixels (rows * width))) ∷ given 6 (ltb places width) ∷ []

  pub judge_plan_law : plan ≢ 0 → plan ≡ lent_judged plan width rows pixels places
  unfolding lent_judged
  judge_plan_law h = found plan (size_number width rows ∷ lent_rules) refl h

  module _ (p : plan ≡ 0) where
    pub judge_sizes : {n : ℕ} → n ≡ size_number width rows → n ≢ 0 → n ≡ lent_judged plan width rows pixels places
    unfolding lent_judged
    judge_sizes e h = skip plan (size_number width rows ∷ lent_rules) p (found (size_number width rows) lent_rules e h)

    module _ (z : size_number width rows ≡ 0) where
      pub judge_picture : pixels ≢ rows * width → 7 ≡ lent_judged plan width rows pixels places
      unfolding lent_judged
      judge_picture h = skip plan (size_number width rows ∷ lent_rules) p (skip (size_number width rows) lent_rules z (rw (ne_eqb pixels (rows * width) h) refl))

      module _ (e : pixels ≡ rows * width) where
        pub judge_row_law : places < width → 6 ≡ lent_judged plan width rows pixels places
        unfolding lent_judged
        judge_row_law h = skip plan (size_number width rows ∷ lent_rules) p (skip (size_number width rows) lent_rules z (rw (eq-eqb pixels (rows * width) e, lt-ltb places width h) refl))

        pub judge_taken : width ≤ places → 0 ≡ lent_judged plan width rows pixels places
        unfolding lent_judged
        judge_taken h = skip plan (size_number width rows ∷ lent_rules) p (skip (size_number width rows) lent_rules z (rw (eq-eqb pixels (rows * width) e, le-ltb places width h) refl))

  pub lent_all : lent_judged plan width rows pixels places ≡ 0 → Lent plan width rows pixels places
  unfolding lent_judged
  lent_all h =
      let (a, b) = first_zero plan (size_number width rows ∷ lent_rules) h in
      let (c, d) = first_zero (size_number width rows) lent_rules b in
      let (e, f) = first_zero (given 7 (not (eqb pixels (rows * width)))) (given 6 (ltb places width) ∷ []) d in
      let g = (first_zero (given 6 (ltb places width)) [] f).0 in
      let (u, v, w, x) = size_accepted width rows c in
      record { planned = a; some = u; width_fits = v; rows_fit = x; whole = eqb-true pixels (rows * width) (not-false _ (given_zero 6 _ e)); room = ltb-false places width (given_zero 5 _ g) }

-- ---- the promise

module _ {A : Type 0} (K : Samples A) (Ss : List (Stage A)) (plan width rows : ℕ) (picture row : List A) where
  abbrev judged : ℕ
  judged = lent_judged plan width rows (length picture) (length row)

  -- what is lent is refused
  pub whole_refused : {n : ℕ} {r : Filtered} → n ≡ judged → n ≢ 0 → r ≡ record { number = n; row = 0; column = 0 } → FiltersWhole K Ss width rows picture row picture row plan r
  unfolding whole_said
  whole_refused {n} e h f = record {
    told = f ∙ rw (← e, ne_eqb n 0 h) refl;
    refuses = λ _. (refl, refl);
    filters = λ z. absurd (h (sym (ap (λ (q : Filtered). q.number) f) ∙ z));
  }

  module _ (z : judged ≡ 0) where
    -- a pixel is, at this place
    pub whole_not_finite : {r : Filtered} (place : ℕ) (picture' : List A) → place ≡ first_bad K picture → place < length picture → picture' ≡ picture
        → r ≡ record { number = 8; row = place / width; column = place % width } → FiltersWhole K Ss width rows picture row picture' row plan r
    unfolding whole_said
    whole_not_finite place picture' e h s f = record {
      told = f ∙ rw (z, ← e, lt-ltb place (length picture) h) refl;
      refuses = λ _. (s, refl);
      filters = λ y. let b : ◌≡◌ {A = ℕ} 8 0 = sym (ap (λ (q : Filtered). q.number) f) ∙ y in absurd (omega arith);
    }

    -- nothing is
    pub whole_done : {r : Filtered} (picture' row' : List A) → length picture ≤ first_bad K picture → r ≡ record { number = 0; row = 0; column = 0 } → Changes K Ss width rows picture row picture' row'
        → FiltersWhole K Ss width rows picture row picture' row' plan r
    unfolding whole_said
    whole_done picture' row' h f d = record {
      told = f ∙ rw (z, le-ltb (first_bad K picture) (length picture) h) refl;
      refuses = λ n. absurd (n (ap (λ (q : Filtered). q.number) f));
      filters = λ _. d;
    }
