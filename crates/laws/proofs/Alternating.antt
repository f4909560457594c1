-- Openings and closings one after the other, done twice: one of each, by any two rectangles, and the alternate sequential filter.
-- By which idea: the answer is closed, by the largest square where there are several, so no closing raises it; and it is nowhere below what was opened before that, which no opening lowers.
use mathlib.Core.Path.{◌≡◌, refl, ap, ◌∙◌}
use mathlib.Core.List.{◌++◌}
use Prim.Native.Nat.{ℕ, zero, suc, ◌≤◌}
use native.Mathlib.Omega.{arith}
use Rattle.morph.specs.Order.{Order}
use Rattle.morph.specs.Picture.{Picture, opening, closing, alternating, apply_plan}
use Rattle.morph.proofs.Picture.{plan_append}
use Rattle.plan_record.specs.Plan.{opening_stages, closing_stages}
use Rattle.laws.specs.Laws.{Sized, Below, Told, TwiceIsOnce}
use Rattle.laws.proofs.Stage.{sized_plan}
use Rattle.laws.proofs.Adjoint.{turned, below_refl, below_trans, stages_monotone, opened_below, closed_above, opened_within, opened_again}
use Rattle.laws.proofs.Same.{Good, settled}

-- ---- an opening and a closing between p and a picture q that it is nowhere above

module _ {A : Type 0} (O : Order A) (W H a b c d : ℕ) (p q : Picture A) (z : Sized W H p) (w : Sized W H q) (f : Below O W H p q) where
  -- where the opening does not lower p, q opened stays nowhere below p
  not_under : Below O W H p (apply_plan (opening O a b c d) p) → Below O W H p (apply_plan (opening O a b c d) q)
  not_under h = below_trans O W H p (apply_plan (opening O a b c d) p) (apply_plan (opening O a b c d) q) h (stages_monotone O W H (opening_stages a b c d) p q z w f)

  -- where a closing does not raise q, p opened and then closed stays nowhere above q
  not_over : (a' b' c' d' : ℕ) → Below O W H (apply_plan (closing O a' b' c' d') q) q → Below O W H (apply_plan (closing O a' b' c' d') (apply_plan (opening O a b c d) p)) q
  not_over a' b' c' d' h =
      let r = apply_plan (opening O a b c d) p in
      below_trans O W H (apply_plan (closing O a' b' c' d') r) (apply_plan (closing O a' b' c' d') q) q
      (stages_monotone O W H (closing_stages a' b' c' d') r q (sized_plan W H (opening O a b c d) p z) w (below_trans O W H r p q (opened_below O W H a b c d p z) f)) h

-- ---- an opening and then a closing

module _ {A : Type 0} (O : Order A) (W H : ℕ) (P : A → Type 0) (told : Told O P) (p : Picture A) (g : Good W H P p) where
  pub opening_closing_twice : (a b c d a' b' c' d' : ℕ) → TwiceIsOnce (opening O a b c d ++ closing O a' b' c' d') p
  unfolding apply_plan
  opening_closing_twice a b c d a' b' c' d' =
      let r = apply_plan (opening O a b c d) p in
      let z = sized_plan W H (opening O a b c d) p g.sized in
      let q = apply_plan (closing O a' b' c' d') r in
      let w = sized_plan W H (closing O a' b' c' d') r z in
      settled O W H P told p g (opening O a b c d ++ closing O a' b' c' d')
      (not_over O W H a b c d q q w w (below_refl O W H q) a' b' c' d' (opened_again (turned O) W H b' a' d' c' r z))
      (stages_monotone O W H (closing_stages a' b' c' d') r (apply_plan (opening O a b c d) q) z (sized_plan W H (opening O a b c d) q w)
      (not_under O W H a b c d r q z w (closed_above O W H a' b' c' d' r z) (opened_again O W H a b c d p g.sized)))

-- ---- the alternate sequential filter

module _ {A : Type 0} (O : Order A) where
  abbrev opened : ℕ → Picture A → Picture A
  opened i p = apply_plan (opening O i i i i) p

  abbrev closed : ℕ → Picture A → Picture A
  closed i p = apply_plan (closing O i i i i) p

  abbrev filtered : ℕ → Picture A → Picture A
  filtered n p = apply_plan (alternating O n) p

  filtered_next : (n : ℕ) (p : Picture A) → filtered (suc n) p ≡ closed (suc n) (opened (suc n) (filtered n p))
  unfolding alternating
  filtered_next n p =
      let m = suc n in
      plan_append (alternating O n ++ opening O m m m m) (closing O m m m m) p ∙ ap (closed m) (plan_append (alternating O n) (opening O m m m m) p)

module _ {A : Type 0} (O : Order A) (W H : ℕ) where
  -- the filter does not raise a picture that no closing up to its order raises
  not_raised : (n : ℕ) (p : Picture A) → Sized W H p → ((i : ℕ) → i ≤ n → Below O W H (closed O i p) p) → Below O W H (filtered O n p) p
  unfolding apply_plan alternating
  not_raised zero p z f = below_refl O W H p
  not_raised (suc n) p z f =
      let m = suc n in
      rw (filtered_next O n p)
      (not_over O W H m m m m (filtered O n p) p (sized_plan W H (alternating O n) p z) z (not_raised n p z (λ i h. f i (omega arith))) m m m m (f m (omega arith)))

  -- a picture that is nowhere below p stays so when it is filtered, where no opening up to the order lowers p
  not_lowered : (n : ℕ) (p q : Picture A) → Sized W H p → Sized W H q → ((i : ℕ) → i ≤ n → Below O W H p (opened O i p)) → Below O W H p q → Below O W H p (filtered O n q)
  unfolding apply_plan alternating
  not_lowered zero p q z w f g = g
  not_lowered (suc n) p q z w f g =
      let m = suc n in
      let r = filtered O n q in
      let v = sized_plan W H (alternating O n) q w in
      rw (filtered_next O n q)
      (below_trans O W H p (opened O m r) (closed O m (opened O m r)) (not_under O W H m m m m p r z v (not_lowered n p q z w (λ i h. f i (omega arith)) g) (f m (omega arith)))
      (closed_above O W H m m m m (opened O m r) (sized_plan W H (opening O m m m m) r v)))

module _ {A : Type 0} (O : Order A) (W H n : ℕ) (p : Picture A) (z : Sized W H p) where
  abbrev m : ℕ
  m = suc n

  -- what the last opening gives, and what closing it gives, which is the whole filter's answer
  abbrev last : Picture A
  last = opened O m (filtered O n p)

  abbrev whole : Picture A
  whole = closed O m last

  last_sized : Sized W H last
  last_sized = sized_plan W H (opening O m m m m) (filtered O n p) (sized_plan W H (alternating O n) p z)

  whole_sized : Sized W H whole
  whole_sized = sized_plan W H (closing O m m m m) last last_sized

  whole_below : Below O W H (filtered O m whole) whole
  whole_below = not_raised O W H m whole whole_sized (λ i h. opened_within (turned O) W H m m m m i i i i h h h h last last_sized)

  whole_above : Below O W H whole (filtered O m whole)
  whole_above =
      let q = filtered O n whole in
      let v = sized_plan W H (alternating O n) whole whole_sized in
      let stays : (i : ℕ) → i ≤ m → Below O W H last (opened O i last) = λ i h. opened_within O W H m m m m i i i i h h h h (filtered O n p) (sized_plan W H (alternating O n) p z) in
      rw (filtered_next O n whole)
      (stages_monotone O W H (closing_stages m m m m) last (opened O m q) last_sized (sized_plan W H (opening O m m m m) q v)
      (not_under O W H m m m m last q last_sized v
      (not_lowered O W H n last whole last_sized whole_sized (λ i h. stays i (omega arith)) (closed_above O W H m m m m last last_sized)) (stays m (omega arith))))

module _ {A : Type 0} (O : Order A) (W H : ℕ) (P : A → Type 0) (told : Told O P) (p : Picture A) (g : Good W H P p) where
  pub alternating_twice : (n : ℕ) → TwiceIsOnce (alternating O n) p
  unfolding apply_plan alternating
  alternating_twice zero = refl
  alternating_twice (suc n) =
      settled O W H P told p g (alternating O (suc n)) (rw (filtered_next O n p) (whole_below O W H n p g.sized)) (rw (filtered_next O n p) (whole_above O W H n p g.sized))
