-- How far the rows behind a sweep have reached: between ticks, and within one.
use mathlib.Core.Path.{◌≡◌, refl, sym, ◌∙◌, subst}
use mathlib.Core.Bool.{true, false, cond}
use mathlib.Core.Logic.{◌⊎◌, inl, inr, ⊎_elim}
use Prim.Native.Nat.{ℕ, zero, suc, ◌+◌, ◌-◌, ◌≤◌, ◌<◌, min}
use native.Mathlib.Nat.{add-zero, add-suc, eq-or-lt_of_le}
use native.Mathlib.Omega.{arith}
use borrow.Author.Tests.{le-leb, lt-leb, eq-eqb, ne_eqb}
use lib.Dec.{leb, eqb}
use Rattle.passes.proofs.Reach.{below_or}
use Rattle.sweep.specs.Inner.{level_of}

-- ---- between ticks

level_same : (far m v : ℕ) → level_of far m ≡ v → eqb (suc m) (v + min (v + 1) (far - v)) ≡ false → level_of far (suc m) ≡ v
unfolding level_of
level_same far m v h n = rw (h, n) refl

level_new : (far m v : ℕ) → level_of far m ≡ v → eqb (suc m) (v + min (v + 1) (far - v)) ≡ true → level_of far (suc m) ≡ suc m
unfolding level_of
level_new far m v h n = rw (h, n) refl

module _ (far r s : ℕ) (h : level_of far r ≡ r) (e : s ≡ min (r + 1) (far - r)) where
  -- until the next step the level stays
  level_stay : (d : ℕ) → (d < s) ⊎ (s ≡ 0) → level_of far (r + d) ≡ r
  level_stay zero p = rw (add-zero r) h
  level_stay (suc d) p =
      let i = level_stay d (⊎_elim (λ (q : suc d < s). inl (omega arith)) (λ q. inr q) p) in
      let n : eqb (suc (r + d)) (r + min (r + 1) (far - r)) ≡ false = ne_eqb _ _ (λ (z : suc (r + d) ≡ r + min (r + 1) (far - r)). ⊎_elim (λ (q : suc d < s). omega arith) (λ (q : s ≡ 0). omega arith) p) in
      rw add-suc (level_same far (r + d) r i n)

  pub level_up : 0 < s → level_of far (r + s) ≡ r + s
  level_up p =
      let i = level_stay (s - 1) (inl (omega arith)) in
      let u : r + s ≡ suc (r + (s - 1)) = omega arith in
      let n : eqb (suc (r + (s - 1))) (r + min (r + 1) (far - r)) ≡ true = eq-eqb (suc (r + (s - 1))) (r + min (r + 1) (far - r)) (omega arith) in
      rw u (level_new far (r + (s - 1)) r i n)

-- ---- within a tick

-- within tick t, once the steps up to reach r are made: the m-th row behind the sweep
abbrev pub within : ℕ → ℕ → ℕ → ℕ
within far r m = cond (leb m r) (level_of far m) (level_of far (m - 1))

pub within_start : (far m : ℕ) → within far 0 m ≡ level_of far (m - 1)
within_start far zero = refl
within_start far (suc m) = rw (lt-leb (suc m) 0 (omega arith)) refl

module _ (far r s : ℕ) (h : level_of far r ≡ r) (e : s ≡ min (r + 1) (far - r)) (p : 0 < s) where
  pub within_up : within far (r + s) (r + s) ≡ r + s
  within_up = rw (le-leb (r + s) (r + s) (omega arith)) (level_up far r s h e p)

  pub within_here : within far r (r + s) ≡ r
  within_here =
      let u : r + s - 1 ≡ r + (s - 1) = omega arith in
      rw (lt-leb (r + s) r (omega arith), u) (level_stay far r s h e (s - 1) (inl (omega arith)))

  pub within_next : within far r r ≡ r
  within_next = rw (le-leb r r (omega arith)) h

  pub within_other : (m : ℕ) → (m ≡ r + s → ⊥) → within far (r + s) m ≡ within far r m
  within_other m n =
      ⊎_elim
      (λ (q : m ≤ r). rw (le-leb m (r + s) (omega arith), le-leb m r q) refl)
      (λ (q : suc r ≤ m). ⊎_elim
      (λ (w : m ≤ r + s).
      let v : m < r + s = ⊎_elim (λ (z : m ≡ r + s). absurd (n z)) (λ z. z) (eq-or-lt_of_le w) in
      let u : r + (m - r) ≡ m = omega arith in
      let u' : r + (m - 1 - r) ≡ m - 1 = omega arith in
      let a : level_of far m ≡ r = subst (λ (k : ℕ). level_of far k ≡ r) u (level_stay far r s h e (m - r) (inl (omega arith))) in
      let b : level_of far (m - 1) ≡ r = subst (λ (k : ℕ). level_of far k ≡ r) u' (level_stay far r s h e (m - 1 - r) (inl (omega arith))) in
      rw (le-leb m (r + s) w, lt-leb m r q) (a ∙ sym b))
      (λ (w : suc (r + s) ≤ m). rw (lt-leb m (r + s) w, lt-leb m r q) refl) (below_or m (r + s)))
      (below_or m r)

-- after the last step of a tick
pub within_end : (far m : ℕ) → level_of far far ≡ far → within far far m ≡ level_of far m
within_end far m h =
    ⊎_elim (λ (q : m ≤ far). rw (le-leb m far q) refl)
    (λ (q : suc far ≤ m).
    let u : far + (m - far) ≡ m = omega arith in
    let v : far + (m - 1 - far) ≡ m - 1 = omega arith in
    let z : ◌≡◌ {A = ℕ} 0 (min (far + 1) (far - far)) = omega arith in
    let a : level_of far m ≡ far = subst (λ (k : ℕ). level_of far k ≡ far) u (level_stay far far 0 h z (m - far) (inr refl)) in
    let b : level_of far (m - 1) ≡ far = subst (λ (k : ℕ). level_of far k ≡ far) v (level_stay far far 0 h z (m - 1 - far) (inr refl)) in
    rw (lt-leb m far q) (b ∙ sym a))
    (below_or m far)

-- far behind the sweep
pub level_far : (far m : ℕ) → level_of far far ≡ far → far ≤ m → level_of far m ≡ far
level_far far m h q =
    let u : far + (m - far) ≡ m = omega arith in
    let z : ◌≡◌ {A = ℕ} 0 (min (far + 1) (far - far)) = omega arith in
    subst (λ (k : ℕ). level_of far k ≡ far) u (level_stay far far 0 h z (m - far) (inr refl))

-- the last step is made in the end
pub level_top : (far : ℕ) → level_of far far ≡ far
level_top far = go far 0 (omega arith) (omega arith) start
  where
    start : level_of far 0 ≡ 0
    start = unfold level_of in refl

    go : (n r : ℕ) → far ≤ r + n → r ≤ far → level_of far r ≡ r → level_of far far ≡ far
    go zero r a b h = let e : r ≡ far = omega arith in rw e at h
    go (suc n) r a b h =
        ⊎_elim (λ (p : far ≤ r). let e : r ≡ far = omega arith in rw e at h)
        (λ (p : suc r ≤ far). go n (r + min (r + 1) (far - r)) (omega arith) (omega arith) (level_up far r (min (r + 1) (far - r)) h refl (omega arith))) (below_or far r)

pub level_none : (far m : ℕ) → m ≡ 0 → level_of far m ≡ 0
unfolding level_of
level_none far m e = rw e refl
