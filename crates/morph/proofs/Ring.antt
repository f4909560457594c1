-- What a pop, an ageing and a push do to a queue in a ring.
use mathlib.Core.Path.{◌≡◌, sym, ap, ◌∙◌}
use mathlib.Core.List.{List, [], ◌∷◌, ◌++◌}
use mathlib.Core.Logic.{◌≢◌}
use Prim.Native.Nat.{ℕ, suc, ◌+◌, ◌-◌, ◌≤◌, ◌<◌, min}
use native.Mathlib.Omega.{arith}
use borrow.Author.Tests.{ltb-true, ltb-false, lt-ltb, le-ltb}
use lib.Dec.{ltb}
use lib.ListN.{length, take, drop, get_or}
use Rattle.morph.specs.Line.{Entry}
use Rattle.morph.specs.Ring.{wrap, ring, entries}
use Rattle.morph.proofs.Lists.{split, length_tabulate, get_d_tabulate, tabulate_ext, take_tabulate, tabulate_snoc}

pub wrap_low : (n j : ℕ) → j < n → wrap n j ≡ j
unfolding wrap
wrap_low n j h = rw (lt-ltb j n h)

pub wrap_high : (n j : ℕ) → n ≤ j → wrap n j ≡ j - n
unfolding wrap
wrap_high n j h = rw (le-ltb j n h)

pub wrap_lt : (n j : ℕ) → j < n + n → wrap n j < n
unfolding wrap
wrap_lt n j h = split (ltb j n) (λ p. rw p (omega (arith, ltb-true))) (λ p. rw p (omega (arith, ltb-false)))

-- two positions less than a turn apart are two
pub wrap_ne : (n j k : ℕ) → j < k → k < j + n → k < n + n → wrap n j ≢ wrap n k
unfolding wrap
wrap_ne n j k h l m =
    split (ltb j n)
    (λ p. split (ltb k n) (λ q. rw (p, q) (omega arith)) (λ q. rw (p, q) (omega (arith, ltb-true, ltb-false))))
    (λ p. split (ltb k n) (λ q. absurd (omega (arith, ltb-true, ltb-false))) (λ q. rw (p, q) (omega (arith, ltb-false))))

pub wrap_add : (n j i : ℕ) → j + i < n + n → wrap n (wrap n j + i) ≡ wrap n (j + i)
unfolding wrap
wrap_add n j i h =
    split (ltb j n)
    (λ p. rw p)
    (λ p. rw (p, lt-ltb (j - n + i) n (omega (arith, ltb-false)), le-ltb (j + i) n (omega (arith, ltb-false))) (omega (arith, ltb-false)))

-- one place has one before it
pub wrap_one : (n i j : ℕ) → i < n → j < n → wrap n (i + 1) ≡ wrap n (j + 1) → i ≡ j
unfolding wrap
wrap_one n i j h k e =
    split (ltb (i + 1) n)
    (λ p. split (ltb (j + 1) n) (λ q. omega (arith, rw (p, q) at e)) (λ q. omega (arith, ltb-true, ltb-false, rw (p, q) at e)))
    (λ p. split (ltb (j + 1) n) (λ q. omega (arith, ltb-true, ltb-false, rw (p, q) at e)) (λ q. omega (arith, ltb-false, rw (p, q) at e)))

-- the place before that of entry k + 1 is that of entry k; d stands for k + 1
pub wrap_before : (n start d i : ℕ) → start < n → 0 < d → d ≤ n → i < n → wrap n (i + 1) ≡ wrap n (start + d) → i ≡ wrap n (start + (d - 1))
wrap_before n start d i h k l m e =
    let s : start + (d - 1) + 1 ≡ start + d = omega arith in
    wrap_one n i (wrap n (start + (d - 1))) m (wrap_lt n (start + (d - 1)) (omega arith))
    (e ∙ ap (wrap n) (sym s) ∙ sym (wrap_add n (start + (d - 1)) 1 (omega arith)))

module _ {B : Type 0} (n start : ℕ) (cell : ℕ → B) where
  pub ring_length : (len : ℕ) → length (ring n start len cell) ≡ len
  unfolding ring
  ring_length len = length_tabulate len _

  pub ring_at : (len i : ℕ) (d : B) → i < len → get_or (ring n start len cell) i d ≡ cell (wrap n (start + i))
  unfolding ring
  ring_at len i d h = get_d_tabulate len _ i d h

  -- from the tail
  pub ring_take : (len k : ℕ) → k ≤ len → take k (ring n start len cell) ≡ ring n start k cell
  unfolding ring
  ring_take len k h = let e : min k len ≡ k = omega arith in rw (take_tabulate, e)

  -- from the front
  pub ring_drop : (len : ℕ) → start < n → suc len ≤ n → drop 1 (ring n start (suc len) cell) ≡ ring n (wrap n (start + 1)) len cell
  unfolding ring
  ring_drop len h k =
      tabulate_ext len _ _ (λ i l. let e : start + suc i ≡ start + 1 + i = omega arith in ap cell (rw (e, wrap_add n (start + 1) i (omega arith))))

  -- one more
  pub ring_push : (other : ℕ → B) (len : ℕ) → start < n → len < n → ((k : ℕ) → k < n → k ≢ wrap n (start + len) → other k ≡ cell k)
      → ring n start (suc len) other ≡ ring n start len cell ++ (other (wrap n (start + len)) ∷ [])
  unfolding ring
  ring_push other len h k e =
      tabulate_snoc len (λ i. other (wrap n (start + i)))
      ∙ ap (λ l. l ++ (other (wrap n (start + len)) ∷ []))
      (tabulate_ext len _ _ (λ i l. e (wrap n (start + i)) (wrap_lt n (start + i) (omega arith)) (wrap_ne n (start + i) (start + len) (omega arith) (omega arith) (omega arith))))

module _ {A : Type 0} (d : A) (n start len : ℕ) (values : List A) (positions : List ℕ) where
  pub entries_length : length (entries d n start len values positions) ≡ len
  unfolding entries
  entries_length = ring_length n start _ len

  pub entries_value : (i k : ℕ) (e : Entry A) → i < len → wrap n (start + i) ≡ k → (get_or (entries d n start len values positions) i e).value ≡ get_or values k d
  unfolding entries
  entries_value i k e h w = ap (λ r. r.value) (ring_at n start _ len i e h) ∙ ap (λ j. get_or values j d) w
