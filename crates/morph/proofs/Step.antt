-- A queue's step as it is done equals the line's queue one step on, and its count is document 01's. By which idea: the queue falls, so what a value passes is its tail.
use mathlib.Core.Path.{◌≡◌, refl, sym, ap, ◌∙◌}
use mathlib.Core.Bool.{Bool, true, false, cond}
use mathlib.Core.List.{List, [], ◌∷◌, ◌++◌}
use Prim.Native.Nat.{ℕ, zero, suc, ◌+◌, ◌-◌, ◌≤◌, ◌<◌}
use native.Mathlib.Nat.{zero-add}
use native.Mathlib.Omega.{arith}
use borrow.Author.Tests.{leb-true, lt-ltb, eq-eqb, ne_eqb, eqb-true, eqb-false}
use lib.Dec.{leb, eqb}
use lib.ListN.{length, take, get_or, length-append}
use lib.Seq.{take-suc, take-length, take_at}
use Rattle.morph.specs.Order.{Order}
use Rattle.morph.specs.Lists.{Each}
use Rattle.morph.specs.Line.{Entry, aged, queue, falling, Rising, passed, unpassed, comparisons}
use Rattle.morph.specs.Inner.{popped, roomed, stepped, step_cost}
use Rattle.morph.proofs.Lists.{split, both, each_take, each_in}
use Rattle.morph.proofs.Line.{passed_tail, passed_count, none_unpassed, queue_falls, queue_read, queue_drain, queue_rising, queue_sound}

run_suc : (p n c : ℕ) → cond (eqb (suc p) (suc n)) (suc p + c) (suc p) ≡ suc (cond (eqb p n) (p + c) p)
run_suc p n c =
    split (eqb p n)
    (λ t. rw (t, eq-eqb (suc p) (suc n) (omega (arith, eqb-true p n t))) (omega arith))
    (λ t. rw (t, ne_eqb (suc p) (suc n) (λ e. eqb-false p n t (omega arith))))

module _ {A : Type 0} where
  -- ---- popping from the tail

  module _ (f : A → Bool) where
    popped_last : (q : List (Entry A)) (e : Entry A) → popped f (q ++ (e ∷ [])) ≡ cond (f e.value) (suc (popped f q)) 0
    popped_last [] e = split (f e.value) (λ p. cc) (λ p. cc)
    popped_last (r ∷ q) e =
        let i = popped_last q e in
        let l : length (q ++ (e ∷ [])) ≡ suc (length q) = rw length-append (omega arith) in
        split (f e.value) (λ p. rw (i, l, p) (run_suc (popped f q) (length q) (cond (f r.value) 1 0))) (λ p. rw (i, l, p, ne_eqb 0 (suc (length q)) (λ z. omega arith)))

    -- a loop that pops: n entries are left of q, and p are gone
    pub record Popping (q : List (Entry A)) (n p : ℕ) : Type 0 where
      pub left : n + p ≡ length q
      pub spent : popped f q ≡ p + popped f (take n q)

    module _ (q : List (Entry A)) where
      pub pop_start : Popping q (length q) 0
      pop_start = record { left = omega arith; spent = rw (take-length, zero-add) }

      pub pop_end : (p : ℕ) → Popping q 0 p → popped f q ≡ p
      pop_end p h = omega (arith, h.spent)

      -- m + 1 are left, and d serves where there is none
      module _ (n m p : ℕ) (d : Entry A) (e : n ≡ suc m) (h : Popping q n p) where
        last : popped f (take n q) ≡ cond (f (get_or q m d).value) (suc (popped f (take m q))) 0
        last = rw (e, take-suc q m d (omega (arith, h.left))) (popped_last (take m q) (get_or q m d))

        pub pop_more : f (get_or q m d).value ≡ true → Popping q m (p + 1)
        pop_more t = record { left = omega (arith, h.left); spent = omega (arith, h.spent, rw t at last) }

        pub pop_stop : f (get_or q m d).value ≡ false → popped f q ≡ p
        pop_stop t = omega (arith, h.spent, rw t at last)

    pub popped_le : (q : List (Entry A)) → popped f q ≤ length q
    popped_le [] = omega arith
    popped_le (e ∷ q) =
        let i = popped_le q in
        split (eqb (popped f q) (length q)) (λ t. split (f e.value) (λ s. rw (t, s) (omega arith)) (λ s. rw (t, s) (omega arith))) (λ t. rw t (omega arith))

  -- tests that agree on a queue pop the same
  pub popped_agrees : (f g : A → Bool) (q : List (Entry A)) → Each (λ e. f e.value ≡ g e.value) q → popped f q ≡ popped g q
  popped_agrees f g [] h = refl
  popped_agrees f g (e ∷ q) h = rw (popped_agrees f g q h.1, h.0)

  -- ---- room for one more

  rising_room : (s : ℕ) (e : Entry A) (q : List (Entry A)) → Rising (e ∷ q) → Each (λ r. r.position < s) (e ∷ q) → e.position + suc (length q) ≤ s
  rising_room s e [] r h = omega arith
  rising_room s e (f ∷ q) r h = omega (arith, rising_room s f q r.1 h.1)

  -- a full queue whose positions are all of the window has its oldest grown too old
  pub roomed_ages : (w s : ℕ) (q : List (Entry A)) → 0 < w → Rising q → Each (λ e. e.position < s) q → roomed w s q ≡ aged (suc s - w) q
  unfolding roomed
  roomed_ages w s [] h r b = split (leb w 0) (λ t. rw t) (λ t. rw t)
  roomed_ages w s (e ∷ q) h r b =
      split (leb w (suc (length q)))
      (λ t. rw (t, lt-ltb e.position (suc s - w) (omega (arith, rising_room s e q r b, leb-true w (suc (length q)) t))))
      (λ t. rw t)

  rising_take : (n : ℕ) (q : List (Entry A)) → Rising q → Rising (take n q)
  rising_take zero q r = tt
  rising_take (suc n) [] r = tt
  rising_take (suc n) (e ∷ []) r = tail n
    where
      tail : (n : ℕ) → Rising (take (suc n) (e ∷ []))
      tail zero = tt
      tail (suc n) = tt
  rising_take (suc zero) (e ∷ f ∷ q) r = tt
  rising_take (suc (suc n)) (e ∷ f ∷ q) r = (r.0, rising_take (suc n) (f ∷ q) r.1)

-- ---- over an order

module _ {A : Type 0} (O : Order A) where
  module _ (a : A) where
    popped_passed : (q : List (Entry A)) → falling O q ≡ true → popped (λ b. O.le b a) q ≡ length (passed O a q)
    popped_passed [] h = refl
    popped_passed (e ∷ q) h =
        let b = both _ (falling O q) h in
        let i = popped_passed q b.1 in
        split (O.le e.value a)
        (λ p. let n = ap length (none_unpassed O a e q p b.0) in rw (p, i, eq-eqb (length (passed O a q)) (length q) (omega (arith, passed_count O a q))) (omega (arith, passed_count O a q)))
        (λ p. rw (p, i) (split (eqb (length (passed O a q)) (length q)) (λ t. rw t (omega arith)) (λ t. rw t)))

    unpassed_kept : (q : List (Entry A)) → falling O q ≡ true → take (length q - popped (λ b. O.le b a) q) q ≡ unpassed O a q
    unpassed_kept q h =
        let n : length (unpassed O a q) ≡ length q - popped (λ b. O.le b a) q = omega (arith, passed_count O a q, popped_passed q h) in
        ap (take (length q - popped (λ b. O.le b a) q)) (sym (passed_tail O a q h)) ∙ take_at (unpassed O a q) (passed O a q) _ n

    cost_comparisons : (q : List (Entry A)) → falling O q ≡ true → step_cost (λ b. O.le b a) q ≡ comparisons O a q
    unfolding step_cost comparisons
    cost_comparisons q h =
        let n : length q - length (passed O a q) ≡ length (unpassed O a q) = omega (arith, passed_count O a q) in rw (popped_passed q h, n)

  -- ---- the queue of a line

  module _ (w : ℕ) (xs : List A) (s : ℕ) where
    queue_below : Each (λ e. e.position < s) (queue O w xs s)
    queue_below = each_in (queue O w xs s) (λ e i. (queue_sound O w xs s e i).done)

    -- the test need tell what a passes on the queue only
    module _ (f : A → Bool) (a : A) (agrees : Each (λ e. f e.value ≡ O.le e.value a) (queue O w xs s)) where
      pub step_read : 0 < w → s < length xs → a ≡ get_or xs s O.blank → stepped f w s a (queue O w xs s) ≡ queue O w xs (suc s)
      unfolding stepped
      step_read p h e =
          let q = queue O w xs s in
          let n = length q - popped f q in
          let k : take (length q - popped f q) q ≡ unpassed O a q = rw (popped_agrees f (λ b. O.le b a) q agrees) (unpassed_kept a q (queue_falls O w xs s)) in
          let r : roomed w s (unpassed O a q) ≡ aged (suc s - w) (unpassed O a q) =
          rw (← k) (roomed_ages w s (take (length q - popped f q) q) p (rising_take n q (queue_rising O w xs s)) (each_take _ n q queue_below)) in
          rw (k, r, e) (sym (queue_read O w xs s p h))

      pub step_cost_law : step_cost f (queue O w xs s) ≡ comparisons O a (queue O w xs s)
      unfolding step_cost
      step_cost_law = rw (popped_agrees f (λ b. O.le b a) (queue O w xs s) agrees) (cost_comparisons a (queue O w xs s) (queue_falls O w xs s))

    pub step_drain : 0 < w → length xs ≤ s → roomed w s (queue O w xs s) ≡ queue O w xs (suc s)
    step_drain p h = roomed_ages w s (queue O w xs s) p (queue_rising O w xs s) queue_below ∙ sym (queue_drain O w xs s h)
