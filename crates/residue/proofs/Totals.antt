-- A total over the first n places, of which a sum is one and "some place has it" another: places that add nothing can be left out at both ends.
-- By which idea: all that is asked of the total is that one place more goes by the total so far and by what that place has.
use Rattle.std.proofs.Common.{◌≡◌, refl, sym, ap, ◌∙◌, false, ℕ, zero, suc, ◌+◌, ◌-◌, ◌≤◌, ◌<◌, add-zero, add-suc, arith}
use Rattle.morph.specs.Lists.{sum_to}
use Rattle.residue.specs.Residue.{some_to}

pub record Total {A : Type 0} (nothing : A) (T : ℕ → (ℕ → A) → A) : Type 0 where
  pub empty : (f : ℕ → A) → T zero f ≡ nothing
  pub more : (m n : ℕ) (f g : ℕ → A) → f m ≡ g n → T m f ≡ T n g → T (suc m) f ≡ T (suc n) g
  pub idle : (n : ℕ) (f : ℕ → A) → f n ≡ nothing → T (suc n) f ≡ T n f

module _ {A : Type 0} (nothing : A) (T : ℕ → (ℕ → A) → A) (total : Total nothing T) where
  pub total_none : (n : ℕ) (f : ℕ → A) → ((k : ℕ) → k < n → f k ≡ nothing) → T n f ≡ nothing
  total_none zero f h = total.empty f
  total_none (suc n) f h = total.idle n f (h n (omega arith)) ∙ total_none n f (λ k l. h k (omega arith))

  pub total_same : (n : ℕ) (f g : ℕ → A) → ((k : ℕ) → k < n → f k ≡ g k) → T n f ≡ T n g
  total_same zero f g h = total.empty f ∙ sym (total.empty g)
  total_same (suc n) f g h = total.more n n f g (h n (omega arith)) (total_same n f g (λ k l. h k (omega arith)))

  front : (lo n : ℕ) (f : ℕ → A) → ((k : ℕ) → k < lo → f k ≡ nothing) → T (lo + n) f ≡ T n (λ k. f (lo + k))
  front lo zero f h = rw (add-zero lo) (total_none lo f h ∙ sym (total.empty (λ k. f (lo + k))))
  front lo (suc n) f h = rw (add-suc lo n) (total.more (lo + n) n f (λ k. f (lo + k)) refl (front lo n f h))

  back : (hi n : ℕ) (f : ℕ → A) → ((k : ℕ) → hi ≤ k → f k ≡ nothing) → T (hi + n) f ≡ T hi f
  back hi zero f h = rw (add-zero hi) refl
  back hi (suc n) f h = rw (add-suc hi n) (total.idle (hi + n) f (h (hi + n) (omega arith)) ∙ back hi n f h)

  -- of n places only those from lo up to, not including, hi add anything: these as g has them
  pub total_cut : (lo hi n : ℕ) (f g : ℕ → A) → lo ≤ hi → hi ≤ n → ((k : ℕ) → k < lo → f k ≡ nothing) → ((k : ℕ) → hi ≤ k → f k ≡ nothing)
      → ((k : ℕ) → k < hi - lo → f (lo + k) ≡ g k) → T n f ≡ T (hi - lo) g
  total_cut lo hi n f g h i before behind same =
      let all : n ≡ hi + (n - hi) = omega arith in
      let kept : hi ≡ lo + (hi - lo) = omega arith in
      ap (λ (m : ℕ). T m f) all ∙ back hi (n - hi) f behind ∙ ap (λ (m : ℕ). T m f) kept ∙ front lo (hi - lo) f before ∙ total_same (hi - lo) (λ k. f (lo + k)) g same

pub sum_total : Total 0 sum_to
sum_total = record {
  empty = λ f. refl;
  more = λ m n f g e s. rw (e, s);
  idle = λ n f e. rw (e, add-zero (sum_to n f));
}

pub some_total : Total false some_to
some_total = record {
  empty = λ p. refl;
  more = λ m n p q e s. rw (e, s);
  idle = λ n p e. rw e;
}
