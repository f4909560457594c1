-- Laws of the first broken rule. A loop that judges one thing after another carries `first_of (drop i l) ≡ first_of l`: what is left decides.
use mathlib.Core.Path.{◌≡◌, refl, sym, ap, ◌∙◌}
use mathlib.Core.Bool.{Bool, true, false}
use mathlib.Core.List.{List, [], ◌∷◌}
use Prim.Native.Nat.{ℕ, zero, suc, ◌+◌, ◌≤◌, ◌<◌}
use native.Mathlib.Nat.{not-suc-le-zero}
use native.Mathlib.Numerals.{add-one}
use native.Mathlib.Omega.{arith}
use borrow.Author.Tests.{eqb-false, ltb-false, ne_eqb, le-ltb}
use lib.Dec.{eqb, ltb}
use lib.ListN.{length, drop, drop_of_length-le}
use lib.Seq.{drop-cons}
use Rattle.morph.specs.Lists.{tabulate, Each}
use Rattle.morph.proofs.Lists.{neither, length_tabulate, get_d_tabulate}
use Rattle.morph.specs.Numbers.{given, first_of, outside, is_extent_over}

-- ---- one rule after another

pub first_one : (a : ℕ) → first_of (a ∷ []) ≡ a
first_one zero = refl
first_one (suc a) = refl

pub first_skip : (a : ℕ) (l : List ℕ) → a ≡ 0 → first_of (a ∷ l) ≡ first_of l
first_skip zero l e = refl
first_skip (suc a) l e = absurd (omega arith)

pub first_found : (a : ℕ) (l : List ℕ) → (a ≡ 0 → ⊥) → first_of (a ∷ l) ≡ a
first_found zero l e = absurd (e refl)
first_found (suc a) l e = refl

-- the same of a number that was found: it is the first of a list behind a rule that holds, or of a list that it is the head of
pub skip : {m : ℕ} (a : ℕ) (l : List ℕ) → a ≡ 0 → m ≡ first_of l → m ≡ first_of (a ∷ l)
skip a l e q = q ∙ sym (first_skip a l e)

pub found : {m : ℕ} (a : ℕ) (l : List ℕ) → m ≡ a → (m ≡ 0 → ⊥) → m ≡ first_of (a ∷ l)
found a l e h = e ∙ sym (first_found a l (λ z. h (e ∙ z)))

-- where nothing is refused, each rule holds
pub first_zero : (a : ℕ) (l : List ℕ) → first_of (a ∷ l) ≡ 0 → (a ≡ 0) × (first_of l ≡ 0)
first_zero zero l e = (refl, e)
first_zero (suc a) l e = absurd (omega arith)

pub given_zero : (n : ℕ) (b : Bool) → given (suc n) b ≡ 0 → b ≡ false
given_zero n true e = absurd (omega arith)
given_zero n false e = refl

-- ---- the rules that several layers judge by: what holds where they do, and back

pub inside : (most n : ℕ) → outside most n ≡ false → (0 < n) × (n ≤ most)
inside most n e =
    let (a, b) = neither (eqb n 0) (ltb most n) e in
    let z = eqb-false n 0 a in
    (omega (arith, z), ltb-false most n b)

pub not_outside : (most n : ℕ) → 0 < n → n ≤ most → outside most n ≡ false
not_outside most n h k = rw (ne_eqb n 0 (λ e. omega arith), le-ltb most n k)

pub extents_fit : (l : List ℕ) → is_extent_over l ≡ false → Each (λ e. e ≤ 31) l
extents_fit [] e = tt
extents_fit (a ∷ l) e = let (b, d) = neither (ltb 31 a) (is_extent_over l) e in (ltb-false 31 a b, extents_fit l d)

pub none_over : (l : List ℕ) → Each (λ e. e ≤ 31) l → is_extent_over l ≡ false
none_over [] h = refl
none_over (a ∷ l) (h, k) = rw (le-ltb 31 a h, none_over l k)

-- ---- a loop that judges n things, f giving the number of each

abbrev pub Judging : ℕ → (ℕ → ℕ) → ℕ → Type 0
Judging n f i = first_of (drop i (tabulate n f)) ≡ first_of (tabulate n f)

module _ (n : ℕ) (f : ℕ → ℕ) (i : ℕ) (left : Judging n f i) where
  head : i < n → first_of (f i ∷ drop (suc i) (tabulate n f)) ≡ first_of (tabulate n f)
  head h =
      let l : length (tabulate n f) ≡ n = length_tabulate n f in
      ap (λ v. first_of (v ∷ drop (suc i) (tabulate n f))) (sym (get_d_tabulate n f i 0 h)) ∙ ap first_of (sym (drop-cons (tabulate n f) i 0 (omega arith))) ∙ left

  pub judging_next : i < n → f i ≡ 0 → Judging n f (i + 1)
  judging_next h e = rw add-one (sym (first_skip (f i) (drop (suc i) (tabulate n f)) e) ∙ head h)

  pub judging_found : i < n → (f i ≡ 0 → ⊥) → f i ≡ first_of (tabulate n f)
  judging_found h e = sym (first_found (f i) (drop (suc i) (tabulate n f)) e) ∙ head h

  pub judging_last : n ≤ i → 0 ≡ first_of (tabulate n f)
  judging_last h = ap first_of (sym (drop_of_length-le (tabulate n f) {i = i} (omega (arith, length_tabulate n f)))) ∙ left

-- where nothing is refused, each is judged 0; and back
pub all_zero : (n : ℕ) (f : ℕ → ℕ) → first_of (tabulate n f) ≡ 0 → (i : ℕ) → i < n → f i ≡ 0
all_zero zero f e i h = absurd (not-suc-le-zero h)
all_zero (suc n) f e zero h = (first_zero (f zero) (tabulate n (λ k. f (suc k))) e).0
all_zero (suc n) f e (suc i) h = all_zero n (λ k. f (suc k)) (first_zero (f zero) (tabulate n (λ k. f (suc k))) e).1 i (omega arith)

pub none_refused : (n : ℕ) (f : ℕ → ℕ) → ((i : ℕ) → i < n → f i ≡ 0) → first_of (tabulate n f) ≡ 0
none_refused zero f h = refl
none_refused (suc n) f h = first_skip (f zero) (tabulate n (λ k. f (suc k))) (h zero (omega arith)) ∙ none_refused n (λ k. f (suc k)) (λ i k. h (suc i) (omega arith))
