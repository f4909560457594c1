-- The test of the column records is true exactly where each of them is sound. By which idea: `all` over a list is its test at each place.
use mathlib.Core.Path.{◌≡◌, refl}
use mathlib.Core.Bool.{Bool, true}
use mathlib.Core.List.{List, [], ◌∷◌}
use Prim.Native.Nat.{ℕ, zero, suc, ◌<◌}
use native.Mathlib.Nat.{not-suc-le-zero}
use native.Mathlib.Omega.{arith}
use borrow.Author.Tests.{ltb-true, leb-true, lt-ltb, le-leb}
use lib.Dec.{ltb, leb}
use lib.ListN.{length, get_or}
use Rattle.morph.specs.Lists.{all}
use Rattle.morph.proofs.Lists.{both}
use Rattle.memory.specs.Inner.{RecordsSound}
use Rattle.memory.specs.Memory.{sound_records}

all_each : (p : ℕ → Bool) (l : List ℕ) → all p l ≡ true → (i : ℕ) → i < length l → p (get_or l i 0) ≡ true
all_each p [] h i k = absurd (not-suc-le-zero k)
all_each p (a ∷ l) h zero k = (both (p a) (all p l) h).0
all_each p (a ∷ l) h (suc i) k = all_each p l (both (p a) (all p l) h).1 i (omega arith)

each_all : (p : ℕ → Bool) (l : List ℕ) → ((i : ℕ) → i < length l → p (get_or l i 0) ≡ true) → all p l ≡ true
each_all p [] h = refl
each_all p (a ∷ l) h = cc (h zero (omega arith), each_all p l (λ i k. h (suc i) (omega arith)))

module _ (P W : ℕ) (starts lengths : List ℕ) (a : length starts ≡ W) (b : length lengths ≡ W) where
  pub test_sound : sound_records P starts lengths ≡ true → RecordsSound P W starts lengths
  unfolding sound_records
  test_sound h =
      let (c, d) = both (all (λ s. ltb s P) starts) (all (λ n. leb n P) lengths) h in
      record {
        below = λ x k. ltb-true (get_or starts x 0) P (all_each (λ s. ltb s P) starts c x (omega arith));
        fits = λ x k. leb-true (get_or lengths x 0) P (all_each (λ n. leb n P) lengths d x (omega arith));
      }

  pub sound_test : RecordsSound P W starts lengths → sound_records P starts lengths ≡ true
  unfolding sound_records
  sound_test h =
      rw (
        each_all (λ s. ltb s P) starts (λ x k. lt-ltb (get_or starts x 0) P (h.below x (omega arith))),
        each_all (λ n. leb n P) lengths (λ x k. le-leb (get_or lengths x 0) P (h.fits x (omega arith))),
      )
