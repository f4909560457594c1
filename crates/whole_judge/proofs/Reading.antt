-- A picture is read: of floats it is refused, or it stands as it is, or its negative zeros are made positive; of bytes it stands as it is.
use mathlib.Core.Path.{◌≡◌, sym}
use mathlib.Core.Bool.{true}
use mathlib.Core.List.{List, [], ◌∷◌, map}
use Prim.Native.Nat.{ℕ, ◌≤◌}
use native.Mathlib.Omega.{arith}
use lib.Dec.{T}
use Rattle.std.specs.Prelude.{None}
use lib.Ieee.{Float, binary32, fits}
use lib.Ieee.Scale.{finite}
use lib.ListN.{length}
use Rattle.morph.specs.Lists.{all, Each}
use Rattle.morph.specs.Rate.{plus_zero_of}
use Rattle.morph.specs.Grey.{grey}
use Rattle.morph.proofs.Lists.{both}
use Rattle.sample.specs.Rate.{accepted}
use Rattle.sample.specs.Samples.{first_bad, greys, rates}
use Rattle.sample.proofs.Rows.{none_first, is_all, accepted_row, good_grey, taken_grey}
use Rattle.laws.specs.Laws.{Taken}
use Rattle.laws.proofs.Twice.{read_taken}
use Rattle.passes.specs.Inner.{Any}
use Rattle.passes.proofs.Reach.{any_each}
use Rattle.whole_judge.specs.Inner.{Read}

-- each as it is read
all_taken : (l : List Float) → Each (λ x. T (fits binary32 x)) l → all finite l ≡ true → Each Taken (map plus_zero_of l)
all_taken [] p h = tt
all_taken (x ∷ l) (p, ps) h = let (a, b) = both (finite x) (all finite l) h in (read_taken x p a, all_taken l ps b)

taken_all : (l : List Float) → Each (λ x. T (fits binary32 x)) l → all accepted l ≡ true → Each Taken l
taken_all [] p h = tt
taken_all (x ∷ l) (p, ps) h = let (a, b) = both (accepted x) (all accepted l) h in ((p, a), taken_all l ps b)

module _ (l : List Float) (p : Each (λ x. T (fits binary32 x)) l) where
  pub read_as_is : all accepted l ≡ true → Read rates Taken l l None
  read_as_is h = let (f, e) = accepted_row l p h in (omega (arith, none_first rates l f), sym e, taken_all l p h)

  pub read_cleaned : {r : ℕ} → r ≡ first_bad rates l → (l' : List Float) → length l ≤ r → l' ≡ map plus_zero_of l → Read rates Taken l l' None
  read_cleaned {r} e l' h f = (omega arith, f, rw f (all_taken l p (is_all rates l r e h)))

-- a picture of bytes stands as it is
pub read_bytes : (l : List ℕ) → Read greys Any l l None
read_bytes l = (good_grey l, sym (taken_grey l), any_each grey l)
