-- Sums over the rows so far: they grow, and the rows looked at are all rows until one takes the sum over the limit.
use mathlib.Core.Path.{◌≡◌, refl}
use Prim.Native.Nat.{ℕ, zero, suc, ◌≤◌, ◌<◌}
use native.Mathlib.Omega.{arith}
use borrow.Author.Tests.{leb-true, leb-false, ltb-true, ltb-false, lt-ltb, le-ltb}
use lib.Dec.{leb, ltb}
use Rattle.morph.specs.Lists.{sum_to}
use Rattle.morph.specs.Picture.{Picture}
use Rattle.morph.proofs.Lists.{split}
use Rattle.worn.specs.Runs.{residue_at, looked_at}

pub sum_grows : (f : ℕ → ℕ) (k m : ℕ) → k ≤ m → sum_to k f ≤ sum_to m f
sum_grows f k zero h = let e : k ≡ 0 = omega arith in rw e (omega arith)
sum_grows f k (suc m) h =
    split (leb k m)
    (λ t. omega (arith, sum_grows f k m (leb-true k m t)))
    (λ t. let e : k ≡ suc m = omega (arith, leb-false k m t) in rw e (omega arith))

module _ (a b c d width rows limit : ℕ) (closed input : Picture ℕ) where
  abbrev residues : ℕ → ℕ
  residues = residue_at a b c d width rows limit closed input

  abbrev looked : ℕ → ℕ
  looked = looked_at a b c d width rows limit closed input

  pub looked_all : (t : ℕ) → sum_to t residues ≤ limit → looked t ≡ t
  looked_all zero h = refl
  looked_all (suc t) h = let k : sum_to t residues ≤ limit = omega (arith, h) in rw (le-ltb limit (sum_to t residues) k) refl

  looked_over : (t : ℕ) → limit < sum_to t residues → limit < sum_to (looked t) residues
  looked_over zero h = h
  looked_over (suc t) h = split (ltb limit (sum_to t residues)) (λ e. rw e (looked_over t (ltb-true limit (sum_to t residues) e))) (λ e. rw e h)

  -- the rows looked at are over the limit exactly where all rows so far are
  pub looked_same : (t : ℕ) → ltb limit (sum_to (looked t) residues) ≡ ltb limit (sum_to t residues)
  looked_same t =
      split (ltb limit (sum_to t residues))
      (λ e. rw (e, lt-ltb limit (sum_to (looked t) residues) (looked_over t (ltb-true limit (sum_to t residues) e))))
      (λ e. rw (looked_all t (ltb-false limit (sum_to t residues) e)) refl)
