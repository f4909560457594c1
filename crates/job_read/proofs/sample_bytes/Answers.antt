-- Each way out is a case of the definition.
use mathlib.Core.Path.{◌≡◌, refl}
use Prim.Native.Nat.{ℕ, zero, suc}
use Rattle.job_read.specs.Layout.{sample_bytes_of}
use native.Mathlib.Omega.{arith}
use Rattle.job_read.proofs.sample_bytes.Goals as goal

four_bytes : (sample : ℕ) → (sample ≡ 0 → ⊥) → 4 ≡ sample_bytes_of sample
four_bytes zero h = absurd (h refl)
four_bytes (suc n) h = refl

pub returns : goal.returns
returns c = (four_bytes c.args.sample c.if-sample-eq0.false, omega arith, omega arith)
