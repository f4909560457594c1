-- At most 4,096 samples of at most four bytes.
use mathlib.Core.Path.{ap}
use Prim.Native.Nat.{ℕ, ◌*◌}
use native.Mathlib.Omega.{arith}
use Rattle.turns.proofs.Phases.{row_few}
use Rattle.turns.proofs.row_size.Goals as goal

pub overflow_mul-result : goal.overflow_mul-result
overflow_mul-result c = omega (arith, row_few c.args.state.width c.sample_bytes.result c.requires c.sample_bytes.ensures.2)

pub returns : goal.returns
returns c =
    let a = c.args.state in
    let s = c.sample_bytes in
    (ap (λ (n : ℕ). a.width * n) s.ensures.0, row_few a.width s.result c.requires s.ensures.2)
