-- `cells_of` meets its contract.
use mathlib.Core.Path.{ap}
use Prim.Native.Nat.{◌*◌}
use native.Mathlib.Omega.{arith}
use Rattle.plan_record.proofs.Laws.{mul_most}
use Rattle.chain.proofs.cells_of.Goals as goal

pub overflow_mul-result : goal.overflow_mul-result
overflow_mul-result c = omega (arith, mul_most c.args.width c.size_of.result 4096 511 c.requires.1 c.size_of.ensures.1)

pub returns : goal.returns
returns c = ap (λ n. c.args.width * n) c.size_of.ensures.0
