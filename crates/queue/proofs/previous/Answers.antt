-- `queue::previous` meets its contract: by the two cases of `wrap`.
use Rattle.std.proofs.Common.{◌+◌, ◌-◌, arith}
use Rattle.morph.proofs.Ring.{wrap_low, wrap_high}
use Rattle.queue.proofs.previous.Goals as goal

pub returns-then-i-eq0 : goal.returns-then-i-eq0
returns-then-i-eq0 c = (omega arith, let z = wrap_high c.args.places (c.args.places - 1 + 1) (omega arith) in omega arith)

pub returns-else-i-eq0 : goal.returns-else-i-eq0
returns-else-i-eq0 c = (omega arith, let z = wrap_low c.args.places (c.args.i - 1 + 1) (omega arith) in omega arith)
