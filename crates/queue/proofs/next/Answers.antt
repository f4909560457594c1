-- `queue::next` meets its contract: by the two cases of `wrap`.
use Rattle.std.proofs.Common.{sym, ◌+◌, arith}
use Rattle.morph.proofs.Ring.{wrap_low, wrap_high}
use Rattle.queue.proofs.next.Goals as goal

pub returns-then-j-places : goal.returns-then-j-places
returns-then-j-places c = let z = wrap_high c.args.places (c.args.i + 1) (omega arith) in (omega arith, omega arith)

pub returns-else-j-places : goal.returns-else-j-places
returns-else-j-places c = (sym (wrap_low _ _ (omega arith)), omega arith)
