-- `queue::slot` meets its contract: by the two cases of `wrap`.
use Rattle.std.proofs.Common.{sym, arith}
use Rattle.morph.proofs.Ring.{wrap_low, wrap_high}
use Rattle.queue.proofs.slot.Goals as goal

pub returns-then-i-places : goal.returns-then-i-places
returns-then-i-places c = (sym (wrap_low _ _ c.if-i-places.true), omega arith)

pub returns-else-i-places : goal.returns-else-i-places
returns-else-i-places c = (sym (wrap_high _ _ c.if-i-places.false), omega arith)
