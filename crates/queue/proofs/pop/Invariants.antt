-- `pop` meets its contract. The loop's invariant: `left` entries are left, and `at` is the place behind them.
use Rattle.std.proofs.Common.{◌≡◌, ◌≤◌, ◌+◌, length}
use Rattle.morph.specs.Ring.{wrap}
use Rattle.queue.proofs.Laws.{Left}
use Rattle.queue.proofs.pop.Given as goal

abbrev pub invariant-loop-left : goal.invariant-loop-left
invariant-loop-left g l = (l.left ≤ l.count) × (l.at ≡ wrap (length l.values) (l.start + l.left)) × Left (g.S.Sample.samples.passes l.kind l.v) g.S.Sample.samples.order.blank (length l.values) l.start l.count l.values l.left

abbrev pub decreases-loop-left : goal.decreases-loop-left
decreases-loop-left g l = l.left
