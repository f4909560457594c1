-- The slice that the flag names has reached r back.
use Rattle.std.proofs.Common.{◌≡◌, ◌-◌, ◌≤◌, length}
use Rattle.morph.specs.Order.{order_of}
use Rattle.passes.specs.Inner.{held, ThenBack}
use Rattle.passes.proofs.line_back.Given as goal

abbrev pub invariant-loop-r : goal.invariant-loop-r
invariant-loop-r g l = (length l.a ≡ length l.initial.a) × (length l.t ≡ length l.initial.a) × (l.r ≤ l.far) × ThenBack (order_of l.kind g.S.Sample.samples.order) g.S.Choice.Fair 1 l.r l.ahead (held l.turn l.initial.a l.initial.t) (held l.flip l.a l.t)

abbrev pub decreases-loop-r : goal.decreases-loop-r
decreases-loop-r g l = l.far - l.r
