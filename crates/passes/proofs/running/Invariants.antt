-- The places so far are done.
use Rattle.std.proofs.Common.{◌≡◌, ◌<◌, length}
use Rattle.passes.proofs.Pass.{Running}
use Rattle.passes.proofs.running.Given as goal

abbrev pub invariant-loop-i : goal.invariant-loop-i
invariant-loop-i g l = Running g.S.Sample.samples.order.blank (g.S.Choice.pick l.kind) l.i l.row l.out × (0 < l.i) × (length l.row ≡ length l.initial.out)
