-- The rows from row z on have taken theirs.
use Rattle.sweep.proofs.Back.{Lowering}
use Rattle.sweep.proofs.lower.Given as goal

abbrev pub invariant-loop-z : goal.invariant-loop-z
invariant-loop-z g l = Lowering g.S.Sample.samples.order.blank (g.S.Choice.pick l.kind) l.fn.grid.width l.fn.grid.rows l.s l.initial.picture l.z l.picture

abbrev pub decreases-loop-z : goal.decreases-loop-z
decreases-loop-z g l = l.z
