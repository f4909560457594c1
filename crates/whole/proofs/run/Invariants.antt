-- What is left of the plan, applied to the picture as it is, is the plan's answer.
use Rattle.whole_judge.proofs.Plan.{Applying}
use Rattle.whole.proofs.run.Given as goal

abbrev pub invariant-loop-next : goal.invariant-loop-next
invariant-loop-next g l = Applying g.S.Sample.samples.order g.S.Choice.Fair l.fn.plan l.fn.grid.width l.fn.grid.rows l.initial.picture l.initial.row l.next-index l.picture l.row
