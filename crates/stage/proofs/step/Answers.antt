-- `step` meets its contract: past the last step nothing changes; before F steps no row is due; else the fronts are the row.
use Rattle.std.proofs.Common.{arith}
use Rattle.stage.proofs.Stage.{done_step, due_step}
use Rattle.stage.proofs.step.Goals as goal

pub returns-then-rows-ahead : goal.returns-then-rows-ahead
returns-then-rows-ahead g c = done_step g.S.Sample.samples _ _ _ _ _ (omega (arith, c.if-rows-ahead.true, c.below-ahead.ensures.0)) c.requires.2

pub returns : goal.returns
returns g c =
    due_step g.S.Sample.samples _ _ _ _ _ _ _ _ c.move_on-c.ensures _ (rw c.size_of.ensures.0 at c.fronts.ensures)
