-- `move_on` meets its contract: a row is taken, or the columns age.
use Rattle.stage.proofs.Stage.{taken_moved, drained_moved}
use Rattle.stage.proofs.move_on.Goals as goal

pub returns-then-t-rows : goal.returns-then-t-rows
returns-then-t-rows g c =
    taken_moved g.S.Sample.samples _ _ _ _ _ _ _ _ c.if-t-rows.true c.take_row.ensures

pub returns : goal.returns
returns g c =
    drained_moved g.S.Sample.samples _ _ _ _ _ _ _ c.if-t-rows.false c.requires.4 c.requires.2.starts_long (rw c.size_of.ensures.0 at c.drain.ensures.0)
