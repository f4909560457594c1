-- `move_on` meets its contract: a row is taken, or the columns age.
use Rattle.origin.proofs.Stages.{taken_origins, drained_origins}
use Rattle.stage_origin.proofs.move_on.Goals as goal

pub returns-then-t-rows : goal.returns-then-t-rows
returns-then-t-rows g c =
    taken_origins g.S.Sample.samples _ _ _ _ _ _ _ _ _ _ c.if-t-rows.true c.take_row.ensures

pub returns : goal.returns
returns g c =
    drained_origins g.S.Sample.samples _ _ _ _ _ _ _ _ c.if-t-rows.false c.requires.5 c.requires.2.starts_long (rw c.size_of.ensures.0 at c.drain.ensures.0)
