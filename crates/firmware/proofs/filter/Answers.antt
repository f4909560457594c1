-- The stages are read, and the plan that they say is applied.
use Rattle.firmware.proofs.Stages.{stages_refused, stages_taken}
use Rattle.firmware.proofs.filter.Goals as goal

pub returns-then-number-ne0 : goal.returns-then-number-ne0
returns-then-number-ne0 g c =
    let a = c.args in stages_refused g.S.Sample.samples a.stages.now a.width a.rows a.picture.now a.row.now c.read_stages-reading.ensures c.if-number-ne0.true c.say.ensures

pub returns : goal.returns
returns g c =
    let a = c.args in stages_taken g.S.Sample.samples a.stages.now a.width a.rows a.picture.now a.row.now c.read_stages-reading.ensures _ _ c.if-number-ne0.false c.apply.ensures
