-- The plan so far is that of the stages so far.
use Rattle.std.proofs.Common.{refl, take, arith}
use Rattle.plan_record.specs.Plan.{unused}
use Rattle.plan_record.proofs.Laws.{used_more}
use Rattle.plan_record.proofs.trimmed.Goals as goal

pub loop-stage-preserved : goal.loop-stage-preserved
loop-stage-preserved c =
    let a = c.args in
    (used_more (take a.plan.count a.plan.stages) c.loop-stage.stage-index unused (omega arith) c.loop-stage-test.true c.add-kept.ensures.0 c.loop-stage.invariant.0 refl, omega arith)
