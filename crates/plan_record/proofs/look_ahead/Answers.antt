-- The sum so far is that of the stages so far.
use Rattle.std.proofs.Common.{take, arith}
use Rattle.plan_record.specs.Plan.{unused, below_of}
use Rattle.plan_record.proofs.Laws.{sum_more}
use Rattle.plan_record.proofs.look_ahead.Goals as goal

pub loop-stage-preserved : goal.loop-stage-preserved
loop-stage-preserved c =
    let a = c.args in
    (sum_more below_of (take a.plan.count a.plan.stages) c.loop-stage.stage-index unused c.loop-stage-test.true c.loop-stage.invariant.0 c.below-ahead.ensures.0, omega arith)
