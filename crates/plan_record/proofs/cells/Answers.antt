-- The sum so far is that of the stages so far.
use Rattle.std.proofs.Common.{ap, ℕ, ◌*◌, take, arith}
use Rattle.plan_record.specs.Plan.{unused, cells_of}
use Rattle.plan_record.proofs.Laws.{sum_more, mul_most}
use Rattle.plan_record.proofs.cells.Goals as goal

pub loop-stage-preserved : goal.loop-stage-preserved
loop-stage-preserved c =
    let a = c.args in
    let m = mul_most a.width c.size_of.result 4096 511 (omega arith) (omega arith) in
    (sum_more (cells_of a.width) (take a.plan.count a.plan.stages) c.loop-stage.stage-index unused c.loop-stage-test.true c.loop-stage.invariant.0 (ap (λ (n : ℕ). a.width * n) c.size_of.ensures.0), omega arith)
