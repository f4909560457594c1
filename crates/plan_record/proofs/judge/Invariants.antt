-- What is left to judge decides.
use Rattle.std.proofs.Common.{get_or}
use Rattle.morph.proofs.Numbers.{Judging}
use Rattle.plan_record.specs.Plan.{unused, record_stage_number}
use Rattle.plan_record.proofs.judge.Given as goal

abbrev pub invariant-loop-stage : goal.invariant-loop-stage
invariant-loop-stage l = Judging l.fn.plan.count (λ k. record_stage_number (get_or l.fn.plan.stages k unused)) l.stage-index
