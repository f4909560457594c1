-- The plan so far is that of the stages so far.
use Rattle.std.proofs.Common.{◌≡◌, take}
use Rattle.plan_record.specs.Plan.{plan_of}
use Rattle.plan_record.proofs.trimmed.Given as goal

abbrev pub invariant-loop-stage : goal.invariant-loop-stage
invariant-loop-stage l = (l.kept ≡ plan_of (take l.stage-index l.stage-items)) × (l.kept.count ≡ l.stage-index)
