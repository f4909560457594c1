-- The sum so far is that of the stages so far.
use Rattle.std.proofs.Common.{◌≡◌, ◌*◌, ◌≤◌, take}
use Rattle.plan_record.specs.Plan.{total, below_of}
use Rattle.plan_record.proofs.look_ahead.Given as goal

abbrev pub invariant-loop-stage : goal.invariant-loop-stage
invariant-loop-stage l = (l.ahead ≡ total below_of (take l.stage-index l.stage-items)) × (l.ahead ≤ l.stage-index * 255)
