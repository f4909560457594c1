-- The sum so far is that of the stages so far.
use Rattle.std.proofs.Common.{◌≡◌, ◌*◌, ◌≤◌, take}
use Rattle.plan_record.specs.Plan.{total, cells_of}
use Rattle.plan_record.proofs.cells.Given as goal

abbrev pub invariant-loop-stage : goal.invariant-loop-stage
invariant-loop-stage l = (l.needed ≡ total (cells_of l.width) (take l.stage-index l.stage-items)) × (l.needed ≤ l.stage-index * 2093056)
