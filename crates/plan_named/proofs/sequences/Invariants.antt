-- The plan so far is that of the orders so far.
use Rattle.std.proofs.Common.{◌≡◌, ◌-◌, ◌*◌}
use Rattle.plan_record.specs.Plan.{plan_of, alternating_stages}
use Rattle.plan_named.proofs.sequences.Given as goal

abbrev pub invariant-loop-extent : goal.invariant-loop-extent
invariant-loop-extent l = (l.plan ≡ plan_of (alternating_stages (l.extent - 1))) × (l.plan.count ≡ 4 * (l.extent - 1))
