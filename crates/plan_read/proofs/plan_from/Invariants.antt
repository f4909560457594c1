-- The plan so far is that of the stages so far, and what is left to judge decides.
use mathlib.Core.Path.{◌≡◌}
use mathlib.Core.List.{[]}
use lib.ListN.{length, get_or}
use Rattle.morph.specs.Lists.{tabulate}
use Rattle.morph.proofs.Numbers.{Judging}
use Rattle.plan_record.specs.Plan.{plan_of, stage_out_of, stage_number}
use Rattle.plan_read.proofs.plan_from.Given as goal

abbrev pub invariant-loop-stage : goal.invariant-loop-stage
invariant-loop-stage l =
    (l.plan ≡ plan_of (tabulate l.stage-index (λ k. stage_out_of (get_or l.stages k []) 0)))
    × (l.plan.count ≡ l.stage-index)
    × Judging (length l.stages) (λ k. stage_number (get_or l.stages k []) 0) l.stage-index
