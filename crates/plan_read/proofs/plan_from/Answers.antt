-- The count, then stage by stage.
use mathlib.Core.Path.{◌≡◌, refl, sym, ap, ◌∙◌}
use Prim.Native.Nat.{ℕ}
use mathlib.Core.List.{List, []}
use lib.ListN.{length, get_or}
use Rattle.morph.specs.Lists.{tabulate}
use Rattle.morph.specs.Numbers.{first_of}
use Rattle.morph.proofs.Numbers.{judging_next, judging_found, judging_last}
use Rattle.plan_record.specs.Plan.{plan_of, stage_out_of, stage_number, stages_given, given_number, plan_given}
use Rattle.plan_record.proofs.Exits.{refused_some}
use Rattle.plan_record.proofs.Laws.{reading_refused, reading_accepted, count_accepted, table_more}
use Rattle.plan_record.proofs.Named.{counted}
use native.Mathlib.Omega.{arith}
use Rattle.plan_read.proofs.plan_from.Goals as goal

-- stage by stage 2, 3
abbrev number : List (List ℕ) → ℕ → ℕ
number stages k = stage_number (get_or stages k []) 0

abbrev numbers : List (List ℕ) → ℕ
numbers stages = first_of (tabulate (length stages) (number stages))

pub returns-in_err-stage_from : goal.returns-in_err-stage_from
unfolding plan_given given_number
returns-in_err-stage_from c =
    let stages = c.args.stages.now in
    let e = c.in_err-stage_from.ensures in
    reading_refused (plan_of (stages_given stages)) c.in_err-stage_from.field-0.0 _ c.from_residual-in_err-stage_from.ensures.1
    (count_accepted (length stages) (numbers stages) c.in_ok-judge_count.ensures refl
    (e ∙ judging_found (length stages) (number stages) c.loop-stage.stage-index c.loop-stage.invariant.2 c.loop-stage-test.true (λ z. refused_some c.in_err-stage_from.field-0.0 (e ∙ z))))

pub loop-stage-preserved : goal.loop-stage-preserved
loop-stage-preserved c =
    let stages = c.args.stages.now in
    let n = counted (length stages) (sym c.in_ok-judge_count.ensures) in
    let i = c.loop-stage.stage-index in (
      table_more (λ k. stage_out_of (get_or stages k []) 0) i (omega arith) c.add-plan.ensures.0 c.loop-stage.invariant.0 c.in_ok-stage_from.ensures.0,
      omega arith,
      judging_next (length stages) (number stages) i c.loop-stage.invariant.2 c.loop-stage-test.true c.in_ok-stage_from.ensures.1,
    )

pub returns : goal.returns
unfolding plan_given given_number stages_given
returns c =
    let stages = c.args.stages.now in
    let i = c.loop-stage.stage-index in
    let n : i ≡ length stages = omega arith in
    reading_accepted (plan_of (stages_given stages))
    (sym (count_accepted (length stages) (numbers stages) c.in_ok-judge_count.ensures refl (judging_last (length stages) (number stages) i c.loop-stage.invariant.2 c.loop-stage-test.false)))
    (c.loop-stage.invariant.0 ∙ ap (λ (n : ℕ). plan_of (tabulate n (λ k. stage_out_of (get_or stages k []) 0))) n)
