-- What is left to judge decides.
use Rattle.std.proofs.Common.{◌≡◌, refl, sym, ap, ◌∙◌, ◌<◌, length, get_or, take, get_or-take, length-take-le, arith}
use Rattle.morph.proofs.Numbers.{judging_next, judging_found, judging_last}
use Rattle.plan_record.proofs.Exits.{said_up, refused_some}
use Rattle.plan_record.proofs.Laws.{count_accepted}
use Rattle.plan_record.proofs.Named.{counted}
use Rattle.plan_record.specs.Plan.{unused, record_stage_number, record_stages_number, record_number}
use Rattle.plan_record.proofs.judge.Goals as goal

pub returns-in_err-judge_extents : goal.returns-in_err-judge_extents
unfolding record_number record_stages_number
returns-in_err-judge_extents c =
    let p = c.args.plan in
    let i = c.loop-stage.stage-index in
    let n = counted p.count (sym c.in_ok-judge_count.ensures) in
    let l : length (take p.count p.stages) ≡ p.count = length-take-le p.count p.stages (omega arith) in
    let h : i < p.count = omega arith in
    let e = c.in_err-judge_extents.ensures ∙ ap record_stage_number (get_or-take p.count p.stages i unused h) in
    count_accepted p.count (record_stages_number p) c.in_ok-judge_count.ensures refl
    (said_up c.in_err-judge_extents.field-0.0 _ c.from_residual-in_err-judge_extents.ensures.1 (e ∙ judging_found p.count (λ k. record_stage_number (get_or p.stages k unused)) i c.loop-stage.invariant h (λ z. refused_some c.in_err-judge_extents.field-0.0 (e ∙ z))))

pub loop-stage-preserved : goal.loop-stage-preserved
loop-stage-preserved c =
    let p = c.args.plan in
    let i = c.loop-stage.stage-index in
    let n = counted p.count (sym c.in_ok-judge_count.ensures) in
    let l : length (take p.count p.stages) ≡ p.count = length-take-le p.count p.stages (omega arith) in
    let h : i < p.count = omega arith in
    judging_next p.count (λ k. record_stage_number (get_or p.stages k unused)) i c.loop-stage.invariant h
    (sym (c.in_ok-judge_extents.ensures ∙ ap record_stage_number (get_or-take p.count p.stages i unused h)))

pub returns : goal.returns
unfolding record_number record_stages_number
returns c =
    let p = c.args.plan in
    let n = counted p.count (sym c.in_ok-judge_count.ensures) in
    let l : length (take p.count p.stages) ≡ p.count = length-take-le p.count p.stages (omega arith) in
    count_accepted p.count (record_stages_number p) c.in_ok-judge_count.ensures refl
    (judging_last p.count (λ k. record_stage_number (get_or p.stages k unused)) c.loop-stage.stage-index c.loop-stage.invariant (omega arith))
