-- Rule by rule, in their order.
use mathlib.Core.Path.{sym, ap, ◌∙◌}
use Rattle.morph.specs.Refusals.{said}
use native.Mathlib.Omega.{arith}
use Rattle.plan_record.proofs.Exits.{said_up, refused_some}
use Rattle.plan_record.proofs.Numbers.{size_accepted}
use Rattle.plan_record.proofs.Laws.{mul_most}
use Rattle.whole_judge.proofs.Judging.{judge_plan_law, judge_sizes, judge_picture, judge_row_law, judge_taken}
use Rattle.whole_judge.proofs.judge.Goals as goal

pub returns-in_err-judged : goal.returns-in_err-judged
returns-in_err-judged c =
    let e = sym (ap said c.in_err-judged.was) in
    said_up c.in_err-judged.field-0.0 _ c.from_residual.ensures.1 (e ∙ judge_plan_law _ _ _ _ _ (λ z. refused_some c.in_err-judged.field-0.0 (e ∙ z)))

pub returns-in_err-judge_size : goal.returns-in_err-judge_size
returns-in_err-judge_size c =
    let e = c.in_err-judge_size.ensures in
    said_up c.in_err-judge_size.field-0.0 _ c.from_residual-in_err-judge_size.ensures.1 (judge_sizes _ _ _ _ _ (ap said c.in_ok-judged.was) e (refused_some c.in_err-judge_size.field-0.0))

pub overflow_mul-rows : goal.overflow_mul-rows
overflow_mul-rows c =
    let a = c.args in
    let (_, w, _, h) = size_accepted a.width a.rows (sym c.in_ok-judge_size.ensures) in
    omega (arith, mul_most a.rows a.width 65535 4096 h w)

pub returns-then-pixels-rows : goal.returns-then-pixels-rows
returns-then-pixels-rows c = judge_picture _ _ _ _ _ (ap said c.in_ok-judged.was) (sym c.in_ok-judge_size.ensures) c.if-pixels-rows.true

pub returns-then-places-width : goal.returns-then-places-width
returns-then-places-width c = judge_row_law _ _ _ _ _ (ap said c.in_ok-judged.was) (sym c.in_ok-judge_size.ensures) c.if-pixels-rows.false c.if-places-width.true

pub returns : goal.returns
returns c = judge_taken _ _ _ _ _ (ap said c.in_ok-judged.was) (sym c.in_ok-judge_size.ensures) c.if-pixels-rows.false c.if-places-width.false
