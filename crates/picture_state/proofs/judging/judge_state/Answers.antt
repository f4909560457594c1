-- The plan is accepted, and the rows are few, where the step count is asked of them.
use mathlib.Core.Path.{sym, ◌∙◌}
use Rattle.plan_record.proofs.Exits.{said_ok}
use Rattle.picture_state.proofs.Numbers.{plan_accepted, ahead_few, rows_few}
use Rattle.picture_state.proofs.judging.judge_state.Goals as goal

pub look_ahead-requires : goal.look_ahead-requires
look_ahead-requires c = (plan_accepted c.args.state.plan (sym c.judge.ensures ∙ said_ok c.judge.result (sym c.if-is_err.ensures.value))).few

pub step_off-requires : goal.step_off-requires
step_off-requires c =
    let s = c.args.state in
    let p = plan_accepted s.plan (sym c.judge.ensures ∙ said_ok c.judge.result (sym c.if-is_err.ensures.value)) in
    (rows_few s.ending s.width s.rows (sym c.judge_size.ensures ∙ said_ok c.judge_size.result (sym c.if-is_err-3.ensures.value)), rw c.look_ahead.ensures (ahead_few s.plan p))
