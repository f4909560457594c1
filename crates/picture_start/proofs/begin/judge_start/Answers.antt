-- What the memory is judged by is accepted.
use mathlib.Core.Path.{sym}
use Rattle.plan_record.proofs.Numbers.{size_accepted}
use Rattle.picture_state.proofs.Numbers.{plan_accepted}
use Rattle.picture_start.proofs.begin.judge_start.Goals as goal

pub judge_memory-requires : goal.judge_memory-requires
judge_memory-requires c =
    let p = plan_accepted c.args.plan (sym c.in_ok-judge.ensures) in
    let (_, w, _, _) = size_accepted c.args.width c.args.rows (sym c.in_ok-judge_size.ensures) in
    (p.few, w)
