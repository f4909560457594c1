-- What was judged has a plan whose look-ahead is small, and few rows where they count.
use mathlib.Core.Path.{sym}
use Rattle.picture_state.proofs.Numbers.{shared_accepted, ahead_few}
use Rattle.picture_state.proofs.judging.judge_drain.Goals as goal

pub look_ahead-requires : goal.look_ahead-requires
look_ahead-requires c = (shared_accepted _ _ _ _ _ _ (sym c.in_ok-judge_lent.ensures)).run.plan.few

pub no_drain-requires : goal.no_drain-requires
no_drain-requires c =
    let f = shared_accepted _ _ _ _ _ _ (sym c.in_ok-judge_lent.ensures) in
    (f.run.closed, rw c.look_ahead.ensures (ahead_few c.args.state.plan f.run.plan))
