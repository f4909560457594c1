-- The plan, then the width, then what is needed.
use Rattle.std.proofs.Common.{sym}
use Rattle.plan_record.proofs.Named.{judged_count}
use Rattle.plan_record.proofs.Numbers.{size_accepted}
use Rattle.plan_record.proofs.needed.Goals as goal

pub cells-requires : goal.cells-requires
cells-requires c = let (_, w, _, _) = size_accepted c.args.width 1 (sym c.in_ok-judge_size.ensures) in ((judged_count _ (sym c.in_ok-judge.ensures)).1, w)

pub records-requires : goal.records-requires
records-requires c = let (_, w, _, _) = size_accepted c.args.width 1 (sym c.in_ok-judge_size.ensures) in ((judged_count _ (sym c.in_ok-judge.ensures)).1, w)

pub look_ahead-requires : goal.look_ahead-requires
look_ahead-requires c = (judged_count _ (sym c.in_ok-judge.ensures)).1
