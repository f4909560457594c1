-- The first i places have taken theirs.
use mathlib.Core.Path.{◌≡◌}
use lib.ListN.{length}
use Rattle.sample.proofs.Rows.{Filling}
use Rattle.sweep.specs.Inner.{met}
use Rattle.sweep.proofs.over_of.Given as goal

abbrev pub invariant-loop-i : goal.invariant-loop-i
invariant-loop-i g l = Filling (met g.S.Sample.samples.order.blank (g.S.Choice.pick g.W.Way.KIND) l.initial.rows l.others) l.initial.rows l.rows l.i × (length l.initial.rows ≡ length l.others)
