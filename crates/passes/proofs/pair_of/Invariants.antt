-- The places so far hold the better of the two, and those from here on are as they were.
use Rattle.std.proofs.Common.{◌-◌, ◌≤◌, length}
use Rattle.sample.proofs.Rows.{Filling}
use Rattle.passes.specs.Inner.{pairs}
use Rattle.passes.proofs.pair_of.Given as goal

abbrev pub invariant-loop-i : goal.invariant-loop-i
invariant-loop-i g l = Filling (pairs g.S.Sample.samples.order.blank (g.S.Choice.pick g.W.Way.KIND) l.s (length l.initial.out) l.row) l.initial.out l.out l.i × (length l.initial.out ≤ length l.row - l.s)
