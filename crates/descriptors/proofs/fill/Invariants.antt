-- What came so far stands at the part's front, and each turn brings one byte at least.
use Rattle.std.proofs.Common.{length, take, ◌-◌, ◌≤◌}
use Rattle.std.specs.Io.KnownBytes.{Consumes}
use Rattle.descriptors.proofs.fill.Given as goal

abbrev pub invariant-loop-got : goal.invariant-loop-got
invariant-loop-got g l = (l.got ≤ length l.part) × Consumes (g.R.Read.remaining l.initial.from) (g.R.Read.remaining l.from) (take l.got l.part)

abbrev pub decreases-loop-got : goal.decreases-loop-got
decreases-loop-got g l = length l.initial.part - l.got
