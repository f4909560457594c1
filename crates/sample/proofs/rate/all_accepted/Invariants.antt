-- The flag is that of the columns passed.
use Rattle.std.proofs.Common.{◌≡◌, ◌≤◌, length, take}
use Rattle.morph.specs.Lists.{all}
use Rattle.sample.specs.Rate.{accepted}
use Rattle.sample.proofs.rate.all_accepted.Given as goal

abbrev pub invariant-loop-x : goal.invariant-loop-x
invariant-loop-x l = (l.x-index ≤ length l.row) × (l.good ≡ all accepted (take l.x-index l.row))
