-- The flag says it of the columns so far.
use Rattle.std.proofs.Common.{◌≡◌}
use Rattle.residue.specs.Residue.{darker, some_to}
use Rattle.residue.proofs.some_negative.Given as goal

abbrev pub invariant-loop-x : goal.invariant-loop-x
invariant-loop-x l = l.flag ≡ some_to l.x (darker l.closed l.input)
