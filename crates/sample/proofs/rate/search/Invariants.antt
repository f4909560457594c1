-- The columns passed are finite.
use Rattle.sample.specs.Samples.{rates}
use Rattle.sample.proofs.Rows.{Searched}
use Rattle.sample.proofs.rate.search.Given as goal

abbrev pub invariant-loop-i : goal.invariant-loop-i
invariant-loop-i l = Searched rates l.row l.i
