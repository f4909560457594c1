-- A read that failed brought nothing.
use Rattle.std.specs.Io.KnownBytes.{Keeps}
use Rattle.descriptors.proofs.read_patiently.Given as goal

abbrev pub invariant-loop : goal.invariant-loop
invariant-loop g l = Keeps (g.R.Read.remaining l.initial.from) (g.R.Read.remaining l.from)
