-- The frame of the floats so far, and behind it what was there.
use Rattle.floats.proofs.Bytes.{Framing}
use Rattle.floats.proofs.give_out.Given as goal

abbrev pub invariant-loop-i : goal.invariant-loop-i
invariant-loop-i l = Framing l.row l.initial.frame l.frame l.i
