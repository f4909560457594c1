-- The row fills with the floats of its bytes.
use lib.ListN.{length}
use Rattle.sample.proofs.Rows.{Filling}
use Rattle.sample.specs.Bytes.{floats_of}
use Rattle.floats.proofs.take_in.Given as goal

abbrev pub invariant-loop-i : goal.invariant-loop-i
invariant-loop-i l = Filling (floats_of (length l.initial.row) l.bytes) l.initial.row l.row l.i
