-- The row fills with what each value of the other is read as.
use Rattle.std.specs.Prelude.{map}
use Rattle.morph.specs.Rate.{plus_zero_of}
use Rattle.sample.proofs.Rows.{Filling}
use Rattle.sample.proofs.rate.F32Sample.take_in.Given as goal

abbrev pub invariant-loop-i : goal.invariant-loop-i
invariant-loop-i l = Filling (map plus_zero_of l.row) l.initial.to l.to l.i
