-- The row fills with what each of its values is read as.
use Rattle.std.proofs.Common.{map}
use Rattle.morph.specs.Rate.{plus_zero_of}
use Rattle.sample.proofs.Rows.{Filling}
use Rattle.sample.proofs.rate.clean.Given as goal

abbrev pub invariant-loop-x : goal.invariant-loop-x
invariant-loop-x l = Filling (map plus_zero_of l.initial.row) l.initial.row l.row l.x-index
