-- `columns::drain` meets its contract. The loop's invariant: the columns before x have aged.
use Rattle.sample.specs.Samples.{greys, rates}
use Rattle.columns.proofs.Columns.{Aging}
use Rattle.columns.proofs.drain.Given as goal

abbrev pub invariant-loop-x : goal.invariant-loop-x
invariant-loop-x g l =
    Aging g.S.Sample.samples l.places l.t l.positions l.initial.starts l.initial.lengths l.starts l.lengths l.lo l.x
    × Aging greys l.places l.t l.positions l.initial.starts l.initial.lengths l.starts l.lengths l.lo l.x
    × Aging rates l.places l.t l.positions l.initial.starts l.initial.lengths l.starts l.lengths l.lo l.x
