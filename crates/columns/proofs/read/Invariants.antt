-- `columns::read` meets its contract. The loop's invariant: the columns before x have read.
use Rattle.columns.proofs.Columns.{Reading}
use Rattle.columns.proofs.read.Given as goal

abbrev pub invariant-loop-x : goal.invariant-loop-x
invariant-loop-x g l = Reading g.S.Sample.samples l.kind l.places l.t l.row l.initial.values l.initial.positions l.initial.starts l.initial.lengths l.values l.positions l.starts l.lengths l.comparisons l.lo l.x
