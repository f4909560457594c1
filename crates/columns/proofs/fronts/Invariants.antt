-- `columns::fronts` meets its contract. The loop's invariant: the fronts of the columns before x stand in the row.
use Rattle.columns.proofs.Columns.{Fronting}
use Rattle.columns.proofs.fronts.Given as goal

abbrev pub invariant-loop-x : goal.invariant-loop-x
invariant-loop-x g l = Fronting g.S.Sample.samples l.places l.values l.starts l.initial.row l.row l.lo l.x
