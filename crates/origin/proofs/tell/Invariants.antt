-- `tell` meets its contract. The loop's invariant: the origins of the fronts of the columns before x stand in the two rows.
use Rattle.origin.proofs.Fronts.{Telling}
use Rattle.origin.proofs.tell.Given as goal

abbrev pub invariant-loop-x : goal.invariant-loop-x
invariant-loop-x l =
    Telling l.places l.s l.positions l.columns l.starts l.initial.origin_rows l.initial.origin_columns l.origin_rows l.origin_columns l.lo l.x
