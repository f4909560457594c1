-- `columns::fronts` meets its contract. The loop's invariant: the fronts of the columns before x stand in the row.
use Rattle.std.proofs.Common.{arith}
use Rattle.columns.proofs.Columns.{fronting_first, fronting_next}
use Rattle.columns.proofs.fronts.Goals as goal

pub loop-x-init : goal.loop-x-init
loop-x-init g c = fronting_first g.S.Sample.samples _ _ _ _

pub loop-x-preserved : goal.loop-x-preserved
loop-x-preserved g c = let l = c.loop-x in fronting_next g.S.Sample.samples _ _ _ _ _ _ _ l.invariant _ (omega arith) c.front_of-front.ensures.0
