-- `columns::read` meets its contract. The loop's invariant: the columns before x have read.
use Rattle.std.proofs.Common.{refl, arith}
use Rattle.std.proofs.lemmas.List.{get_or_read_under}
use Rattle.columns.proofs.Columns.{reading_next}
use Rattle.columns.proofs.read.Goals as goal

pub loop-x-preserved : goal.loop-x-preserved
loop-x-preserved g c =
    let l = c.loop-x in
    let u = c.read_column-comparisons.ensures in
    let v = get_or_read_under c.args.row.now l.x _ _ g.S.Sample.samples.order.blank c.index-row-x.is (omega arith) refl in
    reading_next g.S.Sample.samples _ _ _ _ _ _ _ _ _ _ _ _ _ _ _ l.invariant _ _ _ _ _ _ c.loop-x-test.true v u.0 u.1 u.2
