-- `columns::drain` meets its contract. The loop's invariant: the columns before x have aged, with cells of any kind of samples.
use Rattle.std.proofs.Common.{arith}
use Rattle.sample.specs.Samples.{greys, rates}
use Rattle.columns.proofs.Columns.{aging_next, aging_last}
use Rattle.columns.proofs.drain.Goals as goal

pub loop-x-preserved : goal.loop-x-preserved
loop-x-preserved g c =
    let l = c.loop-x in (
      aging_next g.S.Sample.samples _ _ _ _ _ _ _ _ _ l.invariant.0 _ _ (omega arith) c.drain_column.ensures.0,
      aging_next greys _ _ _ _ _ _ _ _ _ l.invariant.1 _ _ (omega arith) c.drain_column.ensures.1,
      aging_next rates _ _ _ _ _ _ _ _ _ l.invariant.2 _ _ (omega arith) c.drain_column.ensures.2,
    )

pub returns : goal.returns
returns g c =
    let l = c.loop-x in (
      aging_last g.S.Sample.samples _ _ _ _ _ _ _ _ _ l.invariant.0 (omega arith),
      aging_last greys _ _ _ _ _ _ _ _ _ l.invariant.1 (omega arith),
      aging_last rates _ _ _ _ _ _ _ _ _ l.invariant.2 (omega arith),
    )
