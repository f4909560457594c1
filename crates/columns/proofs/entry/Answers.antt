-- `columns::entry` meets its contract: the place of the queue's entry k in the ring, past the cells of the columns before.
use Rattle.columns.proofs.Column.{entry_column}
use Rattle.columns.proofs.entry.Goals as goal

pub returns : goal.returns
returns g c = let s = c in entry_column g.S.Sample.samples _ _ _ _ _ _ _ _ _ _ _ c.from-start.ensures c.slot.ensures.0 c.slot.ensures.1 c.lent.ensures.0 c.lent.ensures.1
