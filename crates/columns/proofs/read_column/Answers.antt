-- `columns::read_column` meets its contract: the column's cells are lent to the push, and its record is stored.
use Rattle.std.proofs.Common.{◌≡◌, ◌+◌, ◌-◌, arith}
use Rattle.columns.proofs.Column.{column_read}
use Rattle.columns.proofs.read_column.Goals as goal

pub returns : goal.returns
returns g c =
    let s = c in
    let k : s.args.lo + s.args.places - s.args.lo ≡ s.args.places = omega arith in
    let start = c.from-start.ensures in
    let count = c.from-count.ensures in
    rw (c.narrow.ensures, c.narrow-2.ensures)
    (column_read g.S.Sample.samples _ _ _ _ _ _ _ _ _ _ _ _ s.requires.0 s.requires.1 s.requires.2 k start count _ _ _ _ _ s.requires.3 c.push-ends.ensures)
