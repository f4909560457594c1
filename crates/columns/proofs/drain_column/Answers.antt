-- `columns::drain_column` meets its contract: the record moves past what goes.
use Rattle.std.proofs.Common.{◌≡◌, ◌∙◌, ◌+◌, ◌-◌, arith}
use Rattle.sample.specs.Samples.{greys, rates}
use Rattle.columns.proofs.Cells.{column_in}
use Rattle.columns.proofs.Column.{column_aged}
use Rattle.columns.proofs.drain_column.Goals as goal

pub returns : goal.returns
returns g c =
    let s = c in
    let k : s.args.lo + s.args.places - s.args.lo ≡ s.args.places = omega arith in
    let i = column_in _ _ _ _ _ _ _ s.requires.0 s.requires.1 s.requires.2 in
    let start = c.from-start.ensures in
    let count = c.from-count.ensures in
    let gone = c.cell_goes-gone.ensures.0 in
    let first = c.narrow.ensures ∙ c.slot.ensures.0 in (
      λ vs. column_aged g.S.Sample.samples _ _ _ _ _ _ vs _ _ _ _ _ s.requires.0 s.requires.1 s.requires.2 k start count _ _ _ gone first c.narrow-2.ensures (omega arith) (omega arith),
      λ vs. column_aged greys _ _ _ _ _ _ vs _ _ _ _ _ s.requires.0 s.requires.1 s.requires.2 k start count _ _ _ gone first c.narrow-2.ensures (omega arith) (omega arith),
      λ vs. column_aged rates _ _ _ _ _ _ vs _ _ _ _ _ s.requires.0 s.requires.1 s.requires.2 k start count _ _ _ gone first c.narrow-2.ensures (omega arith) (omega arith),
    )
