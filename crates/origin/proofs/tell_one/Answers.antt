-- `tell_one` meets its contract: the age in the cell tells the row, and where in the ring its columns are.
use Rattle.std.proofs.Common.{ap, arith, set}
use Rattle.origin.proofs.Fronts.{row_none, column_none, row_some, column_near, column_far}
use Rattle.origin.proofs.tell_one.Goals as goal

pub returns-then-most-a : goal.returns-then-most-a
returns-then-most-a c =
    let g = c.age-a.ensures.0 in
    let h = c.if-most-a.true in (
      ap (set c.args.origin_rows.now c.args.x) (row_none _ _ _ _ _ c.requires.4 g h),
      ap (set c.args.origin_columns.now c.args.x) (column_none _ _ _ _ _ c.requires.4 g _ _ c.args.columns.now h),
    )

pub returns-then-a-last : goal.returns-then-a-last
returns-then-a-last c =
    let g = c.age-a.ensures.0 in (
      ap (set c.args.origin_rows.now c.args.x) (row_some _ _ _ _ _ c.requires.4 g (omega arith)),
      ap (set c.args.origin_columns.now c.args.x) (column_near _ _ _ _ _ c.requires.4 g _ _ c.args.columns.now _ c.requires.3 (omega arith) c.if-a-last.true),
    )

pub returns : goal.returns
returns c =
    let g = c.age-a.ensures.0 in (
      ap (set c.args.origin_rows.now c.args.x) (row_some _ _ _ _ _ c.requires.4 g (omega arith)),
      ap (set c.args.origin_columns.now c.args.x) (column_far _ _ _ _ _ c.requires.4 g _ _ c.args.columns.now _ c.requires.3 (omega arith) (omega arith)),
    )
