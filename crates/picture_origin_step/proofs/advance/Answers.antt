-- `advance` meets its contract: the stage's own step, and where a row is due the fronts.
use mathlib.Core.Path.{◌∙◌}
use Rattle.picture_origin.specs.Numbers.{five_slices, three_rows}
use Rattle.picture_origin.proofs.Fronted.{Asks, brings}
use Rattle.picture_origin.proofs.Advance.{origins_early, origins_due}
use Rattle.picture_origin_step.proofs.advance.Goals as goal
use Rattle.picture_origin_step.proofs.advance.Given.{Over}
use Rattle.picture_origin_step.proofs.advance.Goals.{After-move_on-comparisons}

asks : (g : Over) (c : After-move_on-comparisons g) → Asks c.args.state (five_slices c.args.values.now c.args.positions.now c.args.columns.now c.args.starts.now c.args.lengths.now)
asks g c = record { fit = c.requires.0; columns_lent = c.requires.1; count = c.requires.7; one = c.move_on-comparisons.ensures.one }

pub returns-then-t-ahead : goal.returns-then-t-ahead
returns-then-t-ahead g c =
    origins_early g.S.Sample.samples c.args.state (five_slices c.args.values.now c.args.positions.now c.args.columns.now c.args.starts.now c.args.lengths.now) c.args.work.now (five_slices c.move_on-comparisons.new.values c.move_on-comparisons.new.positions c.move_on-comparisons.new.columns c.move_on-comparisons.new.starts c.move_on-comparisons.new.lengths) c.move_on-comparisons.new.work _ c.requires.0 c.requires.7 c.requires.2 c.requires.6 c.move_on-comparisons.ensures c.requires.1 _ _ (c.waits.ensures.1 ∙ c.moved-next.ensures) (three_rows c.args.out.now c.args.origin_rows.now c.args.origin_columns.now) _
    c.look_ahead-ahead.ensures c.if-t-ahead.true c.waits.ensures.0

pub bring-requires : goal.bring-requires
bring-requires g c =
    (brings g.S.Sample.samples c.args.state (five_slices c.args.values.now c.args.positions.now c.args.columns.now c.args.starts.now c.args.lengths.now) (asks g (goal.at.bring-requires g c).After-move_on-comparisons) c.args.work.now c.requires.2 (five_slices c.move_on-comparisons.new.values c.move_on-comparisons.new.positions c.move_on-comparisons.new.columns c.move_on-comparisons.new.starts c.move_on-comparisons.new.lengths) c.move_on-comparisons.new.work _ c.move_on-comparisons.ensures, c.requires.3, c.requires.4, c.requires.5)

pub shape_of-work : goal.shape_of-work
shape_of-work g c = c.move_on-comparisons.auto.work

pub shape_of-values : goal.shape_of-values
shape_of-values g c = c.move_on-comparisons.auto.values

pub shape_of-positions : goal.shape_of-positions
shape_of-positions g c = c.move_on-comparisons.auto.positions

pub shape_of-columns : goal.shape_of-columns
shape_of-columns g c = c.move_on-comparisons.auto.columns

pub returns : goal.returns
returns g c =
    origins_due g.S.Sample.samples c.args.state (five_slices c.args.values.now c.args.positions.now c.args.columns.now c.args.starts.now c.args.lengths.now) c.args.work.now (five_slices c.move_on-comparisons.new.values c.move_on-comparisons.new.positions c.move_on-comparisons.new.columns c.move_on-comparisons.new.starts c.move_on-comparisons.new.lengths) c.move_on-comparisons.new.work _ c.requires.0 c.requires.7 c.requires.2 c.requires.6 c.move_on-comparisons.ensures c.requires.1 _ _ (c.came.ensures.1 ∙ c.moved-next.ensures) (three_rows c.args.out.now c.args.origin_rows.now c.args.origin_columns.now) _
    c.look_ahead-ahead.ensures (three_rows c.bring.new.out c.bring.new.origin_rows c.bring.new.origin_columns) c.bring.ensures c.if-t-ahead.false c.came.ensures.0
