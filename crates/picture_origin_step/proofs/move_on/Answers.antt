-- `move_on` meets its contract: the stage's own step on what is needed of the memory and of the columns.
use mathlib.Core.Path.{sym, subst}
use Prim.Native.Nat.{◌≤◌}
use lib.ListN.{length}
use lib.Seq.{length-take-le}
use Rattle.plan_record.specs.Inner.{Small}
use Rattle.memory.specs.Memory.{memory}
use Rattle.chain.proofs.Memory.{AtLeast}
use Rattle.picture_origin.specs.Numbers.{five_slices}
use Rattle.picture_origin.proofs.Fronted.{Asks, only_small, cells_lent, part_lent, part_back}
use Rattle.picture_origin_step.proofs.move_on.Goals as goal
use Rattle.picture_origin_step.proofs.move_on.Given.{Over}
use Rattle.picture_origin_step.proofs.move_on.Goals.{After-cells_of-cells, After-stage-stage}

asks : (g : Over) (c : After-stage-stage g) → Asks c.args.state (five_slices c.args.values.now c.args.positions.now c.args.columns.now c.args.starts.now c.args.lengths.now)
asks g c = record { fit = c.requires.0; columns_lent = c.requires.1; count = c.requires.4; one = c.stage-stage.ensures.1 }

-- the cells counted are lent
enough : (g : Over) (c : After-cells_of-cells g) → AtLeast c.cells_of-cells.result c.args.state.width (five_slices c.args.values.now c.args.positions.now c.args.columns.now c.args.starts.now c.args.lengths.now).cells × (c.cells_of-cells.result ≤ length (five_slices c.args.values.now c.args.positions.now c.args.columns.now c.args.starts.now c.args.lengths.now).columns)
enough g c = cells_lent g.S.Sample.samples c.args.state (five_slices c.args.values.now c.args.positions.now c.args.columns.now c.args.starts.now c.args.lengths.now) (record { fit = c.requires.0; columns_lent = c.requires.1; count = c.requires.4; one = c.stage-stage.ensures.1 }) _ c.stage-stage.ensures.0 _ c.cells_of-cells.ensures

pub height-rows-requires : goal.height-rows-requires
height-rows-requires g c = c.requires.0.run.counted

pub cells_of-cells-requires : goal.cells_of-cells-requires
cells_of-cells-requires g c =
    (subst Small (sym c.stage-stage.ensures.0) (only_small g.S.Sample.samples c.args.state (five_slices c.args.values.now c.args.positions.now c.args.columns.now c.args.starts.now c.args.lengths.now) (asks g (goal.at.cells_of-cells-requires g c).After-stage-stage)), c.requires.0.run.narrow)

pub slice_bounds-move_on-end : goal.slice_bounds-move_on-end
slice_bounds-move_on-end g c = (enough g c).0.values_long

pub slice_bounds-move_on-end-2 : goal.slice_bounds-move_on-end-2
slice_bounds-move_on-end-2 g c = sym (length-take-le _ _ (enough g (goal.at.slice_bounds-move_on-end-2 g c).After-cells_of-cells).0.values_long)

pub slice_bounds-move_on-end-3 : goal.slice_bounds-move_on-end-3
slice_bounds-move_on-end-3 g c = (enough g (goal.at.slice_bounds-move_on-end-3 g c).After-cells_of-cells).0.positions_long

pub slice_bounds-move_on-end-4 : goal.slice_bounds-move_on-end-4
slice_bounds-move_on-end-4 g c = sym (length-take-le _ _ (enough g (goal.at.slice_bounds-move_on-end-4 g c).After-cells_of-cells).0.positions_long)

pub slice_bounds-move_on-end-5 : goal.slice_bounds-move_on-end-5
slice_bounds-move_on-end-5 g c = (enough g (goal.at.slice_bounds-move_on-end-5 g c).After-cells_of-cells).1

pub slice_bounds-move_on-end-6 : goal.slice_bounds-move_on-end-6
slice_bounds-move_on-end-6 g c = sym (length-take-le _ _ (enough g (goal.at.slice_bounds-move_on-end-6 g c).After-cells_of-cells).1)

pub slice_bounds-move_on-end-7 : goal.slice_bounds-move_on-end-7
slice_bounds-move_on-end-7 g c = (enough g (goal.at.slice_bounds-move_on-end-7 g c).After-cells_of-cells).0.starts_long

pub slice_bounds-move_on-end-8 : goal.slice_bounds-move_on-end-8
slice_bounds-move_on-end-8 g c = sym (length-take-le _ _ (enough g (goal.at.slice_bounds-move_on-end-8 g c).After-cells_of-cells).0.starts_long)

pub slice_bounds-move_on-end-9 : goal.slice_bounds-move_on-end-9
slice_bounds-move_on-end-9 g c = (enough g (goal.at.slice_bounds-move_on-end-9 g c).After-cells_of-cells).0.lengths_long

pub slice_bounds-move_on-end-10 : goal.slice_bounds-move_on-end-10
slice_bounds-move_on-end-10 g c = sym (length-take-le _ _ (enough g (goal.at.slice_bounds-move_on-end-10 g c).After-cells_of-cells).0.lengths_long)

pub move_on-requires : goal.move_on-requires
move_on-requires g c =
    part_lent g.S.Sample.samples c.args.state (five_slices c.args.values.now c.args.positions.now c.args.columns.now c.args.starts.now c.args.lengths.now) (asks g (goal.at.move_on-requires g c).After-stage-stage) _ c.stage-stage.ensures.0 _ c.cells_of-cells.ensures c.args.work.now c.requires.2 _ c.height-rows.ensures c.requires.3

pub returns : goal.returns
returns g c =
    part_back g.S.Sample.samples c.args.state (five_slices c.args.values.now c.args.positions.now c.args.columns.now c.args.starts.now c.args.lengths.now) (asks g (goal.at.returns g c).After-stage-stage) _ c.stage-stage.ensures.0 _ c.cells_of-cells.ensures c.args.work.now c.requires.2 _ c.height-rows.ensures
    (memory c.move_on.new.values c.move_on.new.positions c.move_on.new.starts c.move_on.new.lengths) c.move_on.new.columns c.move_on.new.row _ c.move_on.ensures
