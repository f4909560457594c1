-- `bring` meets its contract: the fronts of what is needed of the memory and of the columns.
use mathlib.Core.Path.{sym, subst, ◌∙◌}
use Prim.Native.Nat.{◌≤◌}
use native.Mathlib.Omega.{arith}
use lib.ListN.{length}
use lib.Seq.{length-take-le}
use Rattle.plan_record.specs.Inner.{Small}
use Rattle.picture_origin.proofs.Fronted.{fronts_lent, fronts_asked, fronts_brought}
use Rattle.picture_origin_step.proofs.bring.Goals as goal
use Rattle.picture_origin_step.proofs.bring.Given.{Over}
use Rattle.picture_origin_step.proofs.bring.Goals.{After-cells_of-cells}

-- the cells counted are lent
enough : (g : Over) (c : After-cells_of-cells g) → ((c.cells_of-cells.result ≤ length c.args.values.now) × (c.cells_of-cells.result ≤ length c.args.positions.now) × (c.cells_of-cells.result ≤ length c.args.columns.now))
enough g c = fronts_lent g.S.Sample.samples c.args.state _ _ _ _ c.requires.0 _ c.stage-stage.ensures.0 _ c.cells_of-cells.ensures

pub cells_of-cells-requires : goal.cells_of-cells-requires
cells_of-cells-requires g c = let f = c.requires.0 in (subst Small (sym c.stage-stage.ensures.0) f.small, f.narrow)

pub slice_bounds-fronts-end : goal.slice_bounds-fronts-end
slice_bounds-fronts-end g c = sym (length-take-le _ _ (enough g (goal.at.slice_bounds-fronts-end g c).After-cells_of-cells).0)

pub slice_bounds-fronts-end-2 : goal.slice_bounds-fronts-end-2
slice_bounds-fronts-end-2 g c = sym (length-take-le _ _ (enough g (goal.at.slice_bounds-fronts-end-2 g c).After-cells_of-cells).1)

pub slice_bounds-fronts-end-3 : goal.slice_bounds-fronts-end-3
slice_bounds-fronts-end-3 g c = sym (length-take-le _ _ (enough g (goal.at.slice_bounds-fronts-end-3 g c).After-cells_of-cells).2)

pub slice_bounds-fronts-end-4 : goal.slice_bounds-fronts-end-4
slice_bounds-fronts-end-4 g c = sym (length-take-le _ _ c.requires.0.starts_long)

pub fronts-requires : goal.fronts-requires
fronts-requires g c =
    let (a, b, d, e, f, j, h, i) = fronts_asked g.S.Sample.samples c.args.state _ _ _ _ c.requires.0 _ c.stage-stage.ensures.0 _ c.cells_of-cells.ensures _ c.size_of.ensures.0 _ c.requires.1 in
    (a, b, d, e, f, j, h, c.requires.2 ∙ sym c.requires.1, c.requires.3 ∙ sym c.requires.1, i, omega (arith, c.requires.0.counted))

pub returns : goal.returns
returns g c =
    fronts_brought g.S.Sample.samples c.args.state _ _ _ _ c.requires.0 _ c.stage-stage.ensures.0 _ c.cells_of-cells.ensures _ c.size_of.ensures.0 _ c.requires.1 _ _ _ c.fronts.ensures
