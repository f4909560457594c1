-- The picture has reached r back.
use mathlib.Core.Path.{◌≡◌, refl, ◌∙◌}
use native.Mathlib.Omega.{arith}
use Rattle.morph.specs.Order.{order_of}
use Rattle.passes.proofs.Reach.{then_back}
use Rattle.sweep.proofs.Back.{picks_flip, rows_back}
use Rattle.sweep.proofs.down_back.Goals as goal

pub loop-r-init : goal.loop-r-init
loop-r-init g c = (refl, omega arith, λ xs v h. h)

pub overflow_add-ahead : goal.overflow_add-ahead
overflow_add-ahead g c = omega (arith, c.requires)

pub overflow_add-ahead-in-loop-r : goal.overflow_add-ahead-in-loop-r
overflow_add-ahead-in-loop-r g c = omega (arith, c.requires)

pub lower-requires : goal.lower-requires
lower-requires g c = let l = c.loop-r in (l.invariant.0 ∙ c.requires.0, omega (arith, c.min-s.ensures))

pub front-requires : goal.front-requires
front-requires g c = let l = c.loop-r in (c.picture-1.given ∙ l.invariant.0 ∙ c.requires.0, omega (arith, c.min-s.ensures))

pub overflow_add-r : goal.overflow_add-r
overflow_add-r g c = omega (arith, c.min-s.ensures)

pub loop-r-smaller : goal.loop-r-smaller
loop-r-smaller g c = omega (arith, c.min-s.ensures)

pub loop-r-preserved : goal.loop-r-preserved
loop-r-preserved g c =
    let l = c.loop-r in
    let a = c.args in
    let s = c.min-s in
    let k = order_of a.kind g.S.Sample.samples.order in (
      c.picture-in-loop-r-1.given ∙ c.picture-1.given ∙ l.invariant.0,
      omega (arith, s.ensures),
      then_back k g.S.Choice.Fair _ (picks_flip k g.S.Choice.Fair _ (g.met.S.Choice.picks a.kind)) a.grid.width l.r s.result a.ahead a.far _ _ _ s.ensures l.invariant.2 (rows_back _ (g.S.Choice.pick a.kind) a.grid.width s.result _ _ _ c.lower.ensures c.front.ensures),
    )

pub shape_of-picture : goal.shape_of-picture
shape_of-picture g c = c.loop-r.invariant.0

pub returns : goal.returns
returns g c = let l = c.loop-r in let e : l.r ≡ c.args.far = omega arith in rw (← e) l.invariant.2
