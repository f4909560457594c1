-- After t ticks every row has reached as far as its level says, and after the last all the way.
use mathlib.Core.Path.{refl, ◌∙◌}
use native.Mathlib.Omega.{arith}
use Rattle.sweep.proofs.Sweep.{sweep_start, sweep_end, sweep_again}
use Rattle.sweep.proofs.down_ahead.Goals as goal

pub overflow_add-t-end : goal.overflow_add-t-end
overflow_add-t-end g c = omega (arith, c.requires)

pub loop-t-init : goal.loop-t-init
loop-t-init g c = (refl, sweep_start _ _ _ _ _ c.requires.0 0 refl)

pub tick-requires : goal.tick-requires
tick-requires g c = let i = c.loop-t.invariant in let p = c.requires in (i.0 ∙ p.0, p.1)

pub loop-t-preserved : goal.loop-t-preserved
loop-t-preserved g c =
    let l = c.loop-t in
    let a = c.args in
    (c.picture-1.given ∙ l.invariant.0, sweep_again _ _ _ a.far l.t _ _ (c.tick.ensures a.picture.now (c.requires.0, c.requires.2) l.invariant.1))

pub shape_of-picture : goal.shape_of-picture
shape_of-picture g c = c.loop-t.invariant.0

pub returns : goal.returns
returns g c = let l = c.loop-t in sweep_end _ _ _ _ _ l.picture c.requires.0 l.invariant.0 l.t (omega arith) l.invariant.1
