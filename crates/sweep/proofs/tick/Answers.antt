-- The steps up to reach r are made.
use mathlib.Core.Path.{◌∙◌}
use native.Mathlib.Omega.{arith}
use Rattle.morph.specs.Order.{order_of}
use Rattle.sweep.proofs.Sweep.{ticking_first, ticking_next, ticking_last}
use Rattle.sweep.proofs.tick.Goals as goal

pub loop-r-init : goal.loop-r-init
loop-r-init g c = (ticking_first (order_of c.args.kind g.S.Sample.samples.order) g.S.Choice.Fair (g.S.Choice.pick c.args.kind) (g.met.S.Choice.picks c.args.kind) _ _ _ _ _, c.requires.0, c.requires.1)

pub climb-requires : goal.climb-requires
climb-requires g c = let i = c.loop-r.invariant in (i.0.long ∙ i.1, omega (arith, c.min-s.ensures), omega (arith, c.min-s.ensures))

pub overflow_add-r-in-loop-r : goal.overflow_add-r-in-loop-r
overflow_add-r-in-loop-r g c = omega (arith, c.min-s.ensures)

pub loop-r-smaller : goal.loop-r-smaller
loop-r-smaller g c = omega (arith, c.min-s.ensures)

pub loop-r-preserved : goal.loop-r-preserved
loop-r-preserved g c = let l = c.loop-r in (ticking_next (order_of c.args.kind g.S.Sample.samples.order) g.S.Choice.Fair (g.S.Choice.pick c.args.kind) (g.met.S.Choice.picks c.args.kind) _ _ _ _ _ l.r _ l.picture _ c.min-s.ensures (omega arith) c.picture-1.given l.invariant.0 c.climb.ensures, l.invariant.1, l.invariant.2)

pub shape_of-picture : goal.shape_of-picture
shape_of-picture g c = c.loop-r.invariant.0.long

pub returns : goal.returns
returns g c = let l = c.loop-r in ticking_last (order_of c.args.kind g.S.Sample.samples.order) g.S.Choice.Fair (g.S.Choice.pick c.args.kind) (g.met.S.Choice.picks c.args.kind) _ _ _ _ _ l.r l.picture (omega arith) l.invariant.0
