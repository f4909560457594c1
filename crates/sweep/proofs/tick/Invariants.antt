-- The steps up to reach r are made.
use mathlib.Core.Path.{◌≡◌}
use Prim.Native.Nat.{◌-◌, ◌*◌, ◌≤◌}
use lib.ListN.{length}
use Rattle.morph.specs.Order.{order_of}
use Rattle.sweep.proofs.Sweep.{Ticking}
use Rattle.sweep.proofs.tick.Given as goal

abbrev pub invariant-loop-r : goal.invariant-loop-r
invariant-loop-r g l = Ticking (order_of l.kind g.S.Sample.samples.order) g.S.Choice.Fair l.fn.grid.width l.fn.grid.rows l.far l.t l.initial.picture l.r l.picture × (length l.initial.picture ≡ l.fn.grid.rows * l.fn.grid.width) × (l.far ≤ 255)

abbrev pub decreases-loop-r : goal.decreases-loop-r
decreases-loop-r g l = l.far - l.r
