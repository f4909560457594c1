-- The picture has reached r back.
use mathlib.Core.Path.{◌≡◌}
use Prim.Native.Nat.{◌-◌, ◌≤◌}
use lib.ListN.{length}
use Rattle.morph.specs.Order.{order_of}
use Rattle.passes.specs.Inner.{ThenBack}
use Rattle.sweep.proofs.down_back.Given as goal

abbrev pub invariant-loop-r : goal.invariant-loop-r
invariant-loop-r g l = (length l.picture ≡ length l.initial.picture) × (l.r ≤ l.far) × ThenBack (order_of l.kind g.S.Sample.samples.order) g.S.Choice.Fair l.fn.grid.width l.r l.ahead l.initial.picture l.picture

abbrev pub decreases-loop-r : goal.decreases-loop-r
decreases-loop-r g l = l.far - l.r
