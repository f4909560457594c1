-- After t ticks every row has reached as far as its level says, and after the last all the way.
use mathlib.Core.Path.{◌≡◌}
use Prim.Native.Nat.{◌-◌}
use lib.ListN.{length}
use Rattle.morph.specs.Order.{order_of}
use Rattle.sweep.specs.Inner.{level_of, Swept}
use Rattle.sweep.proofs.down_ahead.Given as goal

abbrev pub invariant-loop-t : goal.invariant-loop-t
invariant-loop-t g l = (length l.picture ≡ length l.initial.picture) × Swept (order_of l.kind g.S.Sample.samples.order) l.fn.grid.width l.fn.grid.rows l.initial.picture (λ z. level_of l.far (l.t - 1 - z)) l.picture
