-- The rows before row z have taken theirs.
use mathlib.Core.Path.{◌≡◌}
use Prim.Native.Nat.{min}
use Rattle.sweep.proofs.Back.{Fronting}
use Rattle.sweep.proofs.front.Given as goal

abbrev pub invariant-loop-z : goal.invariant-loop-z
invariant-loop-z g l = Fronting g.S.Sample.samples.order.blank (g.S.Choice.pick l.kind) l.fn.grid.width l.fn.grid.rows l.s l.initial.picture l.z l.picture × (l.end ≡ min l.s l.fn.grid.rows)
