-- The rows before y are filtered, and the others are as they were.
use Rattle.morph.specs.Order.{order_of}
use Rattle.passes.specs.Flat.{UsedUpTo}
use Rattle.passes.proofs.Rows.{Crossing}
use Rattle.passes.proofs.across.Given as goal

abbrev pub invariant-loop-y : goal.invariant-loop-y
invariant-loop-y g l = Crossing (order_of l.kind g.S.Sample.samples.order) l.fn.grid.width l.fn.grid.rows l.back l.ahead l.y l.initial.picture l.picture × UsedUpTo l.fn.grid.width l.initial.row l.row
