-- `drain_row` meets its contract. The loop's invariant: whatever row was read, `Read` holds at the steps done; its laws are those of proofs/Row.antt.
use Rattle.std.proofs.Common.{refl, arith}
use Rattle.row.proofs.Row.{drain_step, drain_last}
use Rattle.row.proofs.drain_row.Goals as goal

pub loop-t-preserved : goal.loop-t-preserved
loop-t-preserved g c =
    let at_front = c in
    let at_slot = at_front in
    let at-loop = at_slot in (
      refl,
      refl,
      rw c.answer.ensures
          (drain_step g.S.Sample.samples _ _ _ _ _ _ _ _ _ _ _ at-loop.loop-t.invariant.2 _ _ _ (omega arith) (omega arith) (omega arith) (omega arith) at_slot.goes-gone.ensures.0 (omega arith) at_slot.slot-start.ensures.0 (omega arith) at_front.front-front.ensures.0),
    )

pub returns : goal.returns
returns g c = drain_last g.S.Sample.samples _ _ _ _ _ _ _ _ _ _ c.loop-t.t (omega arith) c.loop-t.invariant.2
