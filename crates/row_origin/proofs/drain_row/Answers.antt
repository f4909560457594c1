-- `drain_row` meets its contract. The loop's invariant: whatever row was read, `ReadOrigins` holds at the steps done; its laws are those of row's proofs/Origins.antt.
use Rattle.std.proofs.Common.{arith}
use Rattle.row.proofs.Origins.{drain_origins_step, drain_origins_last}
use Rattle.row_origin.proofs.drain_row.Goals as goal

pub loop-t-preserved : goal.loop-t-preserved
loop-t-preserved g c =
    let i = c.loop-t.invariant in
    let more = c.loop-t-test.true in
    let goes = c.goes-gone.ensures in
    let f = c.front-oldest.ensures in (
      i.0,
      i.1,
      rw (c.answer.ensures, c.answer-in-loop-t.ensures)
          (drain_origins_step g.S.Sample.samples _ _ _ _ _ _ _ _ _ _ _ _ _ i.2 _ _ _ _ (omega (arith, i.0)) (omega (arith, more, i.0, i.1)) c.requires.0 c.requires.1 goes.0 goes.2 c.slot-start.ensures.0 c.slot-start.ensures.1 f.0 f.1),
    )

pub returns : goal.returns
returns g c = drain_origins_last g.S.Sample.samples _ _ _ _ _ _ _ _ _ _ _ _ c.loop-t.t (omega arith) c.loop-t.invariant.2
