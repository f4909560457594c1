-- `drain` meets its contract: judged, and then a step over a row that is none of the picture's.
use mathlib.Core.Path.{sym, ◌∙◌}
use Prim.Native.Nat.{◌≤◌}
use native.Mathlib.Omega.{arith}
use lib.ListN.{length}
use lib.Seq.{length-take-le}
use Rattle.memory.specs.Lent.{given}
use Rattle.picture_state.proofs.Step.{Taken, drain_taken, refuses_drain, accepts_drain}
use Rattle.picture_step.proofs.drain.Goals as goal
use Rattle.picture_step.proofs.drain.Given.{Over}
use Rattle.picture_step.proofs.drain.Goals.{After-blank-room, In_default}

judged : (g : Over) (c : In_default g) → Taken c.args.state (given c.args.lent) c.args.out.now
judged g c = drain_taken c.NUMBER.result c.args.state (given c.args.lent) c.args.out.now (sym c.in_default.ensures)

room_wide : (g : Over) (c : After-blank-room g) → length c.args.out.now ≤ length c.blank-room.result
room_wide g c = let a = drain_taken c.NUMBER.result c.args.state (given c.args.lent) c.args.out.now (sym c.in_default.ensures) in omega (arith, a.fit.run.narrow, a.out_wide, c.blank-room.ensures)

pub returns-in-Err : goal.returns-in-Err
returns-in-Err g c =
    rw c.NUMBER.ensures at
    (refuses_drain g.S.Sample.samples c.NUMBER.result c.args.state (given c.args.lent) _ _ _ _ (c.number.ensures.0 ∙ c.in-Err.ensures) (λ z. omega (arith, z, c.number.ensures.1)) c.refuses.ensures.0 c.refuses.ensures.1)

pub whole_as_front-advance : goal.whole_as_front-advance
whole_as_front-advance g c =
    let b = (goal.at.whole_as_front-advance g c).After-blank-room in
    (omega (arith, room_wide g b, b.blank-room.ensures), omega (arith, g.met.S.Sample.small.0))

pub slice_bounds-advance-end : goal.slice_bounds-advance-end
slice_bounds-advance-end g c = sym (length-take-le _ _ (room_wide g (goal.at.slice_bounds-advance-end g c).After-blank-room))

pub advance-requires : goal.advance-requires
advance-requires g c =
    let a = judged g (goal.at.advance-requires g c).In_default in
    (a.fit, length-take-le _ _ (room_wide g (goal.at.advance-requires g c).After-blank-room) ∙ a.out_wide, a.out_wide, a.within)

pub returns : goal.returns
returns g c =
    rw c.NUMBER.ensures at
    (accepts_drain g.S.Sample.samples c.NUMBER.result c.args.state (given c.args.lent) _ _ _ _ _ _ (sym c.in_default.ensures) c.advance.ensures)
