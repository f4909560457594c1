-- `origin_drain` meets its contract: judged, and then a step over a row that is none of the picture's.
use mathlib.Core.Path.{refl, sym, ◌∙◌}
use Prim.Native.Nat.{◌≤◌}
use native.Mathlib.Omega.{arith}
use lib.ListN.{length}
use lib.Seq.{length-take-le}
use Rattle.picture_origin_step.specs.Lent.{given, given_rows}
use Rattle.picture_origin.proofs.Judged.{drain_judged_law}
use Rattle.picture_origin.proofs.Numbers.{OriginTaken, origin_drain_taken}
use Rattle.picture_origin.proofs.Step.{refuses_origin_drain, accepts_origin_drain}
use Rattle.picture_origin_step.proofs.origin_drain.Goals as goal
use Rattle.picture_origin_step.proofs.origin_drain.Given.{Over}
use Rattle.picture_origin_step.proofs.origin_drain.Goals.{After-blank-room, In_default}

judged : (g : Over) (c : In_default g) → (OriginTaken c.args.state (given c.args.lent) (given_rows c.args.rows))
judged g c =
    origin_drain_taken c.NUMBER.result c.args.state (given c.args.lent) (given_rows c.args.rows) (sym (c.in_default.ensures ∙ drain_judged_law c.NUMBER.result c.args.state (given c.args.lent) (given_rows c.args.rows)))

room_wide : (g : Over) (c : After-blank-room g) → length c.args.rows.pixels.now ≤ length c.blank-room.result
room_wide g c = let a = (origin_drain_taken c.NUMBER.result c.args.state (given c.args.lent) (given_rows c.args.rows) (sym (c.in_default.ensures ∙ drain_judged_law c.NUMBER.result c.args.state (given c.args.lent) (given_rows c.args.rows)))) in omega (arith, a.taken.fit.run.narrow, a.taken.out_wide, c.blank-room.ensures)

pub returns-in-Err : goal.returns-in-Err
returns-in-Err g c =
    rw c.NUMBER.ensures at
    (refuses_origin_drain g.S.Sample.samples c.NUMBER.result c.args.state (given c.args.lent) (given_rows c.args.rows) _ _ _ (c.number.ensures.0 ∙ c.in-Err.ensures) (λ z. omega (arith, z, c.number.ensures.1)) c.refuses.ensures.0 c.refuses.ensures.1)

pub whole_as_front-advance : goal.whole_as_front-advance
whole_as_front-advance g c =
    let b = (goal.at.whole_as_front-advance g c).After-blank-room in
    (omega (arith, room_wide g b, b.blank-room.ensures), omega (arith, g.met.S.Sample.small.0))

pub slice_bounds-advance-end : goal.slice_bounds-advance-end
slice_bounds-advance-end g c = sym (length-take-le _ _ (room_wide g (goal.at.slice_bounds-advance-end g c).After-blank-room))

pub advance-requires : goal.advance-requires
advance-requires g c =
    let a = judged g (goal.at.advance-requires g c).In_default in
    (a.taken.fit, a.columns_lent, length-take-le _ _ (room_wide g (goal.at.advance-requires g c).After-blank-room) ∙ a.taken.out_wide, a.taken.out_wide, a.rows_wide, a.columns_wide, a.taken.within, a.one)

pub returns : goal.returns
returns g c =
    rw c.NUMBER.ensures at
    (accepts_origin_drain g.S.Sample.samples c.NUMBER.result c.args.state (given c.args.lent) (given_rows c.args.rows) 0 _ _ _ _ _ c.in_default.ensures refl c.advance.ensures)
