-- `origin_row` meets its contract: judged, the row looked through for a pixel that is not finite, and then a step over the row as it is read.
use mathlib.Core.Path.{◌≡◌, refl, sym, ap, ◌∙◌}
use Prim.Native.Nat.{◌≤◌}
use native.Mathlib.Omega.{arith}
use lib.ListN.{length, length-map}
use lib.Seq.{length-take-le, take_at}
use Rattle.sample.proofs.Rows.{is_all, not_all}
use Rattle.picture_state.specs.Step.{refused}
use Rattle.picture_origin_step.specs.Lent.{given, given_rows}
use Rattle.picture_origin.proofs.Judged.{offer_judged_law}
use Rattle.picture_origin.proofs.Numbers.{OriginTaken, origin_offer_taken}
use Rattle.picture_origin.proofs.Step.{refuses_origin_row, bad_origin_row, accepts_origin_row, origins_as}
use Rattle.picture_origin_step.proofs.origin_row.Goals as goal
use Rattle.picture_origin_step.proofs.origin_row.Given.{Over}
use Rattle.picture_origin_step.proofs.origin_row.Goals.{After-blank-room, After-take_in, In_default}

judged : (g : Over) (c : In_default g) → (OriginTaken c.args.state (given c.args.lent) (given_rows c.args.rows) × (length c.args.row.now ≡ c.args.state.width))
judged g c =
    origin_offer_taken c.NUMBER.result c.args.state (given c.args.lent) (given_rows c.args.rows) c.args.row.now (sym (c.in_default.ensures ∙ offer_judged_law c.NUMBER.result c.args.state (given c.args.lent) c.args.row.now (given_rows c.args.rows)))

room_wide : (g : Over) (c : After-blank-room g) → length c.args.row.now ≤ length c.blank-room.result
room_wide g c = let (a, w) = (origin_offer_taken c.NUMBER.result c.args.state (given c.args.lent) (given_rows c.args.rows) c.args.row.now (sym (c.in_default.ensures ∙ offer_judged_law c.NUMBER.result c.args.state (given c.args.lent) c.args.row.now (given_rows c.args.rows)))) in omega (arith, a.taken.fit.run.narrow, w, c.blank-room.ensures)

read_long : (g : Over) (c : After-take_in g) → length c.take_in.new.to ≡ length c.args.row.now
read_long g c = ap length c.take_in.ensures ∙ length-map c.args.row.now _

pub returns-in-Err : goal.returns-in-Err
returns-in-Err g c =
    rw c.NUMBER.ensures at
    (refuses_origin_row g.S.Sample.samples c.NUMBER.result c.args.state (given c.args.lent) c.args.row.now (given_rows c.args.rows) _ _ _ (c.number.ensures.0 ∙ c.in-Err.ensures) (λ z. omega (arith, z, c.number.ensures.1)) c.refuses.ensures.0 c.refuses.ensures.1)

pub returns-then-bad-row : goal.returns-then-bad-row
returns-then-bad-row g c =
    let n = c.first_bad-bad.ensures in
    rw c.NUMBER.ensures at
    (bad_origin_row g.S.Sample.samples c.NUMBER.result c.args.state (given c.args.lent) c.args.row.now (given_rows c.args.rows) 0 _ _ c.in_default.ensures refl (not_all g.S.Sample.samples c.args.row.now _ n c.if-bad-row.true)
    (c.refuses-then-bad-row.ensures.0 ∙ ap (refused 8) n) c.refuses-then-bad-row.ensures.1)

pub whole_as_front-take_in : goal.whole_as_front-take_in
whole_as_front-take_in g c =
    let b = (goal.at.whole_as_front-take_in g c).After-blank-room in
    (omega (arith, room_wide g b, b.blank-room.ensures), omega (arith, g.met.S.Sample.small.0))

pub slice_bounds-take_in-end : goal.slice_bounds-take_in-end
slice_bounds-take_in-end g c = sym (length-take-le _ _ (room_wide g (goal.at.slice_bounds-take_in-end g c).After-blank-room))

pub take_in-requires : goal.take_in-requires
take_in-requires g c = sym (length-take-le _ _ (room_wide g (goal.at.take_in-requires g c).After-blank-room))

pub whole_as_front-advance : goal.whole_as_front-advance
whole_as_front-advance g c =
    let b = (goal.at.whole_as_front-advance g c).After-blank-room in
    (omega (arith, room_wide g b, b.blank-room.ensures), omega (arith, g.met.S.Sample.small.0))

pub slice_bounds-advance-end : goal.slice_bounds-advance-end
slice_bounds-advance-end g c = sym (ap length (take_at c.take_in.new.to _ _ (read_long g (goal.at.slice_bounds-advance-end g c).After-take_in)) ∙ read_long g (goal.at.slice_bounds-advance-end g c).After-take_in)

pub advance-requires : goal.advance-requires
advance-requires g c =
    let (a, w) = judged g (goal.at.advance-requires g c).In_default in
    (a.taken.fit, a.columns_lent, ap length (take_at c.take_in.new.to _ _ (read_long g (goal.at.advance-requires g c).After-take_in)) ∙ read_long g (goal.at.advance-requires g c).After-take_in ∙ w, a.taken.out_wide, a.rows_wide, a.columns_wide, a.taken.within, a.one)

pub returns : goal.returns
returns g c =
    rw c.NUMBER.ensures at
    (accepts_origin_row g.S.Sample.samples c.NUMBER.result c.args.state (given c.args.lent) c.args.row.now (given_rows c.args.rows) 0 _ _ _ _ c.in_default.ensures refl (is_all g.S.Sample.samples c.args.row.now _ c.first_bad-bad.ensures c.if-bad-row.false)
    (origins_as g.S.Sample.samples _ _ _ _ _ _ _ _ _ (take_at c.take_in.new.to _ _ (read_long g (goal.at.returns g c).After-take_in) ∙ c.take_in.ensures) c.advance.ensures))
