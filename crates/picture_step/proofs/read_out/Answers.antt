-- `read_out` meets its contract: judged, and then the place is looked for in the stage's part.
use mathlib.Core.Path.{◌≡◌, sym}
use Prim.Native.Nat.{◌*◌, ◌≤◌, ◌<◌}
use native.Mathlib.Omega.{arith}
use lib.ListN.{length}
use Rattle.std.specs.Prelude.{Result, Ok, Err, IsErrAnd}
use Rattle.std.proofs.Common.{ap}
use Rattle.morph.specs.declared.refusal.Refusal.{Refusal}
use Rattle.morph.specs.Refusals.{refusal_number}
use Rattle.morph.specs.Line.{refused}
use Rattle.queue.specs.declared.RowEntry.{RowEntry}
use Rattle.picture_step.specs.Shown.{shown}
use Rattle.plan_record.proofs.Exits.{refused_some}
use Rattle.memory.specs.Memory.{memory}
use Rattle.plan_record.proofs.Laws.{mul_most}
use Rattle.picture_state.specs.Inner.{Accepted, placed_number}
use Rattle.picture_state.specs.Numbers.{height_of}
use Rattle.picture_state.proofs.ReadingOut.{Place, Within, placed_part, placed_place, place_within, place_asks, shows_place, shows_refused}
use Rattle.picture_step.proofs.read_out.Goals as goal
use Rattle.picture_step.proofs.read_out.Given.{Over}
use Rattle.picture_step.proofs.read_out.Goals.{After-part_of-part, After-whole-plan}

shown_up : {A : Type 0} (r : Result (RowEntry A) Refusal) (refusal : Refusal) → IsErrAnd r (λ e. e ≡ refusal) → shown r ≡ refused (refusal_number refusal)
shown_up (Ok _) refusal h = absurd h
shown_up (Err e) refusal h = ap (λ x. refused (refusal_number x)) h

-- the state, the memory, the stage and the column are judged, and nothing is wrong
judged : (g : Over) (c : After-whole-plan g) → (placed_number c.NUMBER.result c.args.state c.args.stage c.args.column (length c.args.values.now) (length c.args.positions.now) c.args.starts.now c.args.lengths.now ≡ 0)
judged g c = sym c.in_ok-judge_place.ensures

asked : (g : Over) (c : After-whole-plan g) → (Accepted c.whole-plan.result × (c.args.stage < c.whole-plan.result.count) × (c.args.state.width ≤ 4096) × (height_of c.args.state ≤ 4294967297) × (c.args.state.step ≤ 4294967792))
asked g c = placed_part c.NUMBER.result c.args.state (memory c.args.values.now c.args.positions.now c.args.starts.now c.args.lengths.now) c.args.stage c.args.column _ c.whole-plan.ensures.0 (judged g c)

-- the place named, once its stage's part is known
at : (g : Over) (c : After-part_of-part g) → (Place c.args.state (memory c.args.values.now c.args.positions.now c.args.starts.now c.args.lengths.now) c.args.stage c.args.column c.part_of-part.result.cells c.part_of-part.result.places c.own_steps-steps.result)
at g c =
    placed_place c.NUMBER.result c.args.state (memory c.args.values.now c.args.positions.now c.args.starts.now c.args.lengths.now) c.args.stage c.args.column _ _ _ _ _ c.whole-plan.ensures (sym c.in_ok-judge_place.ensures) c.part_of-part.ensures c.height-rows.ensures c.own_steps-steps.ensures

-- that part lies within the memory
within : (g : Over) (c : After-part_of-part g) → (Within c.args.state.width c.args.stage c.part_of-part.result.cells c.part_of-part.result.places (memory c.args.values.now c.args.positions.now c.args.starts.now c.args.lengths.now))
within g c = place_within c.args.state (memory c.args.values.now c.args.positions.now c.args.starts.now c.args.lengths.now) c.args.stage c.args.column c.part_of-part.result.cells c.part_of-part.result.places c.own_steps-steps.result (at g c)

-- and the records before it are few
records_few : (g : Over) (c : After-part_of-part g) → (c.args.stage * c.args.state.width ≤ 16 * 4096)
records_few g c = let a = (placed_part c.NUMBER.result c.args.state (memory c.args.values.now c.args.positions.now c.args.starts.now c.args.lengths.now) c.args.stage c.args.column _ c.whole-plan.ensures.0 (sym c.in_ok-judge_place.ensures)) in mul_most c.args.stage c.args.state.width 16 4096 (omega (arith, a.1, a.0.few)) a.2

pub returns-in_err-judge_place : goal.returns-in_err-judge_place
returns-in_err-judge_place g c =
    let r = c.in_err-judge_place.field-0.0 in
    rw c.NUMBER.ensures at
    (shows_refused g.S.Sample.samples c.NUMBER.result c.args.state (memory c.args.values.now c.args.positions.now c.args.starts.now c.args.lengths.now) c.args.stage c.args.column c.args.place (refusal_number r) (shown c.from_residual.result) c.in_err-judge_place.ensures (refused_some r) (shown_up c.from_residual.result r c.from_residual.ensures.1))

pub height-rows-requires : goal.height-rows-requires
height-rows-requires g c = (asked g c).4

pub own_steps-steps-requires : goal.own_steps-steps-requires
own_steps-steps-requires g c = let a = asked g (goal.at.own_steps-steps-requires g c).After-whole-plan in (a.0, a.1, omega (arith, c.height-rows.ensures, a.3))

pub part_of-part-requires : goal.part_of-part-requires
part_of-part-requires g c = let a = asked g (goal.at.part_of-part-requires g c).After-whole-plan in (a.0, a.1, a.2)

pub overflow_mul-hi : goal.overflow_mul-hi
overflow_mul-hi g c = omega (arith, within g c)

pub overflow_add-hi : goal.overflow_add-hi
overflow_add-hi g c = omega (arith, within g c)

pub overflow_mul-from : goal.overflow_mul-from
overflow_mul-from g c = omega (arith, records_few g c)

pub overflow_add-to : goal.overflow_add-to
overflow_add-to g c = omega (arith, records_few g c, (asked g (goal.at.overflow_add-to g c).After-whole-plan).2)

pub offset_bounds-values-lo : goal.offset_bounds-values-lo
offset_bounds-values-lo g c = omega (arith, within g c)

pub slice_bounds-show-end : goal.slice_bounds-show-end
slice_bounds-show-end g c = omega (arith, within g c)

pub slice_bounds-show-end-2 : goal.slice_bounds-show-end-2
slice_bounds-show-end-2 g c = omega (arith, within g (goal.at.slice_bounds-show-end-2 g c).After-part_of-part)

pub slice_bounds-show-end-3 : goal.slice_bounds-show-end-3
slice_bounds-show-end-3 g c = omega (arith, within g (goal.at.slice_bounds-show-end-3 g c).After-part_of-part)

pub slice_bounds-show-end-4 : goal.slice_bounds-show-end-4
slice_bounds-show-end-4 g c = omega (arith, within g (goal.at.slice_bounds-show-end-4 g c).After-part_of-part)

pub show-requires : goal.show-requires
show-requires g c = place_asks _ _ _ _ _ _ _ (at g (goal.at.show-requires g c).After-part_of-part)

pub returns : goal.returns
returns g c =
    rw c.NUMBER.ensures at
    (shows_place _ _ _ _ _ _ _ (at g (goal.at.returns g c).After-part_of-part) g.S.Sample.samples c.NUMBER.result c.args.place _ (judged g (goal.at.returns g c).After-whole-plan) c.show.ensures)
