-- `records_sound` meets its contract. The loop's invariant: the flag tells of the stages so far.
use mathlib.Core.Path.{sym}
use native.Mathlib.Omega.{arith}
use native.Mathlib.Nat.{zero-mul}
use Rattle.plan_record.specs.Plan.{used}
use Rattle.picture_state.proofs.Numbers.{plan_accepted, sound_first, sound_next, records_there, in_use, used_at, cut_long}
use Rattle.picture_state.proofs.judging.records_sound.Goals as goal

pub shared_ref_as_front-stage-items : goal.shared_ref_as_front-stage-items
shared_ref_as_front-stage-items c = (plan_accepted c.args.plan c.requires.0).few

pub loop-stage-init : goal.loop-stage-init
loop-stage-init c = (sym (zero-mul c.args.width), sound_first c.args.width (used c.args.plan) c.args.starts.now c.args.lengths.now)

pub overflow_add-hi : goal.overflow_add-hi
overflow_add-hi c = omega (arith, records_there c.args.width c.args.plan c.loop-stage.stage-index c.loop-stage.lo _ (in_use c.args.plan c.loop-stage.stage-index c.loop-stage-test.true) c.loop-stage.invariant.0 c.requires.2)

pub slice_bounds-sound-end : goal.slice_bounds-sound-end
slice_bounds-sound-end c = records_there c.args.width c.args.plan c.loop-stage.stage-index c.loop-stage.lo _ (in_use c.args.plan c.loop-stage.stage-index c.loop-stage-test.true) c.loop-stage.invariant.0 c.requires.2

pub slice_bounds-sound-end-in-loop-stage : goal.slice_bounds-sound-end-in-loop-stage
slice_bounds-sound-end-in-loop-stage c = records_there c.args.width c.args.plan c.loop-stage.stage-index c.loop-stage.lo _ (in_use c.args.plan c.loop-stage.stage-index c.loop-stage-test.true) c.loop-stage.invariant.0 c.requires.3

pub sound-good-requires : goal.sound-good-requires
sound-good-requires c =
    let a = c.args in
    let i = c.loop-stage.stage-index in
    let s = used_at a.plan i c.loop-stage-test.true (plan_accepted a.plan c.requires.0) in
    let l = in_use a.plan i c.loop-stage-test.true in (
      omega (arith, s.up, s.down, c.size_of-places.ensures.0),
      cut_long c.loop-stage.lo a.width a.starts.now a.lengths.now (records_there a.width a.plan i c.loop-stage.lo _ l c.loop-stage.invariant.0 c.requires.2) (records_there a.width a.plan i c.loop-stage.lo _ l c.loop-stage.invariant.0 c.requires.3),
    )

pub loop-stage-preserved : goal.loop-stage-preserved
loop-stage-preserved c =
    let a = c.args in
    (omega arith, sound_next a.width (used a.plan) a.starts.now a.lengths.now c.loop-stage.stage-index c.loop-stage.lo c.loop-stage.good _ _ c.loop-stage-test.true c.loop-stage.invariant.0 c.loop-stage.invariant.1 c.size_of-places.ensures.0 c.sound-good.ensures)
