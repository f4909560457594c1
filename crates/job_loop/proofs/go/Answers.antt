-- Lengths stay, and `Going` is carried round.
use mathlib.Core.Path.{refl, ◌∙◌}
use native.Mathlib.Omega.{arith}
use Rattle.job_loop.proofs.Going.{rest_whole, rest_put, going_first, going_fits, used_inside, put_within, going_next, going_last}
use Rattle.job_loop.proofs.go.Goals as goal

pub loop-machine-init : goal.loop-machine-init
loop-machine-init c = (refl, refl, refl, refl, refl, refl, refl, refl, refl, going_first _ _ _ _ _ c.requires.4 c.at_head-machine.ensures)

pub slice_bounds-put_turn-count : goal.slice_bounds-put_turn-count
slice_bounds-put_turn-count c = c.loop-machine.invariant.9.inside

pub slice_bounds-put_turn-count-in-loop-machine : goal.slice_bounds-put_turn-count-in-loop-machine
slice_bounds-put_turn-count-in-loop-machine c = c.loop-machine.invariant.9.within

pub put_turn-turned-requires : goal.put_turn-turned-requires
put_turn-turned-requires c =
    let i = c.loop-machine.invariant in
    let p = c.requires in
    (going_fits i.9 (rest_whole c.args.job.now c.loop-machine.at) (rest_whole c.loop-machine.out c.loop-machine.done) (rw i.0 p.0), rw i.1 p.1, rw i.2 p.2, rw i.3 p.3)

pub overflow_add-at : goal.overflow_add-at
overflow_add-at c =
    omega (arith, used_inside c.loop-machine.invariant.9 (rest_whole c.args.job.now c.loop-machine.at) (rest_whole c.loop-machine.out c.loop-machine.done) c.put_turn-turned.ensures)

pub overflow_add-done : goal.overflow_add-done
overflow_add-done c =
    omega (arith, put_within c.loop-machine.invariant.9 (rest_whole c.args.job.now c.loop-machine.at) (rest_whole c.loop-machine.out c.loop-machine.done) c.put_turn-turned.ensures, c.loop-machine.invariant.0)

pub loop-machine-smaller : goal.loop-machine-smaller
loop-machine-smaller c =
    c.put_turn-turned.ensures.turns.fewer (c.is_on.ensures.0 c.loop-machine-test.true)

pub loop-machine-preserved : goal.loop-machine-preserved
loop-machine-preserved c =
    let i = c.loop-machine.invariant in
    let given = rest_whole c.args.job.now c.loop-machine.at in
    let lent_out = rest_whole c.loop-machine.out c.loop-machine.done in (
      c.out-1.given.1 ∙ i.0,
      c.frame-1.given ∙ i.1,
      c.row-1.given ∙ i.2,
      c.came-1.given ∙ i.3,
      c.greys-1.given ∙ i.4,
      c.rates-1.given ∙ i.5,
      c.positions-1.given ∙ i.6,
      c.starts-1.given ∙ i.7,
      c.lengths-1.given ∙ i.8,
      going_next i.9 given lent_out c.put_turn-turned.ensures (rest_put c.loop-machine.out _ c.loop-machine.done i.9.within),
    )

pub shape_of-out : goal.shape_of-out
shape_of-out c = c.loop-machine.invariant.0

pub shape_of-frame : goal.shape_of-frame
shape_of-frame c = c.loop-machine.invariant.1

pub shape_of-row : goal.shape_of-row
shape_of-row c = c.loop-machine.invariant.2

pub shape_of-came : goal.shape_of-came
shape_of-came c = c.loop-machine.invariant.3

pub shape_of-greys : goal.shape_of-greys
shape_of-greys c = c.loop-machine.invariant.4

pub shape_of-rates : goal.shape_of-rates
shape_of-rates c = c.loop-machine.invariant.5

pub shape_of-positions : goal.shape_of-positions
shape_of-positions c = c.loop-machine.invariant.6

pub shape_of-starts : goal.shape_of-starts
shape_of-starts c = c.loop-machine.invariant.7

pub shape_of-lengths : goal.shape_of-lengths
shape_of-lengths c = c.loop-machine.invariant.8

pub returns : goal.returns
returns c = going_last c.loop-machine.invariant.9 (c.is_on.ensures.1 c.loop-machine-test.false)
