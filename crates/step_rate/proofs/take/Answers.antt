-- The step is on the front of the two rows, and the row that came out of it is given out into the front of the frame.
use mathlib.Core.Path.{sym, ap, ◌∙◌}
use native.Mathlib.Omega.{arith}
use Prim.Native.Nat.{ℕ, ◌+◌, ◌*◌}
use lib.ListN.{drop}
use lib.Seq.{length-take-le}
use Rattle.step_rate.proofs.Laws.{front_back, framed}
use Rattle.step_rate.proofs.take.Goals as goal

pub slice_bounds-step-end-2 : goal.slice_bounds-step-end-2
slice_bounds-step-end-2 c =
    sym (length-take-le _ _ (omega (arith, c.requires.0, c.requires.2)))

pub slice_bounds-step-end-4 : goal.slice_bounds-step-end-4
slice_bounds-step-end-4 c =
    sym (length-take-le _ _ (omega (arith, c.requires.0, c.requires.3)))

pub step-stepped-requires : goal.step-stepped-requires
step-stepped-requires c =
    (c.requires.0, length-take-le _ _ (omega (arith, c.requires.0, c.requires.2)), c.requires.4)

pub slice_bounds-give-end-4 : goal.slice_bounds-give-end-4
slice_bounds-give-end-4 c =
    sym (length-take-le _ _ (omega (arith, c.requires.0, c.requires.1)))

pub give-requires : goal.give-requires
give-requires c =
    length-take-le _ _ (omega (arith, c.requires.0, c.requires.1))
    ∙ ap (λ (n : ℕ). 1 + n * 4)
    (sym (front_back c.args.state.width c.args.came.now c.step-stepped.new.came (omega (arith, c.requires.0, c.requires.3)) c.step-stepped.auto.came))

pub returns : goal.returns
returns c =
    let short = c.requires.0 in
    framed c.args.bytes.now c.args.frame.now c.give.new.frame (drop (1 + c.args.state.width * 4) c.args.frame.now) c.args.came.now
    c.step-stepped.new.came (omega (arith, short, c.requires.3)) (omega (arith, short, c.requires.1)) c.step-stepped.auto.came c.give.auto.frame
    c.step-stepped.ensures c.give.ensures
