-- The step is on the row behind the marker.
use mathlib.Core.Path.{sym}
use Prim.Native.Nat.{◌+◌, ◌-◌}
use native.Mathlib.Omega.{arith}
use lib.ListN.{length-set}
use lib.Seq.{length-take-le}
use Rattle.step_grey.proofs.Laws.{framed}
use Rattle.step_grey.proofs.take.Goals as goal

pub slice_bounds-row-end : goal.slice_bounds-row-end
slice_bounds-row-end c = sym (length-take-le _ _ (c.requires.2 c.if-state.true))

pub slice_bounds-row-end-then-state : goal.slice_bounds-row-end-then-state
slice_bounds-row-end-then-state c =
    simp length-set (omega (arith, c.requires.0, c.requires.1))

pub shape_of-frame-then-state : goal.shape_of-frame-then-state
shape_of-frame-then-state c =
    simp length-set at c.frame-1.given.1

pub returns-then-state : goal.returns-then-state
returns-then-state c =
    let ys = c.row.new.out in
    framed c.args.bytes.now c.args.frame.now ys (1 + c.args.state.width - 1) (omega (arith, c.requires.0, c.requires.1)) (omega arith)
    c.row.auto.out (λ _. c.row.ensures) (λ l. absurd (omega (arith, c.if-state.true)))

pub slice_bounds-drain-end : goal.slice_bounds-drain-end
slice_bounds-drain-end c =
    simp length-set (omega (arith, c.requires.0, c.requires.1))

pub shape_of-frame : goal.shape_of-frame
shape_of-frame c =
    simp length-set at c.frame-2-1.given.1

pub returns : goal.returns
returns c =
    let ys = c.drain.new.out in
    framed c.args.bytes.now c.args.frame.now ys (1 + c.args.state.width - 1) (omega (arith, c.requires.0, c.requires.1)) (omega arith)
    c.drain.auto.out (λ l. absurd (omega (arith, c.if-state.false))) (λ _. c.drain.ensures)
