-- The row is filled with the floats of its bytes, and then the step is on it.
use mathlib.Core.Path.{sym, ap, ◌∙◌}
use Prim.Native.Nat.{ℕ, ◌*◌}
use native.Mathlib.Omega.{arith}
use lib.ListN.{length}
use lib.Seq.{length-take-le}
use Rattle.step_rate.proofs.Laws.{near}
use Rattle.step_rate.proofs.step.Goals as goal

pub slice_bounds-take_in-end : goal.slice_bounds-take_in-end
slice_bounds-take_in-end c = sym (length-take-le _ _ (c.requires.2 c.if-state.true))

pub take_in-requires : goal.take_in-requires
take_in-requires c =
    length-take-le _ _ (c.requires.2 c.if-state.true) ∙ ap (λ (n : ℕ). n * 4) (sym c.requires.1)

pub returns-then-state : goal.returns-then-state
returns-then-state c =
    let a = c.args in
    let same = c.take_in.ensures ∙ near a.state.width (length a.row.now) a.bytes.now c.requires.1 (c.requires.2 c.if-state.true) in
    record { offered = λ _. rw (sym same) c.row.ensures; drained = λ l. absurd (omega (arith, c.if-state.true)) }

pub returns : goal.returns
returns c =
    record { offered = λ l. absurd (omega (arith, c.if-state.false)); drained = λ _. c.drain.ensures }
