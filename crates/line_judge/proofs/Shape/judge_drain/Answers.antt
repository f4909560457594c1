-- `judge_drain` meets its contract, by the tests that led to each end.
use native.Mathlib.Omega.{arith}
use mathlib.Core.Path.{sym, ◌∙◌}
use borrow.Author.Tests.{lt-ltb, le-ltb, le-leb, lt-leb}
use Rattle.line_judge.specs.Numbers.{line_drain_number}
use Rattle.line_judge.proofs.Numbers.{sound_broken}
use Rattle.line_judge.proofs.Shape.judge_drain.Goals as goal

pub returns-then-is_broken : goal.returns-then-is_broken
unfolding line_drain_number
returns-then-is_broken c = simp (sym c.is_broken.ensures ∙ c.if-is_broken.true)

pub returns-then-self : goal.returns-then-self
unfolding line_drain_number
returns-then-self c = simp (sym c.is_broken.ensures ∙ c.if-is_broken.false, lt-ltb _ _ c.if-self.true)

pub overflow_add-self : goal.overflow_add-self
overflow_add-self c = omega (arith, sound_broken _ _ _ _ _ _ _ (sym c.is_broken.ensures ∙ c.if-is_broken.false))

pub returns-then-self-ahead : goal.returns-then-self-ahead
unfolding line_drain_number
returns-then-self-ahead c =
    simp (sym c.is_broken.ensures ∙ c.if-is_broken.false, le-ltb _ _ c.if-self.false, ← c.ahead.ensures.0, le-leb _ _ c.if-self-ahead.true)

pub returns : goal.returns
unfolding line_drain_number
returns c =
    simp (sym c.is_broken.ensures ∙ c.if-is_broken.false, le-ltb _ _ c.if-self.false, ← c.ahead.ensures.0, lt-leb _ _ c.if-self-ahead.false)
