-- `judge_read` meets its contract, by the tests that led to each end.
use mathlib.Core.Path.{sym, ◌∙◌}
use borrow.Author.Tests.{le-leb, lt-leb}
use Rattle.line_judge.specs.Numbers.{line_read_number}
use Rattle.line_judge.proofs.Shape.judge_read.Goals as goal

pub returns-then-is_broken : goal.returns-then-is_broken
unfolding line_read_number
returns-then-is_broken c = simp (sym c.is_broken.ensures ∙ c.if-is_broken.true)

pub returns-then-self : goal.returns-then-self
unfolding line_read_number
returns-then-self c = simp (sym c.is_broken.ensures ∙ c.if-is_broken.false, le-leb _ _ c.if-self.true)

pub returns-then-not-good : goal.returns-then-not-good
unfolding line_read_number
returns-then-not-good c = simp (sym c.is_broken.ensures ∙ c.if-is_broken.false, lt-leb _ _ c.if-self.false, c.if-not-good.true)

pub returns : goal.returns
unfolding line_read_number
returns c = simp (sym c.is_broken.ensures ∙ c.if-is_broken.false, lt-leb _ _ c.if-self.false, c.if-not-good.false)
