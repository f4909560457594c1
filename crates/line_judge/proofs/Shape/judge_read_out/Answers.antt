-- `judge_read_out` meets its contract, by the tests that led to each end.
use mathlib.Core.Path.{sym, ◌∙◌}
use borrow.Author.Tests.{le-leb, lt-leb}
use Rattle.line_judge.specs.Numbers.{line_read_out_number}
use Rattle.line_judge.proofs.Shape.judge_read_out.Goals as goal

pub returns-then-is_broken : goal.returns-then-is_broken
unfolding line_read_out_number
returns-then-is_broken c = simp (sym c.is_broken.ensures ∙ c.if-is_broken.true)

pub returns-then-self-place : goal.returns-then-self-place
unfolding line_read_out_number
returns-then-self-place c = simp (sym c.is_broken.ensures ∙ c.if-is_broken.false, le-leb _ _ c.if-self-place.true)

pub returns : goal.returns
unfolding line_read_out_number
returns c = simp (sym c.is_broken.ensures ∙ c.if-is_broken.false, lt-leb _ _ c.if-self-place.false)
