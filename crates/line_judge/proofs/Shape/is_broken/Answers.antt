-- `is_broken` meets its contract, by the tests that led to each end.
use mathlib.Core.Path.{sym, ◌∙◌}
use borrow.Author.Tests.{lt-ltb, le-ltb, le-leb, lt-leb}
use Rattle.line_judge.specs.Numbers.{broken}
use Rattle.line_judge.proofs.Shape.is_broken.Goals as goal

pub returns-then-is_extent_over : goal.returns-then-is_extent_over
unfolding broken
returns-then-is_extent_over c = simp (sym c.is_extent_over.ensures ∙ c.if-is_extent_over.true)

pub returns-then-is_off : goal.returns-then-is_off
unfolding broken
returns-then-is_off c = simp (sym c.is_extent_over.ensures ∙ c.if-is_extent_over.false, sym c.is_off.ensures ∙ c.if-is_off.true)

pub returns-then-self-ahead : goal.returns-then-self-ahead
unfolding broken
returns-then-self-ahead c =
    simp (sym c.is_extent_over.ensures ∙ c.if-is_extent_over.false, sym c.is_off.ensures ∙ c.if-is_off.false, ← c.ahead.ensures.0, lt-ltb _ _ c.if-self-ahead.true)

pub returns-then-self-ge63 : goal.returns-then-self-ge63
unfolding broken
returns-then-self-ge63 c =
    simp (sym c.is_extent_over.ensures ∙ c.if-is_extent_over.false, sym c.is_off.ensures ∙ c.if-is_off.false, ← c.ahead.ensures.0, le-ltb _ _ c.if-self-ahead.false, le-leb _ _ c.if-self-ge63.true)

pub returns : goal.returns
unfolding broken
returns c =
    simp (sym c.is_extent_over.ensures ∙ c.if-is_extent_over.false, sym c.is_off.ensures ∙ c.if-is_off.false, ← c.ahead.ensures.0, le-ltb _ _ c.if-self-ahead.false, lt-leb _ _ c.if-self-ge63.false, c.window.ensures.0)
