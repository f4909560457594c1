-- `start` meets its contract, by the tests that led to each end.
use mathlib.Core.Path.{sym, ◌∙◌}
use Rattle.morph.proofs.Exits.{first_up}
use Rattle.line_judge.specs.Numbers.{line_start_number}
use Rattle.line_judge.proofs.start.Goals as goal

pub returns-in_err-kind-clause-number : goal.returns-in_err-kind-clause-number
unfolding line_start_number
returns-in_err-kind-clause-number c = first_up c.in_err-kind.field-0.0 _ _ _ c.from_residual.ensures.1 c.in_err-kind.ensures

pub returns-then-is_extent_over-clause-number : goal.returns-then-is_extent_over-clause-number
unfolding line_start_number
returns-then-is_extent_over-clause-number c = simp (c.in_ok-kind.ensures.1, sym c.is_extent_over.ensures ∙ c.if-is_extent_over.true)

pub returns-then-is_off-clause-number : goal.returns-then-is_off-clause-number
unfolding line_start_number
returns-then-is_off-clause-number c = simp (c.in_ok-kind.ensures.1, sym c.is_extent_over.ensures ∙ c.if-is_extent_over.false, sym c.is_off.ensures ∙ c.if-is_off.true)

pub returns-clause-number : goal.returns-clause-number
unfolding line_start_number
returns-clause-number c = simp (c.in_ok-kind.ensures.1, sym c.is_extent_over.ensures ∙ c.if-is_extent_over.false, sym c.is_off.ensures ∙ c.if-is_off.false)
