-- By the tests that led to each end.
use mathlib.Core.Path.{refl}
use borrow.Author.Tests.{eq-eqb, ne_eqb}
use Rattle.morph.proofs.Exits.{first_up}
use Rattle.firmware.specs.Row.{filter_row_number}
use Rattle.firmware.proofs.Laws.{row_lengths}
use Rattle.firmware.proofs.judge.Goals as goal

pub returns-in_err-which-clause-number : goal.returns-in_err-which-clause-number
unfolding filter_row_number
returns-in_err-which-clause-number c = first_up c.in_err-which.field-0.0 _ _ _ c.from_residual.ensures.1 c.in_err-which.ensures.number

pub returns-then-pixels-places-clause-number : goal.returns-then-pixels-places-clause-number
returns-then-pixels-places-clause-number c = row_lengths _ _ _ _ _ c.in_ok-which.ensures.number refl (simp (ne_eqb _ _ c.if-pixels-places.true))

pub returns-clause-number : goal.returns-clause-number
returns-clause-number c = row_lengths _ _ _ _ _ c.in_ok-which.ensures.number refl (simp (eq-eqb _ _ c.if-pixels-places.false))
