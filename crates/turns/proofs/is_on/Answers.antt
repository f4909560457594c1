-- By the phase.
use mathlib.Core.Path.{refl, ap}
use Rattle.turns.specs.Inner.{is_over}
use Rattle.turns.proofs.Phases.{told_on, told_over}
use Rattle.turns.proofs.is_on.Goals as goal

pub returns-in-Head : goal.returns-in-Head
returns-in-Head c = told_on refl (ap is_over c.in-Head.is)

pub returns-in-Rows : goal.returns-in-Rows
returns-in-Rows c = told_on refl (ap is_over c.in-Rows.is)

pub returns-in-Over : goal.returns-in-Over
returns-in-Over c = told_over refl (ap is_over c.in-Over.is)
