-- By the step.
use mathlib.Core.Path.{◌∙◌}
use native.Mathlib.Omega.{arith}
use Rattle.turns.proofs.Phases.{wants_row, wants_drain, wants_tail}
use Rattle.turns.proofs.wants.Goals as goal

pub returns-then-state : goal.returns-then-state
returns-then-state c = c.row_size.ensures.0 ∙ wants_row _ c.if-state.true

pub returns-then-state-look_ahead : goal.returns-then-state-look_ahead
returns-then-state-look_ahead c = wants_drain _ (omega arith) (omega arith)

pub returns : goal.returns
returns c = wants_tail _ (omega arith)
