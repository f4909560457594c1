-- The machine with what it wants.
use mathlib.Core.Path.{ap}
use Prim.Native.Nat.{ℕ}
use Rattle.picture_state.specs.declared.State.{State}
use Rattle.turns.specs.declared.Machine.{Machine}
use Rattle.turns.specs.declared.Phase.TheVariants.{Rows}
use Rattle.turns.proofs.at_rows.Goals as goal

abbrev at_wants : State → ℕ → Machine
at_wants S n = record { phase = Rows; wants = n; state = S }

pub returns : goal.returns
returns c = ap (at_wants c.args.state) c.wants.ensures
