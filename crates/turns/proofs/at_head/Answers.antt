-- The machine with no picture's state.
use mathlib.Core.Path.{ap}
use Prim.Native.Nat.{ℕ}
use Rattle.picture_state.specs.declared.State.{State}
use Rattle.turns.specs.declared.Machine.{Machine}
use Rattle.turns.specs.declared.Phase.TheVariants.{Head}
use Rattle.turns.proofs.at_head.Goals as goal

abbrev head_of : ℕ → State → Machine
head_of n S = record { phase = Head; wants = n; state = S }

pub returns : goal.returns
returns c = ap (head_of c.args.wants) c.none.ensures
