-- The empty plan and zeros.
use mathlib.Core.Path.{ap}
use Rattle.plan_record.specs.declared.Plan.{Plan}
use Rattle.picture_state.specs.declared.State.{State}
use Rattle.picture_state.specs.declared.Ending.TheVariants.{Fixed}
use Rattle.turns.proofs.none.Goals as goal

abbrev zeros : Plan → State
zeros plan = record { plan = plan; sample = 0; width = 0; ending = Fixed; rows = 0; step = 0 }

pub returns : goal.returns
returns c = ap zeros c.empty.ensures.0
