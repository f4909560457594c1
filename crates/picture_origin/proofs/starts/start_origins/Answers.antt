-- `start_origins` meets its contract: the plan is judged, and then the start is that of a run that does not ask.
use mathlib.Core.Path.{refl}
use Rattle.plan_record.proofs.Exits.{refused_some}
use Rattle.picture_origin.proofs.Starting.{origins_refused, origins_went}
use Rattle.picture_origin.proofs.starts.start_origins.Goals as goal

pub returns-in-Ok : goal.returns-in-Ok
returns-in-Ok c = origins_went _ _ _ _ _ _ _ _ _ _ 0 _ _ _ c.in-Ok.ensures refl c.start.ensures

pub returns-in-Err : goal.returns-in-Err
returns-in-Err c = origins_refused _ _ _ _ _ _ _ _ _ _ _ _ c.in-Err.ensures (refused_some c.in-Err.refusal) c.from.ensures.0 c.from.ensures.1
