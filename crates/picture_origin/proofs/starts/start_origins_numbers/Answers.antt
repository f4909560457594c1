-- `start_origins_numbers` meets its contract: the plan is read, and then the start is that of the plan.
use mathlib.Core.Path.{refl}
use Rattle.std.specs.Prelude.{Ok, Err}
use Rattle.plan_record.specs.Inner.{reading_as}
use Rattle.plan_record.proofs.Exits.{refused_some}
use Rattle.picture_start.specs.Start.{first_state_of}
use Rattle.picture_origin.proofs.Starting.{origins_numbers_refused, origins_numbers_went}
use Rattle.picture_origin.proofs.starts.start_origins_numbers.Goals as goal

pub returns-in-Ok : goal.returns-in-Ok
returns-in-Ok c =
    let a = c.args in
    origins_numbers_went a.count a.stages.now _ _ _ _ _ (reading_as (Ok c.in-Ok.plan)) c.in-Ok.ensures (λ p. first_state_of p a.sample a.width a.rows) _ _ _ _ _ refl c.start_origins.ensures

pub returns-in-Err : goal.returns-in-Err
returns-in-Err c =
    let a = c.args in
    origins_numbers_refused a.count a.stages.now _ _ _ _ _ (reading_as (Err c.in-Err.refusal)) c.in-Err.ensures _ _ _ _ _ (refused_some c.in-Err.refusal) c.from.ensures.0 c.from.ensures.1
