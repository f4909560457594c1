-- An accepted start has a plan of few stages.
use mathlib.Core.Path.{sym}
use Rattle.picture_start.proofs.Starting.{start_fits}
use Rattle.picture_start.proofs.begin.start.Goals as goal

pub first_state-requires : goal.first_state-requires
first_state-requires c = (start_fits _ _ _ _ _ _ (sym c.in-Ok.ensures.told)).0
