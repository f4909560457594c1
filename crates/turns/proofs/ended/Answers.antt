-- Two bytes are stored.
use mathlib.Core.Path.{refl}
use Rattle.turns.proofs.Phases.{two_set}
use Rattle.turns.proofs.ended.Goals as goal

pub returns : goal.returns
returns c = (two_set c.args.frame.now c.args.number c.requires, refl)
