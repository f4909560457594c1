-- `across` meets its contract: reading, and then draining.
use Rattle.row.proofs.across.Goals as goal

pub returns : goal.returns
returns g c = c.drain_row.ensures.1 _ _ _ c.read_all-passed.ensures
