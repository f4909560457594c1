-- `across` meets its contract: reading, and then draining.
use Rattle.row_origin.proofs.across.Goals as goal

pub returns : goal.returns
returns g c = c.drain_row.ensures.2 _ _ _ _ c.requires.3 c.read_all-passed.ensures
