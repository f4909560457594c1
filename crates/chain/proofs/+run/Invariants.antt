-- The stages left fall.
use lib.ListN.{length}
use Rattle.chain.proofs.+run.Given as goal

abbrev pub decreases-run : goal.decreases-run
decreases-run g l = length l.stages.now
