-- The sum so far is that of the columns so far.
use Rattle.std.proofs.Common.{◌≡◌, ◌-◌, ◌*◌, ◌≤◌, get_or}
use Rattle.morph.specs.Lists.{sum_to}
use Rattle.residue.proofs.sum_of.Given as goal

abbrev pub invariant-loop-x : goal.invariant-loop-x
invariant-loop-x l = (l.sum ≡ sum_to l.x (λ k. get_or l.closed k 0 - get_or l.input k 0)) × (l.sum ≤ l.x * 255)
