-- Inner: only contracts of inner functions, and proofs, cite what stands here; no promise of a public call is made of it.
use Rattle.std.specs.Prelude.{◌≡◌, true, List, ℕ, ◌+◌, ◌≤◌, ◌<◌, length, take, Ok, Err}
use Rattle.std.specs.declared.result.Result.{Result}
use Rattle.program.specs.declared.Hand.{Hand}
use Rattle.ports.specs.declared.Moved.{Moved}
use Rattle.ports.specs.declared.Loss.{Loss}

-- what is told at the end is all that went through
abbrev pub Settled : Result Moved Loss → ℕ → Type 0
Settled (Ok m) total = total ≡ m.read + m.given
Settled (Err l) total = Unit {0}

-- No read failed. More bytes may be at hand, behind those that were, and each that came is counted. Where they are still fewer than are wanted the input has ended.
pub record Fetched (bytes bytes' : List ℕ) (hand : Hand) (wants total : ℕ) (r : Hand) : Type 0 where
  pub all : total ≡ r.moved.read + r.moved.given
  pub held : take hand.have bytes' ≡ take hand.have bytes
  pub more : hand.have ≤ r.have
  pub there : r.have ≤ length bytes'
  pub read : r.moved.read + hand.have ≡ hand.moved.read + r.have
  pub given : r.moved.given ≡ hand.moved.given
  pub after : hand.moved.ended ≡ true → (r.moved ≡ hand.moved) × (r.have ≡ hand.have)
  pub short : r.have < wants → r.moved.ended ≡ true

-- so many bytes are at hand; or a read failed, and what was moved before it is known
abbrev pub Fetches : List ℕ → List ℕ → Hand → ℕ → ℕ → Result Hand Loss → Type 0
Fetches bytes bytes' hand wants total (Ok r) = Fetched bytes bytes' hand wants total r
Fetches bytes bytes' hand wants total (Err l) = (l.moved ≡ hand.moved) × (l.taken ≡ 0)
