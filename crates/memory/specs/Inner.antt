-- Inner: only contracts of inner functions, and proofs, cite what stands here; no promise of a public call is made of it.
-- What each column record has that a step takes, as numbers.
use Rattle.std.specs.Prelude.{List, ℕ, ◌≤◌, ◌<◌, get_or}

-- Rule 12 of the column records, as it is kept: a state is refused where "a queue's start is not below its places, or its length over its window (c+d+1 for both in a column ..)"
pub record RecordsSound (P W : ℕ) (starts lengths : List ℕ) : Type 0 where
  pub below : (x : ℕ) → x < W → get_or starts x 0 < P
  pub fits : (x : ℕ) → x < W → get_or lengths x 0 ≤ P
