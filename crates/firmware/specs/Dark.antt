-- What the dark residue of a row is from C: a number, and the sum at a place of the caller's.
use Rattle.std.specs.Prelude.{◌≡◌, ◌≢◌, List, ℕ}
use Rattle.residue.specs.Residue.{residue_number, row_residue}

-- 0, and the row's residue for what stood there; or the number, and what stood there
pub record TellsDark (a b c d row rows : ℕ) (closed input : List ℕ) (sum sum' r : ℕ) : Type 0 where
  pub told : r ≡ residue_number a b c d row rows closed input
  pub refuses : residue_number a b c d row rows closed input ≢ 0 → sum' ≡ sum
  pub sums : residue_number a b c d row rows closed input ≡ 0 → sum' ≡ row_residue a b c d row rows closed input
