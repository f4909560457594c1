-- Inner: only contracts of inner functions, and proofs, cite what stands here; no promise of a public call is made of it.
use Rattle.std.specs.Prelude.{◌≡◌, List, ℕ}
use Rattle.picture_start.specs.Start.{cleared}

-- a start that is judged `number`, but for its state: the records needed are cleared, or nothing is written
pub record Emptied (number records : ℕ) (starts lengths starts' lengths' : List ℕ) (r : ℕ) : Type 0 where
  pub told : r ≡ number
  pub refusal : (number ≡ 0 → ⊥) → (starts' ≡ starts) × (lengths' ≡ lengths)
  pub accepted : number ≡ 0 → (starts' ≡ cleared records starts) × (lengths' ≡ cleared records lengths)
