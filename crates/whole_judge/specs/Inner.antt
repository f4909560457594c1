-- Inner: only contracts of inner functions, and proofs, cite what stands here; no promise of a public call is made of it.
-- What a stage, or a plan, leaves of a whole picture that is accepted; and a picture as it is read.
use Rattle.std.specs.Prelude.{◌≡◌, Option, Some, None, List, map, ℕ, ◌≤◌, ◌<◌, length}
use Rattle.morph.specs.Lists.{Each}
use Rattle.morph.specs.Picture.{Picture}
use Rattle.sample.specs.Samples.{Samples, first_bad}
use Rattle.passes.specs.Flat.{flat_rows, UsedUpTo}

-- f has been applied to a picture of values of which P holds, and P holds of what it made
pub record Applied {A : Type 0} (P : A → Type 0) (f : Picture A → Picture A) (W H : ℕ) (picture row picture' row' : List A) : Type 0 where
  pub rows : flat_rows W H picture' ≡ f (flat_rows W H picture)
  pub fine : Each P picture'
  pub used : UsedUpTo W row row'

-- A picture as it is read, P being what then holds of each value: where a pixel is not accepted, it stays, and the place of the first such pixel is told; else none is, and each value is what it is read as.
abbrev pub Read : {A : Type 0} → Samples A → (A → Type 0) → List A → List A → Option ℕ → Type 0
Read K P picture picture' (Some place) = (place ≡ first_bad K picture) × (place < length picture) × (picture' ≡ picture)
Read K P picture picture' None = (length picture ≤ first_bad K picture) × (picture' ≡ map K.taken picture) × Each P picture'
