-- Inner: only contracts of inner functions, and proofs, cite what stands here; no promise of a public call is made of it.
use Rattle.std.specs.Prelude.{◌≡◌, List, ◌∷◌, ℕ, ◌≤◌, ◌<◌, Float}
use Rattle.sample.specs.Samples.{rates}
use Rattle.sample.specs.Bytes.{floats_of, bytes_of_row}
use Rattle.memory.specs.Memory.{Memory}
use Rattle.picture_state.specs.declared.State.{State}
use Rattle.picture_state.specs.declared.Answer.{Answer}
use Rattle.picture_state.specs.Step.{row, row_said_of, RowStep, DrainStep}

-- the picture's own step on a row's bytes: a row where there are rows, and a drain after them
pub record FloatStep (S : State) (M : Memory Float) (bytes : List ℕ) (out : List Float) (M' : Memory Float) (out' : List Float) (answer : Answer) (S' : State) : Type 0 where
  pub offered : S.step < S.rows → RowStep rates 1 S M (floats_of S.width bytes) out M' out' answer S'
  pub drained : S.rows ≤ S.step → DrainStep rates 1 S M out M' out' answer S'

-- a row that is due stands in the frame, behind its marker
abbrev pub InFrame : Answer → List Float → List ℕ → Type 0
InFrame answer came frame = (number comparisons : ℕ) → row_said_of answer ≡ row number comparisons → frame ≡ 1 ∷ bytes_of_row came
