-- What a start promises: of its number, its state and the column records. It is handed no cells: an empty queue has none.
use Rattle.std.specs.Prelude.{◌≡◌, List, [], ◌∷◌, ◌++◌, ℕ, drop, replicate}
use Rattle.morph.specs.Numbers.{first_of}
use Rattle.plan_record.specs.declared.Plan.{Plan}
use Rattle.plan_record.specs.Numbers.{sample_number, size_number}
use Rattle.plan_record.specs.Plan.{plan_of, used, record_number, stages_from, plan_number}
use Rattle.picture_state.specs.declared.State.{State}
use Rattle.picture_state.specs.declared.Ending.{Ending}
use Rattle.picture_state.specs.declared.Ending.TheVariants.{Fixed, Open}
use Rattle.picture_state.specs.Numbers.{memory_number}
use Rattle.picture_start.specs.declared.Started.{Started}

-- ---- the state

-- a run of a plan before its first step: the plan's stages, and zeros and the kind erosion "as unused stage places hold"
abbrev pub state_from : Plan → ℕ → ℕ → Ending → ℕ → State
state_from plan sample width ending rows = record { plan = plan_of (used plan); sample = sample; width = width; ending = ending; rows = rows; step = 0 }

-- .. over a picture of so many rows
abbrev pub first_state_of : Plan → ℕ → ℕ → ℕ → State
first_state_of plan sample width rows = state_from plan sample width Fixed rows

-- .. and "an open run: the row count is not given at the start"
abbrev pub open_state : Plan → ℕ → ℕ → State
open_state plan sample width = state_from plan sample width Open 0

-- "a refused start .. hands back all zeros, kind erosion"
abbrev pub state_of_none : State
state_of_none = first_state_of (plan_of []) 0 0 0

-- ---- the numbers

-- "Order at the start: 1; then stage by stage 2, 3; then 5, 4, 6." For a plan record, whose kinds are an enum, 2 cannot arise.
unfoldable pub start_number : Plan → ℕ → ℕ → ℕ → ℕ → ℕ → ℕ
start_number plan sample width rows cells records =
    first_of (record_number plan ∷ sample_number sample ∷ size_number width rows ∷ memory_number plan width cells records ∷ [])

-- .. and for a plan in numbers
unfoldable pub numbers_number : ℕ → List ℕ → ℕ → ℕ → ℕ → ℕ → ℕ → ℕ
numbers_number count bytes sample width rows cells records =
    first_of (plan_number count bytes ∷ sample_number sample ∷ size_number width rows ∷ memory_number (plan_of (stages_from count bytes)) width cells records ∷ [])

-- of an open run, "4 otherwise looks only at the width": a picture of one row is never too high
abbrev pub open_number : Plan → ℕ → ℕ → ℕ → ℕ → ℕ
open_number plan sample width cells records = start_number plan sample width 1 cells records

abbrev pub open_numbers_number : ℕ → List ℕ → ℕ → ℕ → ℕ → ℕ → ℕ
open_numbers_number count bytes sample width cells records = numbers_number count bytes sample width 1 cells records

-- ---- the promise

-- the first n of a list of records are 0: empty queues, from place 0 on. "Lent .. records past the number needed are never written."
unfoldable pub cleared : ℕ → List ℕ → List ℕ
cleared n l = replicate n 0 ++ drop n l

-- A start that is judged `number`: refused exactly when that is not 0, with nothing written; else the state is `first`, and the records needed are those of empty queues.
pub record PictureStart (number : ℕ) (first : State) (records : ℕ) (starts lengths starts' lengths' : List ℕ) (r : Started) : Type 0 where
  pub told : r.number ≡ number
  pub refusal : (number ≡ 0 → ⊥) → (r.state ≡ state_of_none) × (starts' ≡ starts) × (lengths' ≡ lengths)
  pub accepted : number ≡ 0 → (r.state ≡ first) × (starts' ≡ cleared records starts) × (lengths' ≡ cleared records lengths)
