-- What a step of a picture promises: of its answer, its state, all lent cells and records, and the output row.
use Rattle.std.specs.Prelude.{◌≡◌, Bool, true, cond, List, [], map, ℕ, ◌+◌, ◌-◌, ◌≤◌, ◌<◌, eqb, leb, length, get_or}
use Rattle.morph.specs.Picture.{Picture, apply_plan}
use Rattle.morph.specs.Plan.{plan_cost}
use Rattle.sample.specs.Samples.{Samples, first_bad}
use Rattle.plan_record.specs.Plan.{used, stages_of, cells_needed, records_needed, plan_ahead}
use Rattle.memory.specs.Memory.{Memory, behind, all_sound, Whole, Holds}
use Rattle.picture_state.specs.declared.State.{State}
use Rattle.picture_state.specs.declared.Answer.{Answer}
use Rattle.picture_state.specs.declared.Answer.TheVariants.{Row, NotYet, Refused}
use Rattle.picture_state.specs.Numbers.{height_of, offer_number, row_number, drain_judged}

-- ---- what an answer says

-- "A step answers with an enum: a row with its number and the comparisons made, not yet with the comparisons made, or a refusal."
pub data RowSaid : Type 0 where
  row : (number comparisons : ℕ) → RowSaid
  is_not_yet : (comparisons : ℕ) → RowSaid
  refused : (number column : ℕ) → RowSaid

abbrev pub row_said_of : Answer → RowSaid
row_said_of (Row number comparisons) = row number comparisons
row_said_of (NotYet comparisons) = is_not_yet comparisons
row_said_of (Refused number column) = refused number column

-- step t of a plan with look-ahead D: its row t - D if that is due
abbrev pub row_said_at : Bool → ℕ → ℕ → RowSaid
row_said_at due number comparisons = cond due (row number comparisons) (is_not_yet comparisons)

-- ---- an accepted step

-- the state with one step more
abbrev pub next_state : State → State
next_state S = record { plan = S.plan; sample = S.sample; width = S.width; ending = S.ending; rows = S.rows; step = S.step + 1 }

module _ {A : Type 0} (K : Samples A) where
  -- Step t of state S with the row as it is read. The state has one step more, the lent slices are as long as they were, "lent cells and records past the number needed are
  -- never written", and the records are such as the next step takes. The answer is the row's number t - D where that is due, and then the output row is that row; else it is
  -- not yet, and the output row stays as it stood. And for every picture of the state's width and of as many rows as the step knows of, whose first t steps could have left
  -- this memory, and whose row t is the row given while there are rows: the memory holds what t + 1 steps leave (condition 3), the comparisons are document 01's, and the row
  -- that came out is row t - D of the plan applied to the whole picture (condition 2). Before the stop of an open run the picture is the rows so far, row t its last.
  pub record Advanced (S : State) (M : Memory A) (pixels out : List A) (M' : Memory A) (out' : List A) (answer : Answer) (S' : State) : Type 0 where
    pub comparisons : ℕ
    pub said : row_said_of answer ≡ row_said_at (leb (plan_ahead S.plan) S.step) (S.step - plan_ahead S.plan) comparisons
    pub state : S' ≡ next_state S
    pub values_long : length M'.values ≡ length M.values
    pub positions_long : length M'.positions ≡ length M.positions
    pub starts_long : length M'.starts ≡ length M.starts
    pub lengths_long : length M'.lengths ≡ length M.lengths
    pub past : behind (cells_needed S.plan S.width) (records_needed S.plan S.width) M' ≡ behind (cells_needed S.plan S.width) (records_needed S.plan S.width) M
    pub sound : all_sound S.width (used S.plan) M'.starts M'.lengths ≡ true
    pub early : S.step < plan_ahead S.plan → out' ≡ out
    pub told :
        (p : Picture A) → Whole K S.width (height_of S) p → Holds K (used S.plan) S.width p S.step M → (S.step < height_of S → pixels ≡ get_or p S.step [])
        → Holds K (used S.plan) S.width p (S.step + 1) M'
        × (comparisons ≡ plan_cost (stages_of K.order S.plan) S.width p S.step)
        × (plan_ahead S.plan ≤ S.step → out' ≡ get_or (apply_plan (stages_of K.order S.plan) p) (S.step - plan_ahead S.plan) [])

  -- ---- a refused call: "Every refusal returns its number (8 its column too) and the state as given, and writes nothing"

  pub record Unchanged (number column : ℕ) (S : State) (M : Memory A) (out : List A) (M' : Memory A) (out' : List A) (answer : Answer) (S' : State) : Type 0 where
    pub said : row_said_of answer ≡ refused number column
    pub state : S' ≡ S
    pub memory : M' ≡ M
    pub output : out' ≡ out

  -- "8 | a pixel is not finite; the first such column is named", where 8 is the number: nothing that is judged before it is wrong
  abbrev pub column_of : ℕ → State → Memory A → List A → List A → ℕ
  column_of kind S M pixels out =
      cond (eqb (offer_number kind S (length pixels) (length out) (length M.values) (length M.positions) M.starts M.lengths) 0) (first_bad K pixels) 0

  -- ---- the two steps, for samples of that kind

  -- a row call: refused exactly when `row_number` is not 0, and else a step with the row as it is read
  pub record RowStep (kind : ℕ) (S : State) (M : Memory A) (pixels out : List A) (M' : Memory A) (out' : List A) (answer : Answer) (S' : State) : Type 0 where
    pub refusal : (row_number K kind S M pixels out ≡ 0 → ⊥) → Unchanged (row_number K kind S M pixels out) (column_of kind S M pixels out) S M out M' out' answer S'
    pub accepted : row_number K kind S M pixels out ≡ 0 → Advanced S M (map K.taken pixels) out M' out' answer S'

  -- a drain: refused exactly when `drain_judged` is not 0, and else a step without a row
  pub record DrainStep (kind : ℕ) (S : State) (M : Memory A) (out : List A) (M' : Memory A) (out' : List A) (answer : Answer) (S' : State) : Type 0 where
    pub refusal : (drain_judged kind S M out ≡ 0 → ⊥) → Unchanged (drain_judged kind S M out) 0 S M out M' out' answer S'
    pub accepted : drain_judged kind S M out ≡ 0 → Advanced S M [] out M' out' answer S'
