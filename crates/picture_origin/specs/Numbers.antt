-- The numbers of the calls that ask for origins, test by test in the documents' order: 0 where nothing is wrong. They are those of the calls that do not ask, and 20.
use Rattle.std.specs.Prelude.{not, ◌||◌, List, [], ◌∷◌, ℕ, min, eqb, ltb, length}
use Rattle.morph.specs.Lists.{all}
use Rattle.morph.specs.Numbers.{given, first_of}
use Rattle.sample.specs.Samples.{Samples}
use Rattle.plan_record.specs.declared.Plan.{Plan}
use Rattle.plan_record.specs.Plan.{record_number, plan_number, plan_ahead}
use Rattle.memory.specs.Memory.{Memory, memory}
use Rattle.picture_state.specs.declared.State.{State}
use Rattle.picture_state.specs.Numbers.{is_all_read, is_past_last, has_no_drain, state_number, lent_number}
use Rattle.picture_start.specs.Start.{start_number, numbers_number}

-- "20 when positions are asked of over one stage"
abbrev pub several_number : ℕ → ℕ
several_number count = given 20 (ltb 1 count)

-- ---- the starts: ".. after 3 and before 5"

-- of a plan record. What is judged before 20 stands once more in `start_number`, where it is 0.
unfoldable pub origins_number : Plan → ℕ → ℕ → ℕ → ℕ → ℕ → ℕ
origins_number plan sample width rows cells records = first_of (record_number plan ∷ several_number plan.count ∷ start_number plan sample width rows cells records ∷ [])

-- of a plan in numbers
unfoldable pub origins_numbers_number : ℕ → List ℕ → ℕ → ℕ → ℕ → ℕ → ℕ → ℕ
origins_numbers_number count bytes sample width rows cells records = first_of (plan_number count bytes ∷ several_number count ∷ numbers_number count bytes sample width rows cells records ∷ [])

-- of open runs, whose rows are not counted
abbrev pub open_origins_number : Plan → ℕ → ℕ → ℕ → ℕ → ℕ
open_origins_number plan sample width cells records = origins_number plan sample width 1 cells records

abbrev pub open_origins_numbers_number : ℕ → List ℕ → ℕ → ℕ → ℕ → ℕ → ℕ
open_origins_numbers_number count bytes sample width cells records = origins_numbers_number count bytes sample width 1 cells records

-- ---- the steps

-- lent memory of which each cell has a column beside its value and its position
pub record OriginMemory (A : Type 0) : Type 0 where
  pub cells : Memory A
  pub columns : List ℕ

-- the three rows of a step: the pixels that come out, and the row and the column that each came from
pub record OriginRows (A : Type 0) : Type 0 where
  pub pixels : List A
  pub rows : List ℕ
  pub columns : List ℕ

module _ {A : Type 0} where
  -- the memory and the rows of these slices
  abbrev pub five_slices : List A → List ℕ → List ℕ → List ℕ → List ℕ → OriginMemory A
  five_slices values positions columns starts lengths = record { cells = memory values positions starts lengths; columns = columns }

  abbrev pub three_rows : List A → List ℕ → List ℕ → OriginRows A
  three_rows pixels rows columns = record { pixels = pixels; rows = rows; columns = columns }

-- a plan and a size that are not in order are 12 for the state's own fields; and then 20
unfoldable pub asked_number : State → ℕ
asked_number S = first_of (state_number S ∷ several_number S.plan.count ∷ [])

-- .. and then 5; 6, the columns being counted with the cells; and 12 for the column records. The state's own fields are judged in it once more, and are in order there.
unfoldable pub origin_lent_number : {A : Type 0} → ℕ → State → OriginMemory A → ℕ
origin_lent_number kind S M =
    first_of
    (asked_number S
    ∷ lent_number kind S (length M.cells.values) (min (length M.cells.positions) (length M.columns)) M.cells.starts M.cells.lengths
    ∷ [])

-- the three rows out: "7 | an input or output row is not as long as the width"
abbrev pub out_number : {A : Type 0} → State → OriginRows A → ℕ
out_number S out = given 7 (not (eqb (length out.pixels) S.width) || not (eqb (length out.rows) S.width) || not (eqb (length out.columns) S.width))

-- a row: .. then 9, 28, 7 for the row in and the rows out
unfoldable pub origin_offer_number : {A : Type 0} → ℕ → State → OriginMemory A → List A → OriginRows A → ℕ
origin_offer_number kind S M row out =
    first_of
    (origin_lent_number kind S M
    ∷ given 9 (is_all_read S.ending S.rows S.step)
    ∷ given 28 (is_past_last S.ending S.step)
    ∷ given 7 (not (eqb (length row) S.width))
    ∷ out_number S out
    ∷ [])

-- .. and then 8
unfoldable pub origin_row_number : {A : Type 0} → Samples A → ℕ → State → OriginMemory A → List A → OriginRows A → ℕ
origin_row_number K kind S M row out = first_of (origin_offer_number kind S M row out ∷ given 8 (not (all K.good row)) ∷ [])

-- a drain: .. then 10, 7
unfoldable pub origin_drain_number : {A : Type 0} → ℕ → State → OriginMemory A → OriginRows A → ℕ
origin_drain_number kind S M out =
    first_of (origin_lent_number kind S M ∷ given 10 (has_no_drain S.ending S.rows (plan_ahead S.plan) S.step) ∷ out_number S out ∷ [])
