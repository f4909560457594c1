-- The numbers of the picture's calls, test by test in the documents' order: 0 where nothing is wrong. Sentences on open runs and
-- their stop are document 02's, 10/13; the others are document 01's.
use Rattle.std.specs.Prelude.{Bool, true, false, not, ◌||◌, List, [], ◌∷◌, ℕ, ◌+◌, min, eqb, ltb, leb, length}
use Rattle.morph.specs.Lists.{all}
use Rattle.morph.specs.Numbers.{given, first_of, outside}
use Rattle.sample.specs.Samples.{Samples}
use Rattle.plan_record.specs.declared.Plan.{Plan}
use Rattle.plan_record.specs.Numbers.{sample_number, size_number}
use Rattle.plan_record.specs.Plan.{used, record_number, cells_needed, records_needed, plan_ahead}
use Rattle.memory.specs.Memory.{Memory, all_sound}
use Rattle.picture_state.specs.declared.State.{State}
use Rattle.picture_state.specs.declared.Ending.{Ending}
use Rattle.picture_state.specs.declared.Ending.TheVariants.{Fixed, Open, Stopped}

-- "6 | lent queue memory has fewer cells or column records than needed"
unfoldable pub memory_number : Plan → ℕ → ℕ → ℕ → ℕ
memory_number plan width cells records = given 6 (ltb cells (cells_needed plan width) || ltb records (records_needed plan width))

-- ---- how a run ends: its rows are fixed at the start, or "the row count is not given at the start, and the caller says when the belt has stopped"

-- The rows that a step knows of. "Conditions 2 and 3 hold with H taken as the rows read when the stop is said, and before it, from the first row on, for all rows so far": before the stop
-- these are the rows read and the one that is offered. A read-out goes by it too: no stage has done more steps than the plan, so that a row more changes nothing there.
abbrev pub height_in : Ending → ℕ → ℕ → ℕ
height_in Fixed rows step = rows
height_in Open rows step = step + 1
height_in Stopped rows step = rows

abbrev pub height_of : State → ℕ
height_of S = height_in S.ending S.rows S.step

-- 4 of a state's width and rows. In an open run "4 otherwise looks only at the width": a picture of one row is not too high; after the stop "12 wants rows read of 1 to 4,294,967,296"
abbrev pub size_in : Ending → ℕ → ℕ → ℕ
size_in Fixed width rows = size_number width rows
size_in Open width rows = size_number width 1
size_in Stopped width rows = first_of (size_number width 1 ∷ given 4 (outside 4294967296 rows) ∷ [])

-- of rows, D and the step count. "its step count is over H + D"; "12's step count is at most 4,294,967,296 before the stop; after it 12 wants .. a step count of rows read to rows read + D"
abbrev pub is_step_off : Ending → ℕ → ℕ → ℕ → Bool
is_step_off Fixed rows D step = ltb (rows + D) step
is_step_off Open rows D step = ltb 4294967296 step
is_step_off Stopped rows D step = ltb step rows || ltb (rows + D) step

-- of rows and the step count. "9 | a row .. is offered when all have been read"; "In an open run 9 means after the stop"
abbrev pub is_all_read : Ending → ℕ → ℕ → Bool
is_all_read Fixed rows step = leb rows step
is_all_read Open rows step = false
is_all_read Stopped rows step = true

-- of the step count. "28 for a row past the last number": row numbers go to 4,294,967,295, and the row offered has the step's
abbrev pub is_past_last : Ending → ℕ → Bool
is_past_last Fixed step = false
is_past_last Open step = leb 4294967296 step
is_past_last Stopped step = false

-- of rows, D and the step count. "10 | a drain is asked before all are read, or after the last output"; in an open run "10 means before the stop or after the last output"
abbrev pub has_no_drain : Ending → ℕ → ℕ → ℕ → Bool
has_no_drain Fixed rows D step = ltb step rows || leb (rows + D) step
has_no_drain Open rows D step = true
has_no_drain Stopped rows D step = ltb step rows || leb (rows + D) step

-- "9 if said before or in a fixed run"
abbrev pub is_not_open : Ending → Bool
is_not_open Fixed = true
is_not_open Open = false
is_not_open Stopped = true

-- ---- what every call judges

-- "12 | the state breaks rules 1 to 5; its step count is over H + D .."
unfoldable pub state_number : State → ℕ
state_number S =
    given 12
    (not (eqb (record_number S.plan) 0)
    || not (eqb (sample_number S.sample) 0)
    || not (eqb (size_in S.ending S.width S.rows) 0)
    || is_step_off S.ending S.rows (plan_ahead S.plan) S.step)

-- "5 | .. a plan's step or read-out is not for its state's kind"
abbrev pub state_kind_number : ℕ → State → ℕ
state_kind_number kind S = given 5 (not (eqb S.sample kind))

-- "12 | .. a queue's start is not below its places, or its length over its window (c+d+1 for both in a column ..)"
abbrev pub records_number : State → List ℕ → List ℕ → ℕ
records_number S starts lengths = given 12 (not (all_sound S.width (used S.plan) starts lengths))

-- "In a step: 12 for the state's own fields, 5, 6, 12 for the column records, then ..": the numbers that a step and a read-out of that sample kind share
unfoldable pub shared_number : ℕ → State → ℕ → ℕ → List ℕ → List ℕ → ℕ
shared_number kind S cells records starts lengths =
    first_of (state_number S ∷ state_kind_number kind S ∷ memory_number S.plan S.width cells records ∷ records_number S starts lengths ∷ [])

-- The cells lent are the shorter of the values and the positions, the records the shorter of the starts and the lengths.
abbrev pub lent_number : ℕ → State → ℕ → ℕ → List ℕ → List ℕ → ℕ
lent_number kind S values positions starts lengths = shared_number kind S (min values positions) (min (length starts) (length lengths)) starts lengths

abbrev pub memory_judged : {A : Type 0} → ℕ → State → Memory A → ℕ
memory_judged kind S M = lent_number kind S (length M.values) (length M.positions) M.starts M.lengths

-- ---- a row and a drain

-- ".. then 9 or 10, 7, 8." "28 .., after 9 and before 7." "7 | an input or output row is not as long as the width"; "8 | a pixel is not finite"
unfoldable pub offer_number : ℕ → State → ℕ → ℕ → ℕ → ℕ → List ℕ → List ℕ → ℕ
offer_number kind S row out values positions starts lengths =
    first_of
    (lent_number kind S values positions starts lengths
    ∷ given 9 (is_all_read S.ending S.rows S.step)
    ∷ given 28 (is_past_last S.ending S.step)
    ∷ given 7 (not (eqb row S.width) || not (eqb out S.width))
    ∷ [])

unfoldable pub row_number : {A : Type 0} → Samples A → ℕ → State → Memory A → List A → List A → ℕ
row_number K kind S M row out =
    first_of
    (offer_number kind S (length row) (length out) (length M.values) (length M.positions) M.starts M.lengths ∷ given 8 (not (all K.good row)) ∷ [])

unfoldable pub drain_number : ℕ → State → ℕ → ℕ → ℕ → List ℕ → List ℕ → ℕ
drain_number kind S out values positions starts lengths =
    first_of
    (lent_number kind S values positions starts lengths
    ∷ given 10 (has_no_drain S.ending S.rows (plan_ahead S.plan) S.step)
    ∷ given 7 (not (eqb out S.width))
    ∷ [])

abbrev pub drain_judged : {A : Type 0} → ℕ → State → Memory A → List A → ℕ
drain_judged kind S M out = drain_number kind S (length out) (length M.values) (length M.positions) M.starts M.lengths
