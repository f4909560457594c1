-- The answer to a job: the bytes that the program writes, from the bytes of the job, whole or damaged.
use Rattle.std.specs.Prelude.{◌≡◌, false, cond, not, ℕ, zero, suc, ◌+◌, ◌-◌, ◌*◌, ◌≤◌, ◌<◌, eqb, ltb, length, get_or, take, drop, Float}
use mathlib.Core.List.{List, [], ◌∷◌, ◌++◌, map, flatten}
use Rattle.morph.specs.Lists.{tabulate, all}
use Rattle.morph.specs.Picture.{Picture, apply_plan}
use Rattle.sample.specs.Samples.{Samples, greys, rates}
use Rattle.plan_record.specs.declared.Plan.{Plan}
use Rattle.morph.specs.Numbers.{given, first_of}
use Rattle.plan_record.specs.Plan.{stages_of, cells_needed, plan_ahead}
use Rattle.job_read.specs.declared.Job.{Job}
use Rattle.job_read.specs.Layout.{row_bytes, head_begins, job_from}
use Rattle.job_read.specs.Job.{missing, plan_section_number, head_section_number}
use Rattle.sample.specs.Bytes.{floats_of, bytes_of_row}

-- ---- the head

-- "15 | the program's job needs over 4,096 cells over all stages"
abbrev pub cells_number : Plan → ℕ → ℕ
cells_number plan width = given 15 (ltb 4096 (cells_needed plan width))

-- "It reads the count, judges it; the stages, judges them; the image head, judges 5, 4, 15". Each section has its 13 "before its other checks".
unfoldable pub opening_number : List ℕ → ℕ
opening_number bytes =
    first_of (plan_section_number bytes ∷ head_section_number bytes (head_begins (get_or bytes 0 0)) ∷ cells_number (job_from bytes).plan (job_from bytes).width ∷ [])

-- "byte 2 and the image head's five bytes"
abbrev pub opening_bytes : List ℕ → List ℕ
opening_bytes bytes = 2 ∷ take 5 (drop (head_begins (get_or bytes 0 0)) bytes)

-- "last byte 0 and a number"
abbrev pub ending : ℕ → List ℕ
ending number = 0 ∷ number ∷ []

-- ---- the rows

-- how rows of a kind of samples stand in bytes: the bytes of a sample, the row of that width that bytes begin with, and the bytes of a row
pub record Coding (A : Type 0) : Type 0 where
  pub samples : Samples A
  pub size : ℕ
  pub read : ℕ → List ℕ → List A
  pub write : List A → List ℕ

abbrev pub grey_rows : Coding ℕ
grey_rows = record { samples = greys; size = 1; read = λ width bytes. take width bytes; write = λ row. row }

-- "a float is 4 bytes, low byte first"
abbrev pub rate_rows : Coding Float
rate_rows = record { samples = rates; size = 4; read = floats_of; write = bytes_of_row }

module _ {A : Type 0} (C : Coding A) (width : ℕ) where
  -- "Missing bytes give 13 at their group (.. one row), before its other checks." "8 | a pixel is not finite"
  abbrev pub row_group_number : List ℕ → ℕ
  row_group_number bytes = first_of (missing (width * C.size) bytes ∷ given 8 (not (all C.samples.good (C.read width bytes))) ∷ [])

  -- so many rows, up to the first that is refused, as they are read
  unfoldable pub rows_in : ℕ → List ℕ → Picture A
  rows_in zero bytes = []
  rows_in (suc n) bytes = cond (eqb (row_group_number bytes) 0) (map C.samples.taken (C.read width bytes) ∷ rows_in n (drop (width * C.size) bytes)) []

  -- the number at the end: the refused row's; and "bytes after the last row .. give 14"
  unfoldable pub end_number : ℕ → List ℕ → ℕ
  end_number zero bytes = given 14 (ltb 0 (length bytes))
  end_number (suc n) bytes = first_of (row_group_number bytes ∷ end_number n (drop (width * C.size) bytes) ∷ [])

-- Output row k comes at step k + D: so many rows are due once so many are read; all of them once the last is read, as the other steps take no row
abbrev pub due_of : Plan → ℕ → ℕ → ℕ
due_of plan rows read = cond (eqb read rows) rows (read - plan_ahead plan)

module _ {A : Type 0} (C : Coding A) where
  -- the rows due, of the rows that are read: no later row takes part in them (`plan_row`)
  abbrev pub rows_due : Plan → ℕ → Picture A → Picture A
  rows_due plan rows p = take (due_of plan rows (length p)) (apply_plan (stages_of C.samples.order plan) p)

  -- "for each output row byte 1 and the row"
  abbrev pub framed : List A → List ℕ
  framed row = 1 ∷ C.write row

  -- "A refusal in a row ends output there, with 0 and the number. Bytes after the last row are looked for after all rows are written"
  unfoldable pub rows_answer : Plan → ℕ → ℕ → List ℕ → List ℕ
  rows_answer plan width rows bytes = flatten (map framed (rows_due plan rows (rows_in C width rows bytes))) ++ ending (end_number C width rows bytes)

-- ---- the answer

abbrev pub picture_answer : Job → List ℕ → List ℕ
picture_answer job bytes =
    cond (eqb job.sample 0) (rows_answer grey_rows job.plan job.width job.rows bytes) (rows_answer rate_rows job.plan job.width job.rows bytes)

-- "It writes byte 2 and the image head's five bytes; for each output row byte 1 and the row; last byte 0 and a number .. A head refusal writes only 0 and the number."
unfoldable pub answer_of : List ℕ → List ℕ
answer_of bytes =
    cond (eqb (opening_number bytes) 0)
    (opening_bytes bytes ++ picture_answer (job_from bytes) (drop (job_from bytes).at bytes))
    (ending (opening_number bytes))

-- ---- the number at its end

-- of the rows
abbrev pub picture_number : Job → List ℕ → ℕ
picture_number job bytes =
    cond (eqb job.sample 0) (end_number grey_rows job.width job.rows bytes) (end_number rate_rows job.width job.rows bytes)

-- the head's where that refuses, else the rows'. `answer_ends` proves that it is the answer's last byte.
unfoldable pub answer_number : List ℕ → ℕ
answer_number bytes = first_of (opening_number bytes ∷ picture_number (job_from bytes) (drop (job_from bytes).at bytes) ∷ [])

-- ---- the picture of a whole job

module _ {A : Type 0} (C : Coding A) (job : Job) (bytes : List ℕ) where
  -- row y of a job as its samples stand in the bytes, accepted or not: behind the head and y rows
  abbrev pub row_of : ℕ → List A
  row_of y = C.read job.width (drop (job.at + y * (job.width * C.size)) bytes)

  -- its rows, each sample as it is taken. `answer_full` proves that a whole job's answer is this picture, filtered.
  abbrev pub picture_of : Picture A
  picture_of = tabulate job.rows (λ y. map C.samples.taken (row_of y))

  -- a row of the job is all there and holds a sample that is not accepted. `answer_number_law` proves that 8 is told exactly then.
  abbrev pub BadRow : Type 0
  BadRow = (y : ℕ) × (y < job.rows) × (job.at + (y + 1) * (job.width * C.size) ≤ length bytes) × (all C.samples.good (row_of y) ≡ false)

-- ---- the room it takes

-- an output as long as a full run of that head needs: a refusal's two bytes; else the opening's six, for each row its marker and its bytes, and the end's two
unfoldable pub room_of : List ℕ → ℕ
room_of bytes = cond (eqb (opening_number bytes) 0) (6 + (job_from bytes).rows * (1 + row_bytes (job_from bytes)) + 2) 2
