-- What the readers of a job answer: the number of each group, and the record where it is 0.
-- "Missing bytes give 13 at their group (count, all stages, head, one row), before its other checks."
use Rattle.std.specs.Prelude.{cond, List, [], ◌∷◌, ℕ, ◌+◌, ◌*◌, eqb, ltb, length, get_or, drop}
use Rattle.morph.specs.Numbers.{given, first_of}
use Rattle.plan_record.specs.declared.Reading.{Reading}
use Rattle.plan_record.specs.Numbers.{sample_number, size_number}
use Rattle.plan_record.specs.Plan.{plan_of, count_number, stages_from, stages_number, reading_of}
use Rattle.job_read.specs.declared.Job.{Job}
use Rattle.job_read.specs.declared.Head.{Head}
use Rattle.job_read.specs.declared.JobRead.{JobRead}
use Rattle.job_read.specs.Layout.{row_bytes, head_begins, width_from, rows_from, job_from}

-- "13 | a job ends early": fewer than n bytes
abbrev pub missing : ℕ → List ℕ → ℕ
missing n bytes = given 13 (ltb (length bytes) n)

-- ---- the plan section

-- the count's 13, 1; the stages' 13, then stage by stage 2, 3
unfoldable pub plan_section_number : List ℕ → ℕ
plan_section_number bytes =
    first_of (missing 1 bytes ∷ count_number (get_or bytes 0 0) ∷ missing (head_begins (get_or bytes 0 0)) bytes ∷ stages_number (get_or bytes 0 0) (drop 1 bytes) ∷ [])

unfoldable pub plan_section_of : List ℕ → Reading
plan_section_of bytes = reading_of (plan_section_number bytes) (plan_of (stages_from (get_or bytes 0 0) (drop 1 bytes)))

-- ---- the image head

-- of its five bytes: 5, 4
unfoldable pub head_number : List ℕ → ℕ
head_number head = first_of (sample_number (get_or head 0 0) ∷ size_number (width_from head) (rows_from head) ∷ [])

abbrev pub head_answered : ℕ → List ℕ → Head
head_answered number head =
    cond (eqb number 0)
    (record { number = 0; sample = get_or head 0 0; width = width_from head; rows = rows_from head })
    (record { number = number; sample = 0; width = 0; rows = 0 })

-- the head that stands from position `at` on: 13, then 5, 4
unfoldable pub head_section_number : List ℕ → ℕ → ℕ
head_section_number bytes at = first_of (missing (at + 5) bytes ∷ head_number (drop at bytes) ∷ [])

-- ---- the rows

-- 13 where the rows are not all there, "and 14 last"
unfoldable pub rows_number : List ℕ → Job → ℕ
rows_number bytes job =
    first_of (missing (job.at + job.rows * row_bytes job) bytes ∷ given 14 (ltb (job.at + job.rows * row_bytes job) (length bytes)) ∷ [])

-- ---- the whole job

-- "The reader of a whole lent job judges in the program's order below, without 15 and 8, and 14 last."
unfoldable pub job_number : List ℕ → ℕ
job_number bytes = first_of (plan_section_number bytes ∷ head_section_number bytes (head_begins (get_or bytes 0 0)) ∷ rows_number bytes (job_from bytes) ∷ [])

-- all zeros, kind erosion
abbrev pub no_job : Job
no_job = record { plan = plan_of []; sample = 0; width = 0; rows = 0; at = 0 }

abbrev pub job_answered : ℕ → Job → JobRead
job_answered number job = record { number = number; job = cond (eqb number 0) job no_job }

unfoldable pub job_read_of : List ℕ → JobRead
job_read_of bytes = job_answered (job_number bytes) (job_from bytes)
