-- The view of a job's rows.
use Rattle.std.specs.Prelude.{Bool, cond, ◌||◌, ◌&&◌, not, List, [], ℕ, ◌+◌, ◌*◌, eqb, ltb, leb, length}
use Rattle.std.proofs.Math.Seq.{slice}
use Rattle.morph.specs.Numbers.{given}
use Rattle.job_read.specs.declared.Job.{Job}
use Rattle.job_read.specs.Layout.{row_bytes}

-- row i begins here
abbrev pub row_begins : Job → ℕ → ℕ
row_begins job i = job.at + i * row_bytes job

-- The rows before j are there: the record's samples are of a kind that has a size, and "rows not wholly in the lent bytes are not there".
abbrev pub is_there_to : List ℕ → Job → ℕ → Bool
is_there_to bytes job j = leb job.sample 1 && leb (row_begins job j) (length bytes)

-- "i = j shows an empty part; i over j or j over the row count is refused 11."
unfoldable pub view_number : List ℕ → Job → ℕ → ℕ → ℕ
view_number bytes job i j = given 11 (ltb j i || ltb job.rows j || (ltb i j && not (is_there_to bytes job j)))

-- "Rows i up to, not including, j of a read job are shown as that part of the caller's own bytes ..; empty at 11"
unfoldable pub viewed : List ℕ → Job → ℕ → ℕ → List ℕ
viewed bytes job i j = cond (eqb (view_number bytes job i j) 0) (slice (row_begins job i) (row_begins job j) bytes) []
