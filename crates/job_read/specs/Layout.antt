-- The job layout: the bytes of a plan section and of an image head, and what such bytes say.
use Rattle.std.specs.Prelude.{◌≡◌, List, [], ◌∷◌, ◌++◌, ℕ, zero, suc, ◌+◌, ◌*◌, ◌/◌, ◌%◌, ◌≤◌, length, get_or, drop}
use Rattle.morph.specs.declared.Kind.{Kind}
use Rattle.morph.specs.declared.Kind.TheVariants.{Erosion, Dilation}
use Rattle.plan_record.specs.declared.Stage.{Stage}
use Rattle.plan_record.specs.declared.Plan.{Plan}
use Rattle.plan_record.specs.Plan.{plan_of, used, stages_from, record_number}
use Rattle.job_read.specs.declared.Job.{Job}

-- ---- the bytes

-- "0 (erosion) or 1 (dilation)"
abbrev pub kind_byte_of : Kind → ℕ
kind_byte_of Erosion = 0
kind_byte_of Dilation = 1

-- "five bytes a stage: kind, left, right, up, down"
abbrev pub stage_bytes : Stage → List ℕ
stage_bytes s = kind_byte_of s.kind ∷ s.left ∷ s.right ∷ s.up ∷ s.down ∷ []

abbrev pub stages_bytes : List Stage → List ℕ
stages_bytes [] = []
stages_bytes (s ∷ ss) = stage_bytes s ++ stages_bytes ss

-- "Plan first: one count byte, then five bytes a stage"
abbrev pub plan_bytes : Plan → List ℕ
plan_bytes plan = plan.count ∷ stages_bytes (used plan)

-- "2 bytes each, low byte first"
abbrev pub two_bytes : ℕ → List ℕ
two_bytes n = n % 256 ∷ n / 256 ∷ []

-- "Image: sample kind (1 byte), width, row count"
abbrev pub head_bytes_of : ℕ → ℕ → ℕ → List ℕ
head_bytes_of sample width rows = sample ∷ two_bytes width ++ two_bytes rows

-- the bytes before a job's rows
unfoldable pub encode : Job → List ℕ
encode job = plan_bytes job.plan ++ head_bytes_of job.sample job.width job.rows

-- ---- the rows

-- "a float is 4 bytes", a grey sample one
abbrev pub sample_bytes_of : ℕ → ℕ
sample_bytes_of zero = 1
sample_bytes_of (suc n) = 4

-- the bytes of a row of a job
abbrev pub row_bytes : Job → ℕ
row_bytes job = job.width * sample_bytes_of job.sample

-- ---- what bytes say

abbrev pub low_high_of : ℕ → ℕ → ℕ
low_high_of low high = low + high * 256

-- the places of the image head and of the rows of a job of that stage count
abbrev pub head_begins : ℕ → ℕ
head_begins count = 1 + count * 5

abbrev pub pixels_begin : ℕ → ℕ
pixels_begin count = head_begins count + 5

abbrev pub width_from : List ℕ → ℕ
width_from head = low_high_of (get_or head 1 0) (get_or head 2 0)

abbrev pub rows_from : List ℕ → ℕ
rows_from head = low_high_of (get_or head 3 0) (get_or head 4 0)

-- the job that bytes say
unfoldable pub job_from : List ℕ → Job
job_from bytes =
    record {
      plan = plan_of (stages_from (get_or bytes 0 0) (drop 1 bytes));
      sample = get_or (drop (head_begins (get_or bytes 0 0)) bytes) 0 0;
      width = width_from (drop (head_begins (get_or bytes 0 0)) bytes);
      rows = rows_from (drop (head_begins (get_or bytes 0 0)) bytes);
      at = pixels_begin (get_or bytes 0 0);
    }

-- ---- which bytes are a job

-- a record that a job's bytes can say
pub record Valid (job : Job) : Type 0 where
  pub plan : record_number job.plan ≡ 0
  pub unused : job.plan ≡ plan_of (used job.plan)
  pub sample : job.sample ≤ 1
  pub some_width : 1 ≤ job.width
  pub width : job.width ≤ 4096
  pub some_rows : 1 ≤ job.rows
  pub rows : job.rows ≤ 65535
  pub at : job.at ≡ pixels_begin job.plan.count

-- the bytes are this job: its sections, then its rows, and nothing more
pub record IsJob (bytes : List ℕ) (job : Job) : Type 0 where
  pub valid : Valid job
  pub pixels : List ℕ
  pub whole : bytes ≡ encode job ++ pixels
  pub size : length pixels ≡ job.rows * row_bytes job
