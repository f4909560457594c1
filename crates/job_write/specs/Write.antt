-- Writing the bytes before a job's rows.
use Rattle.std.specs.Prelude.{◌≡◌, cond, List, [], ◌∷◌, ◌++◌, ℕ, zero, suc, eqb, ltb, length, drop}
use Rattle.morph.specs.Numbers.{given, first_of}
use Rattle.plan_record.specs.Numbers.{sample_number, size_number}
use Rattle.plan_record.specs.Plan.{record_number}
use Rattle.job_read.specs.declared.Job.{Job}
use Rattle.job_write.specs.declared.Written.{Written}
use Rattle.job_write.specs.declared.Written.TheVariants.{Bytes, Refused}
use Rattle.job_read.specs.Layout.{encode, pixels_begin}

-- in the order of a start: 1, stage by stage 3, 5, 4, then 6 for too short an output
unfoldable pub write_number : Job → List ℕ → ℕ
write_number job out =
    first_of (record_number job.plan ∷ sample_number job.sample ∷ size_number job.width job.rows ∷ given 6 (ltb (length out) (pixels_begin job.plan.count)) ∷ [])

-- document 01's number of each case of the answer, and the bytes written
abbrev pub written_number : Written → ℕ
written_number (Bytes n) = 0
written_number (Refused n) = n

abbrev pub written_of : ℕ → ℕ → Written
written_of zero n = Bytes n
written_of (suc k) n = Refused (suc k)

-- The bytes stand at the front of the output and nothing past them is written; a refusal writes nothing.
pub record Wrote (job : Job) (out out' : List ℕ) (r : Written) : Type 0 where
  pub answer : r ≡ written_of (write_number job out) (pixels_begin job.plan.count)
  pub number : written_number r ≡ write_number job out
  pub output : out' ≡ cond (eqb (write_number job out) 0) (encode job ++ drop (pixels_begin job.plan.count) out) out
