-- What a run of a job in memory tells, and what it leaves in the output.
use Rattle.std.specs.Prelude.{◌≡◌, List, ◌++◌, ℕ, ◌≤◌, ◌<◌, length, drop}
use Rattle.answer.specs.Answer.{answer_of, answer_number, room_of}
use Rattle.job_run.specs.declared.JobRun.{JobRun}

pub record RunsJob (job out out' : List ℕ) (r : JobRun) : Type 0 where
  -- 6, and nothing written, for an output shorter than a full run of that head needs
  pub short : length out < room_of job → (r ≡ record { number = 6; written = 0 }) × (out' ≡ out)
  -- else the answer stands at the front of the output, what lies behind it is as it was, and the answer's number and its length are told
  pub whole : room_of job ≤ length out → (r.written ≡ length (answer_of job)) × (r.number ≡ answer_number job) × (out' ≡ answer_of job ++ drop r.written out)
