-- Inner: only contracts of inner functions, and proofs, cite what stands here; no promise of a public call is made of it.
-- What the readers' parts come to, and the records that say it.
use Rattle.std.specs.Prelude.{List, [], ◌∷◌, ℕ, get_or, Result, Ok, Err}
use Rattle.morph.specs.declared.refusal.Refusal.{Refusal}
use Rattle.morph.specs.Refusals.{refusal_number}
use Rattle.morph.specs.Numbers.{first_of}
use Rattle.job_read.specs.declared.Job.{Job}
use Rattle.job_read.specs.declared.Head.{Head}
use Rattle.job_read.specs.declared.Image.{Image}
use Rattle.job_read.specs.declared.JobRead.{JobRead}
use Rattle.job_read.specs.Layout.{head_begins}
use Rattle.job_read.specs.Job.{plan_section_number, head_section_number, no_job}

-- ---- the records

abbrev pub head_as : Result Image Refusal → Head
head_as (Ok image) = record { number = 0; sample = image.sample; width = image.width; rows = image.rows }
head_as (Err refusal) = record { number = refusal_number refusal; sample = 0; width = 0; rows = 0 }

abbrev pub read_as : Result Job Refusal → JobRead
read_as (Ok job) = record { number = 0; job = job }
read_as (Err refusal) = record { number = refusal_number refusal; job = no_job }

-- ---- what stands before the rows

-- the plan section's number, then the image head's
unfoldable pub front_number : List ℕ → ℕ
front_number bytes = first_of (plan_section_number bytes ∷ head_section_number bytes (head_begins (get_or bytes 0 0)) ∷ [])
