-- Inner: only contracts of inner functions, and proofs, cite what stands here; no promise of a public call is made of it.
use Rattle.std.specs.Prelude.{ℕ, Result, Ok, Err}
use Rattle.morph.specs.declared.refusal.Refusal.{Refusal}
use Rattle.morph.specs.Refusals.{refusal_number}
use Rattle.job_write.specs.declared.Written.{Written}
use Rattle.job_write.specs.declared.Written.TheVariants.{Bytes, Refused}

-- the bytes put or a refusal, as the answer that says it
abbrev pub written_as : Result ℕ Refusal → Written
written_as (Ok n) = Bytes n
written_as (Err refusal) = Refused (refusal_number refusal)
