-- Inner: only contracts of inner functions, and proofs, cite what stands here; no promise of a public call is made of it.
-- Stages whose extents are small.
-- Answers as records.
-- A plan record to which stages are added one by one.
use Rattle.std.specs.Prelude.{List, [], ◌∷◌, ◌+◌, ◌≤◌, set, Result, Ok, Err}
use Rattle.morph.specs.declared.refusal.Refusal.{Refusal}
use Rattle.morph.specs.Refusals.{refusal_number}
use Rattle.plan_record.specs.declared.Stage.{Stage}
use Rattle.plan_record.specs.declared.Plan.{Plan}
use Rattle.plan_record.specs.declared.Reading.{Reading}
use Rattle.plan_record.specs.declared.Need.{Need}
use Rattle.plan_record.specs.Plan.{plan_of, needs_of_none}

-- "four extents, each 0 to 31"
pub record Small (s : Stage) : Type 0 where
  pub left : s.left ≤ 31
  pub right : s.right ≤ 31
  pub up : s.up ≤ 31
  pub down : s.down ≤ 31

-- a plan record with one stage more, and with more of them
abbrev pub added : Plan → Stage → Plan
added plan s = record { count = plan.count + 1; stages = set plan.stages plan.count s }

abbrev pub added_all : Plan → List Stage → Plan
added_all plan [] = plan
added_all plan (s ∷ ss) = added_all (added plan s) ss

-- a plan that was read or refused, and what a plan needs, as the records that say them
abbrev pub reading_as : Result Plan Refusal → Reading
reading_as (Ok plan) = record { number = 0; plan = plan }
reading_as (Err refusal) = record { number = refusal_number refusal; plan = plan_of [] }

abbrev pub need_as : Result Need Refusal → Need
need_as (Ok need) = need
need_as (Err refusal) = needs_of_none (refusal_number refusal)
