-- The count, then the stages, and then what they say.
use mathlib.Core.Path.{◌≡◌, sym, ap, ◌∙◌}
use mathlib.Core.List.{◌∷◌}
use Prim.Native.Nat.{ℕ, ◌-◌, ◌*◌}
use native.Mathlib.Omega.{arith}
use lib.ListN.{length, take, replicate, length-take}
use Rattle.plan_record.specs.Plan.{count_number, plan_read}
use Rattle.plan_record.proofs.Exits.{refused_some}
use Rattle.plan_record.proofs.Named.{counted}
use Rattle.job_read.proofs.Sections.{section_refused, section_up, section_empty, section_count, section_missing, section_read}
use Rattle.job_read.proofs.plan_of.Goals as goal
use Rattle.job_read.proofs.plan_of.Goals.{In_ok-judge_count}

few : (c : In_ok-judge_count) → count_number c.in-Some.field-0-0.now ≡ 0
few c = ap count_number (sym c.from-n.ensures) ∙ sym c.in_ok-judge_count.ensures

pub returns-in_default : goal.returns-in_default
returns-in_default c =
    let k = c.in_default.ensures.cases in
    section_refused c.args.bytes.now (section_empty c.args.bytes.now (omega (arith, k))) (λ z. omega arith)

pub returns-in_err-judge_count : goal.returns-in_err-judge_count
returns-in_err-judge_count c =
    let bytes = c.in-Some.field-0-0.now ∷ c.in-Some.rest.now in
    let why = c.in_err-judge_count.field-0.0 in
    rw c.in-Some.ensures.cases.0
    (section_up bytes why _ c.from_residual.ensures.1 (section_count bytes (omega arith) (c.in_err-judge_count.ensures ∙ ap count_number c.from-n.ensures) (refused_some why)))

pub returns-then-rest-n : goal.returns-then-rest-n
returns-then-rest-n c =
    let bytes = c.in-Some.field-0-0.now ∷ c.in-Some.rest.now in
    let k = c.from-n.ensures in
    rw c.in-Some.ensures.cases.0
    (section_refused bytes (section_missing bytes (omega arith) (few (goal.at.returns-then-rest-n c).In_ok-judge_count) (omega arith)) (λ z. omega arith))

pub padded-requires : goal.padded-requires
padded-requires c =
    let n = counted c.in-Some.field-0-0.now (few (goal.at.padded-requires c).In_ok-judge_count) in
    simp length-take (omega (arith, c.from-n.ensures))

pub returns : goal.returns
returns c =
    let count = c.in-Some.field-0-0.now in
    let rest = c.in-Some.rest.now in
    let bytes = count ∷ rest in
    let part = take (c.from-n.result * 5) rest in
    let n = c.from-n.ensures in
    rw c.in-Some.ensures.cases.0
    (section_read bytes (omega arith) (few (goal.at.returns c).In_ok-judge_count) (omega arith) (ap (λ (n : ℕ). take (n * 5) rest) n) (replicate (80 - length part) 0)
    (c.read_plan.ensures ∙ ap (plan_read count) c.padded.ensures))
