-- The plan section, then the image head.
use mathlib.Core.Path.{refl, sym, ap, ◌∙◌}
use Prim.Native.Nat.{◌+◌, ◌*◌}
use lib.ListN.{drop}
use native.Mathlib.Omega.{arith}
use Rattle.plan_record.proofs.Exits.{refused_some}
use Rattle.job_read.specs.Job.{head_section_number}
use Rattle.job_read.specs.Layout.{job_from}
use Rattle.job_read.proofs.Sections.{section_number, plan_read_law, head_number_law, head_read, same_job, read_up, read_taken, front_plan, front_head}
use Rattle.job_read.proofs.front.Goals as goal

pub returns-in_err-plan : goal.returns-in_err-plan
returns-in_err-plan c =
    let bytes = c.args.bytes.now in
    let why = c.in_err-plan.field-0.0 in
    read_up (job_from bytes) why _ c.from_residual.ensures.1 (front_plan bytes (section_number bytes c.in_err-plan.ensures) (refused_some why))

pub overflow_mul-end : goal.overflow_mul-end
overflow_mul-end c = let p = plan_read_law c.args.bytes.now c.in_ok-plan.ensures refl in omega arith

pub overflow_add-end : goal.overflow_add-end
overflow_add-end c = let p = plan_read_law c.args.bytes.now c.in_ok-plan.ensures refl in omega arith

pub image_at-requires : goal.image_at-requires
image_at-requires c = (plan_read_law c.args.bytes.now c.in_ok-plan.ensures refl).whole

pub returns-in_err-image : goal.returns-in_err-image
returns-in_err-image c =
    let bytes = c.args.bytes.now in
    let end = 1 + c.in_ok-plan.plan.count * 5 in
    let p = plan_read_law bytes c.in_ok-plan.ensures refl in
    read_up (job_from bytes) c.in_err-image.field-0.0 _ c.from_residual-in_err-image.ensures.1
    (front_head bytes p.zero (head_number_law (head_section_number bytes end) (drop end bytes) c.in_err-image.ensures ∙ ap (head_section_number bytes) p.end))

pub overflow_add-result : goal.overflow_add-result
overflow_add-result c = let p = plan_read_law c.args.bytes.now c.in_ok-plan.ensures refl in omega arith

pub returns : goal.returns
returns c =
    let bytes = c.args.bytes.now in
    let end = 1 + c.in_ok-plan.plan.count * 5 in
    let p = plan_read_law bytes c.in_ok-plan.ensures refl in
    let h = head_read bytes end c.in_ok-image.ensures refl in
    read_taken (job_from bytes) (front_head bytes p.zero (sym h.zero ∙ ap (head_section_number bytes) p.end)) (same_job bytes p.plan p.end h.sample h.width h.rows refl)
