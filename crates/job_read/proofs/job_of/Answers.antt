-- What stands before the rows, then how many bytes follow.
use mathlib.Core.Path.{sym, ap, ◌∙◌}
use Rattle.plan_record.proofs.Exits.{refused_some}
use Rattle.job_read.specs.Job.{rows_number, job_read_of}
use Rattle.job_read.specs.Layout.{job_from}
use Rattle.job_read.proofs.Sections.{read_up, read_taken, read_says, job_front, job_rows, front_there, front_sized}
use Rattle.job_read.proofs.job_of.Goals as goal

pub returns-in_err-job : goal.returns-in_err-job
unfolding job_read_of
returns-in_err-job c =
    let bytes = c.args.bytes.now in
    let why = c.in_err-job.field-0.0 in
    read_up (job_from bytes) why _ c.from_residual.ensures.1 (job_front bytes (ap (λ r. r.number) c.in_err-job.ensures) (refused_some why))

pub judge_length-requires : goal.judge_length-requires
judge_length-requires c =
    let bytes = c.args.bytes.now in
    let (z, e) = read_says (job_from bytes) c.in_ok-job.ensures in
    rw e (front_sized bytes (sym z))

pub returns-in_err-judge_length : goal.returns-in_err-judge_length
unfolding job_read_of
returns-in_err-judge_length c =
    let bytes = c.args.bytes.now in
    let (z, e) = read_says (job_from bytes) c.in_ok-job.ensures in
    let (p, h) = front_there bytes (sym z) in
    read_up (job_from bytes) c.in_err-judge_length.field-0.0 _ c.from_residual-in_err-judge_length.ensures.1 (job_rows bytes p h (c.in_err-judge_length.ensures ∙ ap (rows_number bytes) e))

pub returns : goal.returns
unfolding job_read_of
returns c =
    let bytes = c.args.bytes.now in
    let (z, e) = read_says (job_from bytes) c.in_ok-job.ensures in
    let (p, h) = front_there bytes (sym z) in
    read_taken (job_from bytes) (job_rows bytes p h (c.in_ok-judge_length.ensures ∙ ap (rows_number bytes) e)) e
