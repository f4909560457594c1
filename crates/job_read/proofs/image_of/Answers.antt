-- The sample kind, then the size.
use mathlib.Core.Path.{◌≡◌, refl, sym}
use native.Mathlib.Omega.{arith}
use Rattle.plan_record.proofs.Exits.{refused_some}
use Rattle.job_read.specs.Layout.{width_from, rows_from}
use Rattle.job_read.proofs.Sections.{head_up, head_accepted, head_sample, head_size}
use Rattle.job_read.proofs.image_of.Goals as goal
use Rattle.job_read.proofs.image_of.Goals.{After-from-rows}

wide : (c : After-from-rows) → c.from-width.result ≡ width_from c.args.bytes.now
wide c = omega (arith, c.from_le_bytes.ensures, c.from-width.ensures)

high : (c : After-from-rows) → c.from-rows.result ≡ rows_from c.args.bytes.now
high c = omega (arith, c.from_le_bytes-2.ensures, c.from-rows.ensures)

pub returns-in_err-judge_sample : goal.returns-in_err-judge_sample
returns-in_err-judge_sample c =
    let why = c.in_err-judge_sample.field-0.0 in
    head_up c.args.bytes.now why _ c.from_residual.ensures.1 (head_sample c.args.bytes.now c.in_err-judge_sample.ensures (refused_some why))

pub returns-in_err-judge_size : goal.returns-in_err-judge_size
returns-in_err-judge_size c =
    let at = (goal.at.returns-in_err-judge_size c).After-from-rows in
    head_up c.args.bytes.now c.in_err-judge_size.field-0.0 _ c.from_residual-in_err-judge_size.ensures.1 (head_size c.args.bytes.now (sym c.in_ok-judge_sample.ensures) (wide at) (high at) c.in_err-judge_size.ensures)

pub returns : goal.returns
returns c =
    let at = (goal.at.returns c).After-from-rows in
    head_accepted c.args.bytes.now (sym (head_size c.args.bytes.now (sym c.in_ok-judge_sample.ensures) (wide at) (high at) c.in_ok-judge_size.ensures)) refl (wide at) (high at)
