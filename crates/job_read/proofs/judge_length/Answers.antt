-- The rows that are needed against the bytes that are there.
use mathlib.Core.Path.{◌≡◌, ap}
use Prim.Native.Nat.{ℕ, ◌*◌}
use Rattle.job_read.specs.Layout.{row_bytes}
use Rattle.job_read.proofs.Sections.{rows_missing, rows_over, rows_exact}
use Rattle.job_read.proofs.judge_length.Goals as goal

pub returns-then-there-need : goal.returns-then-there-need
returns-then-there-need c =
    let at-sample-bytes = c in
    let a = at-sample-bytes.args in
    let e : a.job.rows * (a.job.width * at-sample-bytes.sample_bytes.result) ≡ a.job.rows * row_bytes a.job = ap (λ (k : ℕ). a.job.rows * (a.job.width * k)) at-sample-bytes.sample_bytes.ensures.0 in
    rows_missing a.bytes.now a.job at-sample-bytes.requires.0 e c.if-there-need.true

pub returns-then-need-there : goal.returns-then-need-there
returns-then-need-there c =
    let at-sample-bytes = c in
    let a = at-sample-bytes.args in
    let e : a.job.rows * (a.job.width * at-sample-bytes.sample_bytes.result) ≡ a.job.rows * row_bytes a.job = ap (λ (k : ℕ). a.job.rows * (a.job.width * k)) at-sample-bytes.sample_bytes.ensures.0 in
    rows_over a.bytes.now a.job at-sample-bytes.requires.0 e c.if-there-need.false c.if-need-there.true

pub returns : goal.returns
returns c =
    let at-sample-bytes = c in
    let a = at-sample-bytes.args in
    let e : a.job.rows * (a.job.width * at-sample-bytes.sample_bytes.result) ≡ a.job.rows * row_bytes a.job = ap (λ (k : ℕ). a.job.rows * (a.job.width * k)) at-sample-bytes.sample_bytes.ensures.0 in
    rows_exact a.bytes.now a.job at-sample-bytes.requires.0 e c.if-there-need.false c.if-need-there.false
