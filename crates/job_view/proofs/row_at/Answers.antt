-- The three factors in the code's order.
use mathlib.Core.Path.{◌≡◌}
use Prim.Native.Nat.{◌+◌}
use native.Mathlib.Nat.{mul_assoc}
use Rattle.job_read.specs.Layout.{sample_bytes_of}
use Rattle.job_view.specs.View.{row_begins}
use Rattle.job_view.proofs.row_at.Goals as goal

pub returns : goal.returns
returns c =
    let a = c.args in
    let n = c.in_ok-samples.ensures.1 in
    let m = c.in_ok-size.ensures.1 in
    let e : a.job.at + c.in_ok-size.size ≡ row_begins a.job a.i = cc (n, m, c.sample_bytes.ensures.0, mul_assoc a.i a.job.width (sample_bytes_of a.job.sample)) in
    rw e at c.checked_add.ensures
