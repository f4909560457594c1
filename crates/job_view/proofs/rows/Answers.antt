-- The part that the rows are, where they are there.
use mathlib.Core.Path.{◌≡◌, sym, ap}
use Prim.Native.Nat.{ℕ, ◌+◌, ◌*◌}
use lib.ListN.{length}
use Rattle.job_read.specs.Layout.{row_bytes}
use Rattle.job_view.proofs.Viewing.{there, Placed, placed, view_refused, view_none, view_part}
use native.Mathlib.Omega.{arith}
use Rattle.job_view.proofs.rows.Goals as goal
use Rattle.job_view.proofs.rows.Goals.{After-sample_bytes}

-- after the last test the rows are there, and so their ends are within the bytes
here : (c : After-sample_bytes) → Placed (length c.args.bytes.now) c.args.job.at c.args.i c.args.j (c.args.job.width * c.sample_bytes.result)
here c =
    let a = c.args in
    placed (a.job.width * c.sample_bytes.result) (ap (λ (k : ℕ). a.job.width * k) c.sample_bytes.ensures.0) (there a.bytes.now a.job a.i a.j (sym c.in-Ok.ensures) c.if-i-j.false)

pub returns-in_default : goal.returns-in_default
returns-in_default c = view_refused c.args.bytes.now c.args.job c.args.i c.args.j c.in_default.field-0 c.in_default.ensures

pub returns-then-i-j : goal.returns-then-i-j
returns-then-i-j c =
    let a = c.args in
    view_none a.bytes.now a.job a.i a.j c.in-Ok.ensures c.if-i-j.true

pub overflow_mul-size : goal.overflow_mul-size
overflow_mul-size c = let p = here (goal.at.overflow_mul-size c).After-sample_bytes in omega arith

pub overflow_mul-start : goal.overflow_mul-start
overflow_mul-start c = let p = here (goal.at.overflow_mul-start c).After-sample_bytes in omega arith

pub overflow_add-start : goal.overflow_add-start
overflow_add-start c = let p = here (goal.at.overflow_add-start c).After-sample_bytes in omega arith

pub overflow_mul-end : goal.overflow_mul-end
overflow_mul-end c = let p = here (goal.at.overflow_mul-end c).After-sample_bytes in omega arith

pub overflow_add-end : goal.overflow_add-end
overflow_add-end c = let p = here (goal.at.overflow_add-end c).After-sample_bytes in omega arith

pub slice_bounds-result-count : goal.slice_bounds-result-count
slice_bounds-result-count c = let p = here (goal.at.slice_bounds-result-count c).After-sample_bytes in omega arith

pub slice_bounds-result-start : goal.slice_bounds-result-start
slice_bounds-result-start c = let p = here (goal.at.slice_bounds-result-start c).After-sample_bytes in omega arith

pub slice_bounds-result-end-2 : goal.slice_bounds-result-end-2
slice_bounds-result-end-2 c = let p = here (goal.at.slice_bounds-result-end-2 c).After-sample_bytes in omega arith

pub returns : goal.returns
returns c =
    let a = c.args in
    let e : a.job.width * c.sample_bytes.result ≡ row_bytes a.job = ap (λ (k : ℕ). a.job.width * k) c.sample_bytes.ensures.0 in
    view_part a.bytes.now a.job a.i a.j c.in-Ok.ensures (ap (λ (k : ℕ). a.job.at + a.i * k) e) (ap (λ (k : ℕ). a.job.at + a.j * k) e)
