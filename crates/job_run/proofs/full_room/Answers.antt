-- At most 65,535 rows of at most 16,385 bytes.
use mathlib.Core.Path.{ap}
use Prim.Native.Nat.{ℕ, ◌+◌, ◌*◌, ◌≤◌}
use native.Mathlib.Omega.{arith}
use Rattle.turns.proofs.Phases.{row_few}
use Rattle.job_run.proofs.Lengths.{rows_few}
use Rattle.job_run.proofs.full_room.Goals as goal
use Rattle.job_run.proofs.full_room.Goals.{After-sample_bytes}

row_bytes_few : (c : After-sample_bytes) → (c.args.job.width * c.sample_bytes.result ≤ 16384)
row_bytes_few c = row_few c.args.job.width c.sample_bytes.result c.requires.0 c.sample_bytes.ensures.2

all_few : (c : After-sample_bytes) → (c.args.job.rows * (1 + c.args.job.width * c.sample_bytes.result) ≤ 1073790975)
all_few c = let w = row_bytes_few c in rows_few c.args.job.rows (1 + c.args.job.width * c.sample_bytes.result) c.requires.1 (omega arith)

pub overflow_mul-row : goal.overflow_mul-row
overflow_mul-row c = omega (arith, row_bytes_few (goal.at.overflow_mul-row c).After-sample_bytes)

pub overflow_add-row : goal.overflow_add-row
overflow_add-row c = omega (arith, row_bytes_few (goal.at.overflow_add-row c).After-sample_bytes)

pub overflow_mul-result : goal.overflow_mul-result
overflow_mul-result c = omega (arith, all_few (goal.at.overflow_mul-result c).After-sample_bytes)

pub overflow_add-result : goal.overflow_add-result
overflow_add-result c = omega (arith, all_few (goal.at.overflow_add-result c).After-sample_bytes)

pub overflow_add-result-2 : goal.overflow_add-result-2
overflow_add-result-2 c = omega (arith, all_few (goal.at.overflow_add-result-2 c).After-sample_bytes)

pub returns : goal.returns
returns c =
    let job = c.args.job in
    ap (λ (n : ℕ). 6 + job.rows * (1 + job.width * n) + 2) c.sample_bytes.ensures.0
