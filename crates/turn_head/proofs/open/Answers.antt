-- What stands before the rows, then the cells.
use mathlib.Core.Path.{refl, sym, ap}
use native.Mathlib.Omega.{arith}
use Rattle.morph.proofs.Exits.{refused_some}
use Rattle.job_read.specs.Layout.{job_from}
use Rattle.job_read.proofs.Sections.{read_up, read_says, front_there}
use Rattle.turn_head.proofs.Opens.{opening_front, front_few, opening_cells, opening_all, opened_refused, opened_all}
use Rattle.turn_head.proofs.open.Goals as goal

pub returns-in_err-job : goal.returns-in_err-job
returns-in_err-job c =
    let bytes = c.args.bytes.now in
    let why = c.in_err-job.field-0.0 in
    read_up (job_from bytes) why _ c.from_residual.ensures.1 (opening_front bytes (ap (λ r. r.number) c.in_err-job.ensures) (refused_some why))

pub cells-requires : goal.cells-requires
cells-requires c =
    let bytes = c.args.bytes.now in
    let (z, e) = read_says (job_from bytes) c.in_ok-job.ensures in
    rw e (front_few bytes (sym z))

pub returns-then-cells-gt4096 : goal.returns-then-cells-gt4096
returns-then-cells-gt4096 c =
    let bytes = c.args.bytes.now in
    let (z, e) = read_says (job_from bytes) c.in_ok-job.ensures in
    let (p, h) = front_there bytes (sym z) in
    opened_refused bytes refl (opening_cells bytes p h e (rw c.cells.ensures at c.if-cells-gt4096.true)) (λ z. omega arith)

pub returns : goal.returns
returns c =
    let bytes = c.args.bytes.now in
    let (z, e) = read_says (job_from bytes) c.in_ok-job.ensures in
    let (p, h) = front_there bytes (sym z) in
    opened_all bytes (opening_all bytes p h e (rw c.cells.ensures at c.if-cells-gt4096.false)) e
