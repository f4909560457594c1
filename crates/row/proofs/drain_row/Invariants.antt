-- `drain_row` meets its contract. The loop's invariant: whatever row was read, `Read` holds at the steps done; its laws are those of proofs/Row.antt.
use Rattle.std.proofs.Common.{◌+◌, ◌≡◌, length}
use Rattle.row.proofs.Row.{Draining}
use Rattle.row.proofs.drain_row.Given as goal

abbrev pub invariant-loop-t : goal.invariant-loop-t
invariant-loop-t g l = (l.n ≡ length l.initial.row) × (l.end ≡ l.n + l.ahead) × Draining g.S.Sample.samples l.back l.ahead l.initial.row l.q.values l.q.positions l.q.start l.q.count l.row l.start l.count l.t
