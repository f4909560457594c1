-- `drain_row` meets its contract. The loop's invariant: whatever row was read, `ReadOrigins` holds at the steps done; its laws are those of row's proofs/Origins.antt.
use Rattle.std.proofs.Common.{◌+◌, ◌≡◌, length}
use Rattle.row.proofs.Origins.{DrainingOrigins}
use Rattle.row_origin.proofs.drain_row.Given as goal

abbrev pub invariant-loop-t : goal.invariant-loop-t
invariant-loop-t g l = (l.n ≡ length l.initial.row) × (l.end ≡ l.n + l.ahead) × DrainingOrigins g.S.Sample.samples l.back l.ahead l.initial.row l.initial.columns l.q.values l.q.positions l.q.start l.q.count l.row l.columns l.start l.count l.t
