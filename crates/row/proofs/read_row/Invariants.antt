-- `read_row` meets its contract. The loop's invariant is `Read` at the steps done, beside the place behind the last; its laws are those of proofs/Row.antt.
use Rattle.std.proofs.Common.{◌+◌, ◌≡◌, length}
use Rattle.morph.specs.Ring.{wrap}
use Rattle.row.specs.Inner.{Read}
use Rattle.row.proofs.read_row.Given as goal

abbrev pub invariant-loop-t : goal.invariant-loop-t
invariant-loop-t g l = (l.n ≡ length l.initial.row) × (l.behind ≡ wrap 63 (l.start + l.count)) × Read g.S.Sample.samples l.kind l.back l.ahead l.initial.row l.t l.row l.values l.positions l.start l.count l.comparisons
