-- `read_row` meets its contract. The loop's invariant is `ReadOrigins` at the steps done, beside the place behind the last; its laws are those of row's proofs/Row.antt and proofs/Origins.antt.
use Rattle.std.proofs.Common.{◌+◌, ◌≡◌, length}
use Rattle.morph.specs.Ring.{wrap}
use Rattle.row.specs.Inner.{ReadOrigins}
use Rattle.row_origin.proofs.read_row.Given as goal

abbrev pub invariant-loop-t : goal.invariant-loop-t
invariant-loop-t g l = (l.n ≡ length l.initial.row) × (l.behind ≡ wrap 63 (l.start + l.count)) × ReadOrigins g.S.Sample.samples l.kind l.back l.ahead l.initial.row l.initial.columns l.t l.row l.columns l.values l.positions l.start l.count l.comparisons
