-- `cell_goes` meets its contract: on each way out the tests decide the definition.
use Rattle.std.proofs.Common.{arith, eq-eqb, ne_eqb, le-leb}
use Rattle.std.proofs.lemmas.Bool.{lt-leb}
use Rattle.queue.specs.Inner.{cell_goes_of}
use Rattle.queue.proofs.cell_goes.Goals as goal

pub returns-then-count-eq0 : goal.returns-then-count-eq0
unfolding cell_goes_of
returns-then-count-eq0 c = (simp (eq-eqb _ 0 c.if-count-eq0.true), omega arith, omega arith, omega arith)

pub returns-then-window-count : goal.returns-then-window-count
unfolding cell_goes_of
returns-then-window-count c = (simp (ne_eqb _ 0 c.if-count-eq0.false, le-leb _ _ c.if-window-count.true), omega arith, omega arith, omega arith)

pub returns-then-positions-start : goal.returns-then-positions-start
unfolding cell_goes_of
returns-then-positions-start c =
    (simp (ne_eqb _ 0 c.if-count-eq0.false, lt-leb _ _ c.if-window-count.false, ← c.remainder-leaves.ensures, eq-eqb _ _ c.if-positions-start.true), omega arith, omega arith, omega arith)

pub returns : goal.returns
unfolding cell_goes_of
returns c =
    (simp (ne_eqb _ 0 c.if-count-eq0.false, lt-leb _ _ c.if-window-count.false, ← c.remainder-leaves.ensures, ne_eqb _ _ c.if-positions-start.false), omega arith, omega arith, omega arith)
