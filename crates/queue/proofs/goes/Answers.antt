-- `queue::goes` meets its contract: each answer rewrites with the tests that led there.
use Rattle.std.proofs.Common.{arith, eq-eqb, ne_eqb, le-leb}
use Rattle.std.proofs.lemmas.Bool.{lt-leb}
use Rattle.queue.specs.Inner.{goes_of}
use Rattle.queue.proofs.goes.Goals as goal

pub returns-then-count-eq0 : goal.returns-then-count-eq0
unfolding goes_of
returns-then-count-eq0 c = (simp (eq-eqb _ 0 c.if-count-eq0.true), omega arith, omega arith, omega arith)

pub returns-then-window-count : goal.returns-then-window-count
unfolding goes_of
returns-then-window-count c = (simp (ne_eqb _ 0 c.if-count-eq0.false, le-leb _ _ c.if-window-count.true), omega arith, omega arith, omega arith)

pub returns-then-wide-window : goal.returns-then-wide-window
unfolding goes_of
returns-then-wide-window c =
    (simp (ne_eqb _ 0 c.if-count-eq0.false, lt-leb _ _ c.if-window-count.false, ← c.wide.ensures.0, le-leb _ _ c.if-wide-window.true), omega arith, omega arith, omega arith)

pub returns : goal.returns
unfolding goes_of
returns c =
    (simp (ne_eqb _ 0 c.if-count-eq0.false, lt-leb _ _ c.if-window-count.false, ← c.wide.ensures.0, lt-leb _ _ c.if-wide-window.false), omega arith, omega arith, omega arith)
