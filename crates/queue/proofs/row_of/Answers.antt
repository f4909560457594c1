-- `row_of` meets its contract: the tests are the definition's.
use Rattle.std.proofs.Common.{le-leb, lt-ltb, le-ltb}
use Rattle.std.proofs.lemmas.Bool.{lt-leb}
use Rattle.morph.specs.Cell.{row_of}
use Rattle.queue.proofs.row_of.Goals as goal

pub returns-then-r-ge128 : goal.returns-then-r-ge128
unfolding row_of
returns-then-r-ge128 c = simp (le-ltb _ 128 c.if-r-ge128.true)

pub returns-then-a-s : goal.returns-then-a-s
unfolding row_of
returns-then-a-s c = simp (lt-ltb _ 128 c.if-r-ge128.false, ← c.age-a.ensures.0, le-leb _ _ c.if-a-s.true)

pub returns-else-a-s : goal.returns-else-a-s
unfolding row_of
returns-else-a-s c = simp (lt-ltb _ 128 c.if-r-ge128.false, ← c.age-a.ensures.0, lt-leb _ _ c.if-a-s.false)
