-- By the test.
use borrow.Author.Tests.{lt-ltb, le-ltb}
use Rattle.turn_rows.proofs.judge_tail.Goals as goal

pub returns-then-got-gt0 : goal.returns-then-got-gt0
returns-then-got-gt0 c = simp (lt-ltb _ _ c.if-got-gt0.true)

pub returns : goal.returns
returns c = simp (le-ltb _ _ c.if-got-gt0.false)
