-- `step_on` meets its contract, by the test that led to each end.
use mathlib.Core.Path.{◌≡◌, refl}
use borrow.Author.Tests.{le-leb, lt-leb}
use borrow.Author.Rules.{rules}
use Rattle.morph.specs.Order.{ahead_of}
use Rattle.line_judge.specs.Steps.{say_at}
use Rattle.line_judge.specs.Inner.{onward}
use Rattle.line.proofs.step_on.Goals as goal

pub returns-then-t-ahead : goal.returns-then-t-ahead
unfolding onward say_at
returns-then-t-ahead g c =
    let l = c.args.line in
    let a : c.ahead-ahead.result ≡ ahead_of l.kind l.left l.right = rw c.shape.ensures at c.ahead-ahead.ensures.0 in
    (refl, simp (← a, lt-leb _ _ c.if-t-ahead.true), search rules)

pub returns : goal.returns
unfolding onward say_at
returns g c =
    let l = c.args.line in
    let a : c.ahead-ahead.result ≡ ahead_of l.kind l.left l.right = rw c.shape.ensures at c.ahead-ahead.ensures.0 in
    let f = c.front-front.ensures in
    (refl, simp (f.0, c.from-position.ensures, f.1, ← a, le-leb _ _ c.if-t-ahead.false), search rules)
