-- `pop` meets its contract. The loop's invariant: `left` entries are left, and `at` is the place behind them.
use Rattle.std.proofs.Common.{refl, sym, ◌∙◌, ◌+◌, arith, length}
use Rattle.std.proofs.lemmas.Bool.{not-true, not-false}
use Rattle.std.proofs.lemmas.List.{get_or_read_under}
use Rattle.morph.proofs.Ring.{wrap_lt, wrap_before}
use Rattle.queue.proofs.Laws.{left_all, left_none, left_more, left_stop}
use Rattle.queue.proofs.pop.Goals as goal

pub loop-left-init : goal.loop-left-init
loop-left-init g c = (omega arith, c.requires.3, left_all _ _ _ _ _ _)

pub previous-i-requires : goal.previous-i-requires
previous-i-requires g c =
    let s = c in
    let l = c.loop-left in
    let i = wrap_lt (length s.args.values.now) (s.args.start + l.left) (omega arith) in
    (omega (arith, l.invariant.1), omega arith)

pub returns-then-not-passes : goal.returns-then-not-passes
returns-then-not-passes g c =
    let l = c.loop-left in
    let p = c.previous-i in
    let e = wrap_before _ _ l.left p.result (omega arith) (omega arith) (omega arith) p.ensures.0 (p.ensures.1 ∙ l.invariant.1) in
    let read = get_or_read_under c.args.values.now p.result _ _ g.S.Sample.samples.order.blank c.index-values-i.is (omega arith) refl in
    (left_stop _ _ _ _ _ _ l.left p.result (omega arith) (omega arith) e l.invariant.2 (rw read at (sym c.passes.ensures ∙ not-true _ c.if-not-passes.true-raw)), omega arith, l.invariant.1, rw l.invariant.1 (wrap_lt _ _ (omega arith)))

pub loop-left-preserved : goal.loop-left-preserved
loop-left-preserved g c =
    let l = c.loop-left in
    let p = c.previous-i in
    let e = wrap_before _ _ l.left p.result (omega arith) (omega arith) (omega arith) p.ensures.0 (p.ensures.1 ∙ l.invariant.1) in
    let read = get_or_read_under c.args.values.now p.result _ _ g.S.Sample.samples.order.blank c.index-values-i.is (omega arith) refl in
    (omega arith, e, left_more _ _ _ _ _ _ l.left p.result (omega arith) (omega arith) e l.invariant.2 (rw read at (sym c.passes.ensures ∙ not-false _ c.if-not-passes.false-raw)))

pub returns : goal.returns
returns g c = let l = c.loop-left in (left_none _ _ _ _ _ _ l.left (omega arith) l.invariant.2, omega arith, l.invariant.1, rw l.invariant.1 (wrap_lt _ _ (omega arith)))
