-- `read_row` meets its contract. The loop's invariant is `ReadOrigins` at the steps done, beside the place behind the last; its laws are those of row's proofs/Row.antt and proofs/Origins.antt.
use Rattle.std.proofs.Common.{◌+◌, refl, sym, ap, ◌∙◌, arith}
use Rattle.std.proofs.lemmas.List.{get_or_read_under}
use Rattle.morph.specs.Ring.{wrap}
use Rattle.morph.proofs.Ring.{wrap_low}
use Rattle.row.proofs.Row.{read_first, read_next, behind_next}
use Rattle.row.proofs.Origins.{origins_first, origins_next}
use Rattle.row_origin.proofs.read_row.Goals as goal

pub loop-t-init : goal.loop-t-init
loop-t-init g c =
    (c.from-n.ensures ∙ c.position.ensures, sym (wrap_low 63 (0 + 0) (omega arith)), origins_first g.S.Sample.samples _ _ _ _ _ _ _ _ _ _ _ (read_first g.S.Sample.samples _ _ _ _ _ _ c.requires.4 c.requires.5))

pub loop-t-preserved : goal.loop-t-preserved
loop-t-preserved g c =
    let i = c.loop-t.invariant in
    let more = c.loop-t-test.true in
    let e = c.position-in-loop-t.ensures in
    let f = c.front-front.ensures in
    let p = c.push_within-r in
    let r = p.result in
    let m = p.ensures in
    let w = i.2.read.values_long in
    let read = get_or_read_under c.loop-t.row c.loop-t.t _ _ g.S.Sample.samples.order.blank c.index-row-t.is (omega (arith, i.0, i.2.read.long, more)) refl in
    let next = read_next g.S.Sample.samples _ _ _ _ _ _ _ _ _ _ _ i.2.read _ _ r (omega (arith, i.0, more)) c.requires.0 c.requires.1 read (rw e at m.0) (rw m.1 at f.0) in (
      i.0,
      c.next-behind.ensures.0 ∙ behind_next 63 r (m.0.behind ∙ ap (λ n. wrap n (r.start + r.count)) w) (omega (arith, m.0.below)) (omega (arith, m.0.fits, c.requires.0, c.requires.1)),
      rw (c.answer.ensures, c.answer-in-loop-t.ensures, m.1, m.2, e)
          (origins_next g.S.Sample.samples _ _ _ _ _ _ _ _ _ _ _ _ _ _ _ _ _ _ _ c.requires.3 (omega (arith, i.0, more)) i.2 next _ (rw (m.2, e) at f.1)),
    )
