-- The places so far hold the better of the two, and those from here on are as they were.
use Rattle.std.proofs.Common.{refl, sym, ◌∙◌, ◌+◌, ◌<◌, arith, rules, length}
use Rattle.std.proofs.lemmas.List.{get_or_read_under}
use Rattle.morph.proofs.Lists.{length_tabulate, get_d_tabulate}
use Rattle.sample.proofs.Rows.{fill_start, fill_next}
use Rattle.passes.proofs.pair_of.Goals as goal

pub loop-i-init : goal.loop-i-init
loop-i-init g c = (fill_start _ _ (sym (length_tabulate _ _)), search rules)

pub loop-i-preserved : goal.loop-i-preserved
loop-i-preserved g c =
    let l = c.loop-i in
    let out₀ = c.args.out.now in
    let blank = g.S.Sample.samples.order.blank in
    let h : l.i < length out₀ = omega arith in
    let row = c.args.row.now in
    let here = get_or_read_under row l.i _ _ blank c.index-row-i.is (omega arith) refl in
    let there = get_or_read_under row (l.i + c.args.s) _ _ blank c.index-row-i-in-loop-i.is (omega arith) refl in
    (fill_next _ _ l.out l.i l.invariant.0 blank (rw length_tabulate h) _ ((rw (here, there, c.KIND.ensures) at c.better.ensures) ∙ sym (get_d_tabulate (length out₀) _ l.i blank h)), l.invariant.1)
