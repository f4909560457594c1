-- The first i places have taken theirs.
use mathlib.Core.Path.{refl, sym, ◌∙◌}
use Rattle.std.proofs.lemmas.List.{get_or_read_under}
use Prim.Native.Nat.{◌<◌}
use native.Mathlib.Omega.{arith}
use lib.ListN.{length}
use Rattle.morph.proofs.Lists.{length_tabulate, get_d_tabulate}
use Rattle.sample.proofs.Rows.{fill_start, fill_here, fill_next, fill_end}
use Rattle.sweep.proofs.over_of.Goals as goal

pub loop-i-init : goal.loop-i-init
loop-i-init g c = (fill_start _ _ (sym (length_tabulate _ _)), c.requires)

pub loop-i-preserved : goal.loop-i-preserved
loop-i-preserved g c =
    let l = c.loop-i in
    let rows = c.args.rows.now in
    let blank = g.S.Sample.samples.order.blank in
    let h : l.i < length rows = omega arith in
    let here = get_or_read_under l.rows l.i _ _ blank c.index-rows-i.is (omega arith) refl ∙ fill_here _ _ l.rows l.i l.invariant.0 blank (rw length_tabulate h) in
    let there = get_or_read_under c.args.others.now l.i _ _ blank c.index-others-i.is (omega arith) refl in
    (fill_next _ _ l.rows l.i l.invariant.0 blank (rw length_tabulate h) _ ((rw (here, there, c.KIND.ensures) at c.better.ensures) ∙ sym (get_d_tabulate (length rows) _ l.i blank h)), l.invariant.1)

pub shape_of-rows : goal.shape_of-rows
shape_of-rows g c = c.loop-i.invariant.0.kept

pub returns : goal.returns
returns g c = let l = c.loop-i in fill_end _ _ l.rows l.i l.invariant.0 (rw length_tabulate (omega arith))
