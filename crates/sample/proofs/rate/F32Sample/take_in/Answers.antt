-- The row fills with what each value of the other is read as.
use Rattle.std.proofs.Common.{sym, ◌∙◌, arith}
use Rattle.std.proofs.Math.ListN.{get_or-map}
use Rattle.std.specs.Float.{nan}
use Rattle.morph.specs.Rate.{plus_zero_of}
use Rattle.sample.proofs.Rows.{fill_next}
use Rattle.sample.proofs.rate.F32Sample.take_in.Goals as goal

pub loop-i-preserved : goal.loop-i-preserved
loop-i-preserved c =
    let l = c.loop-i in
    let r = c.args.row.now in
    fill_next _ _ l.to l.i l.invariant nan (omega arith) _ (c.plus_zero.ensures ∙ sym (get_or-map plus_zero_of r l.i nan))
