-- The row fills with what each of its values is read as.
use Rattle.std.proofs.Common.{sym, ap, ◌∙◌, arith}
use Rattle.std.proofs.Math.ListN.{get_or-map}
use Rattle.std.specs.Float.{nan}
use Rattle.morph.specs.Rate.{plus_zero_of}
use Rattle.sample.proofs.Rows.{fill_here, fill_next}
use Rattle.sample.proofs.rate.clean.Goals as goal

pub loop-x-preserved : goal.loop-x-preserved
loop-x-preserved c =
    let l = c.loop-x in
    let r = c.args.row.now in
    fill_next _ _ l.row l.x-index l.invariant nan (omega arith) _ (c.plus_zero.ensures ∙ ap plus_zero_of (fill_here _ _ l.row l.x-index l.invariant nan (omega arith)) ∙ sym (get_or-map plus_zero_of r l.x-index nan))
