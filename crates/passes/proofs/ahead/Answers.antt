-- The front takes the better of two, and the end is copied.
use Rattle.passes.proofs.Pass.{ahead_made}
use Rattle.passes.proofs.ahead.Goals as goal

pub returns : goal.returns
returns g c =
    let r = c in
    let e = c.saturating_sub-end in
    ahead_made g.S.Sample.samples.order.blank _ r.args.s r.args.row.now r.args.out.now _ _ e.result r.requires e.ensures c.pair.ensures c.copy_from_slice.ensures.after
