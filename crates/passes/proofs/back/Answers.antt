-- The front goes along, and the rest is taken in pairs.
use Rattle.std.proofs.Common.{ap, ℕ, ◌-◌, length}
use Rattle.passes.proofs.Pass.{back_made}
use Rattle.passes.proofs.back.Goals as goal

pub returns : goal.returns
returns g c =
    let r = c in
    back_made g.S.Sample.samples.order.blank _ r.args.s r.args.row.now _ _ (ap (λ (m : ℕ). length r.args.row.now - m) c.saturating_sub.ensures) c.running.ensures r.args.out.now _ r.requires c.pair.ensures
