-- The slice that the flag names has reached r ahead.
use Rattle.std.proofs.Common.{◌≡◌, ◌∙◌, arith}
use Rattle.morph.specs.Order.{order_of}
use Rattle.passes.proofs.Reach.{line_ahead_law}
use Rattle.passes.proofs.line_ahead.Goals as goal

pub loop-r-preserved : goal.loop-r-preserved
loop-r-preserved g c =
    let l = c.loop-r in
    let start = c in
    let s = c.min-s in (
      c.a-1.given ∙ l.invariant.0,
      c.t-1.given ∙ l.invariant.1,
      omega (arith, s.ensures),
      line_ahead_law (order_of start.args.kind g.S.Sample.samples.order) _ _ (g.met.S.Choice.picks start.args.kind) _ start.requires.2 l.r s.result start.args.far _ _ s.ensures l.invariant.3 c.turn_ahead.ensures,
    )

pub returns : goal.returns
returns g c = let l = c.loop-r in let e : l.r ≡ c.args.far = omega arith in rw (← e) l.invariant.3
