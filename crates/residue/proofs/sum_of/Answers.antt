-- The sum so far is that of the columns so far.
use Rattle.std.proofs.Common.{◌≡◌, ◌∙◌, ap, ℕ, ◌-◌, ltb-false, length, get_or, arith}
use Rattle.morph.specs.Lists.{sum_to}
use Rattle.residue.specs.Residue.{darker}
use Rattle.residue.specs.Inner.{part_negative, part_residue}
use Rattle.residue.proofs.Laws.{none_at}
use Rattle.residue.proofs.sum_of.Goals as goal

pub difference-sum-requires : goal.difference-sum-requires
unfolding part_negative
difference-sum-requires c =
    let a = c.args in
    ltb-false _ _ (none_at (length a.closed.now) (darker a.closed.now a.input.now) c.requires.2 c.loop-x.x c.loop-x-test.true)

pub returns : goal.returns
unfolding part_residue
returns c =
    let a = c.args in
    let e : c.loop-x.x ≡ length a.closed.now = omega arith in
    c.loop-x.invariant.0 ∙ ap (λ (n : ℕ). sum_to n (λ k. get_or a.closed.now k 0 - get_or a.input.now k 0)) e
