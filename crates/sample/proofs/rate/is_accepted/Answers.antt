-- The pattern tells the negative zero.
use Rattle.std.proofs.Common.{sym, ap, ◌∙◌, subst, Bool, not, ◌&&◌, ℕ, T, eqb}
use lib.Ieee.Scale.{finite}
use Rattle.sample.proofs.Fields.{bits_negative}
use Rattle.sample.proofs.rate.is_accepted.Goals as goal

pub returns : goal.returns
returns c =
    let x = c.args.x in
    let e = ap (λ (n : ℕ). not (eqb n 2147483648)) c.to_pattern-bits.ensures ∙ ap not (bits_negative x (subst T (sym c.well_formed.0.1) tt)) in
    ap (λ (b : Bool). b && not (eqb c.to_pattern-bits.result 2147483648)) c.is_finite.ensures ∙ ap (λ (b : Bool). finite x && b) e
