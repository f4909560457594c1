-- The exponent bits of the float's pattern tell it.
use Rattle.std.proofs.Common.{sym, ap, ◌∙◌, subst, not, ℕ, T, eqb}
use Rattle.sample.proofs.Fields.{exponent_bits, bits_finite}
use Rattle.sample.proofs.rate.is_finite.Goals as goal

pub returns : goal.returns
returns c =
    let x = c.args.x in
    ap (λ (n : ℕ). not (eqb (exponent_bits n) 255)) c.to_pattern-bits.ensures ∙ bits_finite x (subst T (sym c.well_formed.0.1) tt)
