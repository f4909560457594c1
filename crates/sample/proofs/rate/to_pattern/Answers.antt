-- A NaN, and no other value, differs from itself; the number returned for it is that of the library's `to_bits`.
use Rattle.std.proofs.Common.{sym, ap, subst, T}
use Rattle.std.specs.Float.{binary32}
use Rattle.std.specs.Float.Ieee.{to_bits}
use lib.Ieee.Compare.{differs_from_itself}
use Rattle.sample.proofs.Floats.{not_nan}
use Rattle.sample.proofs.rate.to_pattern.Goals as goal

pub returns-then-x : goal.returns-then-x
unfolding to_bits
returns-then-x c = sym (ap (to_bits binary32) (differs_from_itself c.args.x (subst T (sym c.if-x.true) tt)))

pub float_to_bits-result : goal.float_to_bits-result
float_to_bits-result c = not_nan c.args.x c.if-x.false
