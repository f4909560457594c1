-- The test is that of a NaN's pattern, and 0.0 / 0.0 is a NaN.
use Rattle.std.proofs.Common.{◌≡◌, refl, sym, ◌∙◌}
use Rattle.std.proofs.lemmas.Float.{not_nan_f32_bits}
use Rattle.std.specs.Float.{nan, binary32}
use Rattle.std.specs.Float.Ieee.{div, of_bits}
use Rattle.sample.proofs.Bytes.{nan_pattern}
use Rattle.sample.proofs.rate.from_pattern.Goals as goal

no_number : div binary32 (of_bits binary32 0) (of_bits binary32 0) ≡ nan
unfolding div of_bits
no_number = refl

pub returns-then-n-gt2139095040 : goal.returns-then-n-gt2139095040
returns-then-n-gt2139095040 c = no_number ∙ sym (nan_pattern c.args.n c.if-n-gt2139095040.true)

pub float_from_bits-result : goal.float_from_bits-result
float_from_bits-result c = not_nan_f32_bits c.args.n c.if-n-gt2139095040.false
