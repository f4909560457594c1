-- Rates: 32-bit floats, in the order of the floats' own comparison.
-- "Floats: accepted pixels are finite. A negative zero is read as positive zero, so output never holds a negative zero. Order is the floats' own comparison."
use Rattle.std.specs.Prelude.{false, cond, eqb, pos, Float}
use Rattle.std.specs.Float.{nan, inf, fin}
use Rattle.morph.specs.Order.{Order}
use Rattle.morph.specs.FloatLaws.{float_le, float_total, float_trans}

-- `float_le x y` is the floats' own `le x y` where both are finite; a value that is not finite counts as below every finite one, so that the order is lawful everywhere
abbrev pub rate : Order Float
rate = record { le = float_le; total = float_total; trans = float_trans; blank = nan }

-- a negative zero is read as positive zero, and every other value as itself
abbrev pub plus_zero_of : Float → Float
plus_zero_of nan = nan
plus_zero_of (inf s) = inf s
plus_zero_of (fin s m e) = cond (eqb m 0) (fin false 0 (pos 0)) (fin s m e)
