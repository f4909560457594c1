-- What the promises on floats say beyond morph's words `rate` and `plus_zero_of`: which of two passes, and which are accepted.
-- "Floats: accepted pixels are finite. A negative zero is read as positive zero, so output never holds a negative zero. Order is the floats' own comparison."
use Rattle.std.specs.Prelude.{Bool, false, not, ◌&&◌, eqb, Float}
use Rattle.std.specs.Float.{nan, inf, fin}
use Rattle.std.specs.Float.Ieee.{le}
use Rattle.std.specs.Float.Ieee.Scale.{finite}
use Rattle.morph.specs.declared.Kind.{Kind}
use Rattle.morph.specs.declared.Kind.TheVariants.{Erosion, Dilation}

-- "equals or passes": the new value is, by the floats' own comparison, at most the old one for erosion and at least the old one for dilation.
-- For finite values this is morph's order, `(order_of kind rate).le old new`: `passes_order` proves it.
abbrev pub passes_of : Kind → Float → Float → Bool
passes_of Erosion new old = le new old
passes_of Dilation new old = le old new

-- the zero that has the sign
abbrev pub negative_zero : Float → Bool
negative_zero nan = false
negative_zero (inf s) = false
negative_zero (fin s m e) = s && eqb m 0

-- a pixel as the filter has it: "accepted pixels are finite", and a negative zero was read as positive zero
abbrev pub accepted : Float → Bool
accepted x = finite x && not (negative_zero x)
