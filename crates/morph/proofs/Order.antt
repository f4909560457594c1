-- Both sample kinds are orders (specs/Grey.antt, specs/Rate.antt); here: that of the rates is the floats' own comparison between accepted pixels, which are finite. And the kind of a number.
use mathlib.Core.Path.{◌≡◌, refl}
use mathlib.Core.Bool.{true}
use Prim.Native.Nat.{ℕ, zero, suc}
use lib.Ieee.{Float, le}
use lib.Ieee.Scale.{finite}
use Rattle.morph.specs.declared.Kind.TheVariants.{Dilation}
use Rattle.morph.specs.Order.{kind_of}
use Rattle.morph.specs.Rate.{rate}

pub rate_le : (x y : Float) → finite x ≡ true → finite y ≡ true → rate.le x y ≡ le x y
rate_le x y p q = cc

-- the kind of every number but 0
pub kind_dilation : (n : ℕ) → (n ≡ 0 → ⊥) → Dilation ≡ kind_of n
kind_dilation zero h = absurd (h refl)
kind_dilation (suc n) h = refl
