-- Laws of single floats: what `x == 0.0` tells, what `plus_zero_of` gives.
-- By which idea: a finite value m * 2 ^ e equals zero only where m is 0.
use Rattle.std.proofs.Common.{◌≡◌, refl, sym, ◌∙◌, Bool, true, false, not, ℕ, zero, suc, ◌*◌, ◌^◌, ◌<◌, zero-mul, one-mul, mul-one, mul-pos, arith, eqb-true, eq-eqb, ne_eqb, ℤ, pos, negsuc, T, eqb, eqb→eq, pow_pos, Float}
use Rattle.std.proofs.lemmas.Bool.{false≢true, eqb-false}
use Rattle.std.proofs.Math.Nat.{pow-succ'}
use Rattle.std.specs.Float.{nan, inf, fin, Format, binary32}
use Rattle.std.specs.Float.Ieee.{up, down, level, eq, ne, fits, is_nan, of_bits}
use lib.Ieee.Fits.{up_pos}
use lib.Ieee.Scale.{finite}
use Rattle.morph.specs.Rate.{plus_zero_of}
use Rattle.morph.proofs.Lists.{split}
use Rattle.sample.specs.Rate.{accepted}

ruleset tests = (arith, eqb-true, eqb-false)

abbrev pub positive_zero : Float
positive_zero = fin false 0 (pos 0)

-- the literal 0.0, as a program has it
pub literal_zero : of_bits binary32 0 ≡ positive_zero
unfolding of_bits
literal_zero = refl

-- ---- `x == 0.0`

level_zero : (s : Bool) (a : ℕ) → level s a false 0 ≡ eqb a 0
level_zero false a = split (eqb a 0) (λ p. cc) (λ p. cc)
level_zero true a = split (eqb a 0) (λ p. cc) (λ p. cc)

scaled_zero : (m u : ℕ) → 0 < u → eqb (m * u * 1) 0 ≡ eqb m 0
scaled_zero m u h =
    split (eqb m 0)
    (λ p. let e = eqb-true m 0 p in cc (eq-eqb (m * u * 1) 0 (rw e (rw zero-mul))))
    (λ p. let z : 0 < m = omega tests in cc (ne_eqb (m * u * 1) 0 (λ e. omega (arith, mul-pos z h))))

-- a finite value equals 0.0 exactly where its m is 0
pub eq_zero : (s : Bool) (m : ℕ) (e : ℤ) → eq (fin s m e) positive_zero ≡ eqb m 0
unfolding eq
eq_zero s m e = rw (zero-mul (down e)) (level_zero s (m * up e * 1) ∙ scaled_zero m (up e) (up_pos e))

-- ---- `plus_zero_of`

pub plus_yes : (x : Float) → eq x positive_zero ≡ true → positive_zero ≡ plus_zero_of x
unfolding eq
plus_yes nan h = absurd (false≢true h)
plus_yes (inf s) h = absurd (false≢true h)
plus_yes (fin s m e) h = cc (eq_zero s m e)

pub plus_no : (x : Float) → eq x positive_zero ≡ false → x ≡ plus_zero_of x
plus_no nan h = refl
plus_no (inf s) h = refl
plus_no (fin s m e) h = cc (eq_zero s m e)

pub plus_twice : (x : Float) → plus_zero_of (plus_zero_of x) ≡ plus_zero_of x
plus_twice nan = refl
plus_twice (inf s) = refl
plus_twice (fin s m e) = split (eqb m 0) (λ p. cc) (λ p. cc)

-- what a finite float is read as, is accepted
pub accepted_plus : (x : Float) → finite x ≡ true → accepted (plus_zero_of x) ≡ true
accepted_plus nan h = h
accepted_plus (inf s) h = h
accepted_plus (fin true m e) h = split (eqb m 0) (λ p. cc) (λ p. cc)
accepted_plus (fin false m e) h = split (eqb m 0) (λ p. cc) (λ p. cc)

no_power : (x y : ℕ) → x ≡ 2 * y → 0 < y → x ≡ 1 → ⊥
no_power x y e p h = omega arith

-- 2 ^ e is 1 only at e = 0
pub power_one : (e : ℤ) → up e * down e ≡ 1 → e ≡ pos 0
power_one (pos zero) h = refl
power_one (pos (suc a)) h = absurd (no_power (2 ^ suc a) (2 ^ a) (pow-succ' 2 a) (pow_pos a) (sym (mul-one (2 ^ suc a)) ∙ h))
power_one (negsuc a) h = absurd (no_power (2 ^ suc a) (2 ^ a) (pow-succ' 2 a) (pow_pos a) (sym (one-mul (2 ^ suc a)) ∙ h))

-- an accepted value of a format is read as itself
pub plus_accepted : (f : Format) (x : Float) → T (fits f x) → accepted x ≡ true → plus_zero_of x ≡ x
unfolding fits
plus_accepted f nan p h = refl
plus_accepted f (inf s) p h = refl
plus_accepted f (fin true zero e) p h = absurd (false≢true h)
plus_accepted f (fin false zero e) p h = rw (power_one e (eqb→eq (up e * down e) 1 p))
plus_accepted f (fin s (suc m) e) p h = rw (ne_eqb (suc m) 0 (λ k. omega arith))

-- ---- a NaN

pub not_nan : (x : Float) → ne x x ≡ false → T (not (is_nan x))
unfolding ne is_nan
not_nan nan h = false≢true (sym h)
not_nan (inf s) h = tt
not_nan (fin s m e) h = tt

pub finite_not_nan : (x : Float) → finite x ≡ true → T (not (is_nan x))
unfolding is_nan
finite_not_nan nan h = false≢true h
finite_not_nan (inf s) h = tt
finite_not_nan (fin s m e) h = tt

pub is_nan_law : (x : Float) → is_nan x ≡ true → x ≡ nan
unfolding is_nan
is_nan_law nan h = refl
is_nan_law (inf s) h = absurd (false≢true h)
is_nan_law (fin s m e) h = absurd (false≢true h)
