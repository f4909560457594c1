-- The exponent's field of a bit pattern tells whether its float is finite.
-- By which idea: `of_bits` reads a pattern by its fields, and gives an infinity or a NaN exactly where the exponent's is all ones.
use Rattle.std.proofs.Common.{◌≡◌, refl, sym, ap, ◌∙◌, Bool, true, false, not, cond, ℕ, zero, suc, ◌+◌, ◌*◌, ◌/◌, ◌%◌, ◌^◌, arith, ne_eqb, eqb-true, T, eqb, eqb→eq, pos, bit_and, Float}
use Rattle.std.proofs.lemmas.Bool.{false≢true, eqb-false}
use Rattle.std.proofs.lemmas.Nat.{and_mask}
use Rattle.std.proofs.Math.Pow.{field}
use Rattle.std.specs.Float.{nan, inf, fin, Format, binary32}
use Rattle.std.specs.Float.Ieee.{up, down, prec, emax, low, odd, hid, ones, top, of_fields, of_bits, to_bits, fits}
use lib.Ieee.Bits.{of_bits-to_bits}
use lib.Ieee.Scale.{finite}
use Rattle.morph.proofs.Lists.{split}
use Rattle.sample.specs.Rate.{negative_zero}
use Rattle.sample.proofs.Floats.{power_one}

-- ---- any format

number_finite : (d : ℕ) (s : Bool) (q k l : ℕ) → finite (odd d s q k l) ≡ true
unfolding odd
number_finite d s zero k l = refl
number_finite d s (suc q) k l = refl

-- all ones: an infinity or a NaN; not all ones: a number
by_ones : (allOnes noFraction s : Bool) (x : Float) → finite x ≡ true → finite (cond allOnes (cond noFraction (inf s) nan) x) ≡ not allOnes
by_ones true true s x h = refl
by_ones true false s x h = refl
by_ones false noFraction s x h = h

ones_above : (e : ℕ) → 0 ≡ 2 * e + 1 → ⊥
ones_above e h = omega arith

fields_finite : (f : Format) (s : Bool) (exponent fraction : ℕ) → finite (of_fields f s exponent fraction) ≡ not (eqb exponent (ones f))
unfolding of_fields
fields_finite f s zero t = number_finite (prec f) s t 0 (low f) ∙ sym (ap not (ne_eqb 0 (ones f) (ones_above (emax f))))
fields_finite f s (suc k) t =
    let q = hid f + t in
    by_ones (eqb (suc k) (ones f)) (eqb t 0) s (odd (prec f) s q k (low f)) (number_finite (prec f) s q k (low f))

pub pattern_finite : (f : Format) (n : ℕ) → finite (of_bits f n) ≡ not (eqb (n % top f / hid f) (ones f))
unfolding of_bits
pattern_finite f n = fields_finite f _ (n % top f / hid f) (n % hid f)

-- ---- binary32

-- the eight exponent bits of a pattern, as `(n >> 23) & 0xff` takes them
abbrev pub exponent_bits : ℕ → ℕ
exponent_bits n = bit_and (n / 8388608) 255

exponent_field : (n : ℕ) → exponent_bits n ≡ n % top binary32 / hid binary32
exponent_field n = and_mask (n / 2 ^ 23) 8 ∙ sym (field n 8 23)

-- The reviewer's sentence, of every bit pattern: its float is finite exactly when its eight exponent bits are not all ones.
pub finite_pattern : (n : ℕ) → finite (of_bits binary32 n) ≡ not (eqb (exponent_bits n) 255)
finite_pattern n = pattern_finite binary32 n ∙ ap (λ (k : ℕ). not (eqb k 255)) (sym (exponent_field n))

-- The same of every float, by the pattern that is written for it.
pub bits_finite : (x : Float) → T (fits binary32 x) → not (eqb (exponent_bits (to_bits binary32 x)) 255) ≡ finite x
bits_finite x p = sym (finite_pattern (to_bits binary32 x)) ∙ ap finite (of_bits-to_bits binary32 x p)

-- ---- the negative zero

negative_bits : (x : Float) → T (fits binary32 x) → negative_zero x ≡ true → to_bits binary32 x ≡ 2147483648
unfolding fits to_bits
negative_bits nan p h = absurd (false≢true h)
negative_bits (inf s) p h = absurd (false≢true h)
negative_bits (fin false m e) p h = absurd (false≢true h)
negative_bits (fin true zero e) p h = rw (power_one e (eqb→eq (up e * down e) 1 p)) refl
negative_bits (fin true (suc m) e) p h = absurd (false≢true (sym (ne_eqb (suc m) 0 (λ k. omega arith)) ∙ h))

sign_alone : of_bits binary32 2147483648 ≡ fin true 0 (pos 0)
unfolding of_bits
sign_alone = refl

-- its sign bit stands alone, and in no other pattern
pub bits_negative : (x : Float) → T (fits binary32 x) → eqb (to_bits binary32 x) 2147483648 ≡ negative_zero x
bits_negative x p =
    split (eqb (to_bits binary32 x) 2147483648)
    (λ h. h ∙ sym (ap negative_zero (sym (of_bits-to_bits binary32 x p) ∙ ap (of_bits binary32) (eqb-true (to_bits binary32 x) 2147483648 h) ∙ sign_alone)))
    (λ h. h ∙ sym (split (negative_zero x) (λ n. absurd (eqb-false (to_bits binary32 x) 2147483648 h (negative_bits x p n))) (λ n. n)))
