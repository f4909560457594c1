-- A float and its four bytes: from bytes to a float and back, and from a float to bytes and back, nothing is lost.
-- By which idea: the library's laws of `of_bits` and `to_bits`, and that four digits to the base 256 make one number below 2 ^ 32.
use Rattle.std.proofs.Common.{◌≡◌, sym, ap, ◌∙◌, true, List, [], ◌∷◌, ◌++◌, append_assoc, ℕ, suc, ◌+◌, ◌/◌, ◌%◌, ◌≤◌, ◌<◌, add-zero, arith, lt-ltb, T, length, take, drop, set, get_or-drop, drop_at, length-take-le, Float}
use Rattle.std.proofs.lemmas.List.Edits.{sets-eq}
use Rattle.std.specs.Float.{nan, binary32}
use Rattle.std.specs.Float.Ieee.{of_bits, to_bits, fits}
use lib.Ieee.Bits.{of_bits-to_bits, to_bits-of_bits, to_bits-lt, nan_bits_is, nan_bits_above}
use lib.Ieee.Scale.{finite}
use Rattle.sample.specs.Bytes.{four_bytes, digits_of, float_of, float_at, bytes_of}
use Rattle.sample.proofs.Floats.{is_nan_law, finite_not_nan}

-- ---- the two round trips

number_digits : (n : ℕ) → n < 4294967296 → four_bytes (n % 256) (n / 256 % 256) (n / 65536 % 256) (n / 16777216) ≡ n
number_digits n h = omega arith

-- a float of the format, to bytes and back
pub float_back : (x : Float) → T (fits binary32 x) → float_at (bytes_of x) 0 ≡ x
float_back x p = ap (of_bits binary32) (number_digits (to_bits binary32 x) (to_bits-lt binary32 x p)) ∙ of_bits-to_bits binary32 x p

module _ (a b c d : ℕ) (A : a < 256) (B : b < 256) (C : c < 256) (D : d < 256) where
  digits_number : digits_of (four_bytes a b c d) ≡ a ∷ b ∷ c ∷ d ∷ []
  digits_number =
      let n = four_bytes a b c d in
      let e : (n % 256 ≡ a) × (n / 256 % 256 ≡ b) × (n / 65536 % 256 ≡ c) × (n / 16777216 ≡ d) = (omega arith, omega arith, omega arith, omega arith) in
      cc

  -- four bytes whose float is finite, to that float and back
  pub bytes_back : finite (float_of a b c d) ≡ true → bytes_of (float_of a b c d) ≡ a ∷ b ∷ c ∷ d ∷ []
  bytes_back h = ap digits_of (to_bits-of_bits binary32 (four_bytes a b c d) (omega arith) (finite_not_nan (float_of a b c d) h)) ∙ digits_number

-- ---- at a place among others

-- four stores, one after another
pub four_stores : (s : List ℕ) (at n : ℕ) → at + 4 ≤ length s
    → set (set (set (set s at (n % 256)) (at + 1) (n / 256 % 256)) (at + 2) (n / 65536 % 256)) (at + 3) (n / 16777216) ≡ take at s ++ digits_of n ++ drop (at + 4) s
four_stores s at n h =
    let e : (at + 1 ≡ suc at) × (at + 2 ≡ suc (suc at)) × (at + 3 ≡ suc (suc (suc at))) = omega arith in
    rw (e.0, e.1, e.2) (sets-eq (digits_of n) s at h)

float_at_drop : (s : List ℕ) (at : ℕ) → float_at s at ≡ float_at (drop at s) 0
float_at_drop s at = rw (get_or-drop at s 0 0, get_or-drop at s 1 0, get_or-drop at s 2 0, get_or-drop at s 3 0, add-zero at)

-- the float whose bytes were put at a place is read there
pub put_back : (s : List ℕ) (at : ℕ) (x : Float) → at ≤ length s → T (fits binary32 x) → float_at (take at s ++ bytes_of x ++ drop (at + 4) s) at ≡ x
put_back s at x h p =
    let r = bytes_of x ++ drop (at + 4) s in
    rw append_assoc (float_at_drop (take at s ++ r) at ∙ ap (λ l. float_at l 0) (drop_at (take at s) r at (length-take-le at s h)) ∙ float_back x p)

-- ---- patterns of a NaN: above that of an infinity, the sign put aside

pub nan_pattern : (n : ℕ) → 0x7f80_0000 < n % 0x8000_0000 → of_bits binary32 n ≡ nan
nan_pattern n h = is_nan_law (of_bits binary32 n) (sym (nan_bits_is binary32 n) ∙ nan_bits_above binary32 n ∙ lt-ltb 0x7f80_0000 (n % 0x8000_0000) h)
