-- No two bytes are alike in the order, and no two floats as they are read: the order tells them apart.
-- By which idea: floats that are each at most the other are the same number. The format writes a number other than 0 in one way, as an odd number times a power of two, and of the two zeros only the positive one is read.
use mathlib.Core.Path.{◌≡◌, refl, sym, ap, ◌∙◌}
use mathlib.Core.Logic.{◌⊎◌, inl, inr, ⊎_elim}
use mathlib.Core.Bool.{Bool, true, false, ◌&&◌, ◌||◌, false≢true}
use Prim.Native.Nat.{ℕ, zero, suc, ◌+◌, ◌*◌, ◌%◌, ◌^◌}
use native.Mathlib.Nat.{zero-mul, mul_assoc, mul-pos, pow-suc, zero-lt-suc, le_antisymm}
use native.Mathlib.Omega.{arith}
use borrow.Author.Tests.{leb-true, ltb-true, ltb-false, eqb-true, eqb-false, eq-eqb}
use lib.IntN.{ℤ, pos, negsuc}
use lib.Dec.{T, leb, ltb, eqb, eqb→eq}
use lib.Pow.{pow-add}
use lib.Ieee.{nan, inf, fin, binary32, prec, low, up, down, below, level, lt, eq, le, fits}
use lib.Ieee.Fits.{and_l, up_pos, down_pos}
use Rattle.morph.specs.Grey.{grey}
use Rattle.morph.specs.Rate.{rate}
use Rattle.morph.proofs.Lists.{both}
use Rattle.sample.proofs.Floats.{positive_zero, plus_accepted}
use Rattle.laws.specs.Laws.{Told, Taken}

pub grey_told : Told grey (λ a. Unit {0})
grey_told a b _ _ h k = le_antisymm (leb-true a b h) (leb-true b a k)

ruleset tests = (arith, ltb-true, ltb-false, eqb-true, eqb-false)

-- ---- each at most the other: the same numbers, and the same signs but for zeros

either : (a b : Bool) → (a || b) ≡ true → (a ≡ true) ⊎ (b ≡ true)
either true b h = inl refl
either false b h = inr h

-- of ±a and ±b, where a is below b it is not so the other way, and the two are not level
one_way : (s t : Bool) (a b : ℕ) → below s a t b ≡ true → (below t b s a || level t b s a) ≡ true → ⊥
one_way false true a b h k = false≢true h
one_way false false a b h k = ⊎_elim (λ p. omega tests) (λ p. let q = (both (eqb b a) true p).0 in omega tests) (either (ltb b a) (eqb b a && true) k)
one_way true true a b h k = ⊎_elim (λ p. omega tests) (λ p. let q = (both (eqb b a) true p).0 in omega tests) (either (ltb a b) (eqb b a && true) k)
one_way true false a b h k = let (p, q) = both (eqb b a) (eqb b 0) k in omega tests

same_sign : (s t : Bool) (a b : ℕ) → level s a t b ≡ true → (s ≡ t) ⊎ (a ≡ 0)
same_sign false false a b h = inl refl
same_sign true true a b h = inl refl
same_sign false true a b h = inr (eqb-true a 0 (both (eqb a b) (eqb a 0) h).1)
same_sign true false a b h = inr (eqb-true a 0 (both (eqb a b) (eqb a 0) h).1)

-- ---- an odd number times a power of two

odd_even : (m t : ℕ) → m % 2 ≡ 1 → m * 1 ≡ t * 2 → ⊥
odd_even m t o h = omega arith

half : (x y : ℕ) → x * 2 ≡ y * 2 → x ≡ y
half x y h = omega arith

twice_power : (m a : ℕ) → m * 2 ^ suc a ≡ m * 2 ^ a * 2
twice_power m a = rw (pow-suc 2 a) (sym (mul_assoc m (2 ^ a) 2))

odd_power : (m n a b : ℕ) → m % 2 ≡ 1 → n % 2 ≡ 1 → m * 2 ^ a ≡ n * 2 ^ b → (m ≡ n) × (a ≡ b)
odd_power m n zero zero o p h = (omega arith, refl)
odd_power m n zero (suc b) o p h = absurd (odd_even m (n * 2 ^ b) o (h ∙ twice_power n b))
odd_power m n (suc a) zero o p h = absurd (odd_even n (m * 2 ^ a) p (sym h ∙ twice_power m a))
odd_power m n (suc a) (suc b) o p h =
    let (e, f) = odd_power m n a b o p (half (m * 2 ^ a) (n * 2 ^ b) (sym (twice_power m a) ∙ h ∙ twice_power n b)) in (e, ap suc f)

-- the power of two above the fraction's line, and the one below it
abbrev over : ℤ → ℕ
over (pos a) = a
over (negsuc a) = 0

abbrev under : ℤ → ℕ
under (pos a) = 0
under (negsuc a) = suc a

up_power : (e : ℤ) → up e ≡ 2 ^ over e
up_power (pos a) = refl
up_power (negsuc a) = refl

down_power : (e : ℤ) → down e ≡ 2 ^ under e
down_power (pos a) = refl
down_power (negsuc a) = refl

one_power : (m : ℕ) (e d : ℤ) → m * up e * down d ≡ m * 2 ^ (over e + under d)
one_power m e d = rw (up_power e, down_power d, pow-add 2 (over e) (under d)) (mul_assoc m (2 ^ over e) (2 ^ under d))

same_exponent : (e d : ℤ) → over e + under d ≡ over d + under e → e ≡ d
same_exponent (pos a) (pos b) h = ap pos (omega arith)
same_exponent (pos a) (negsuc b) h = absurd (omega arith)
same_exponent (negsuc a) (pos b) h = absurd (omega arith)
same_exponent (negsuc a) (negsuc b) h = ap negsuc (omega arith)

-- ---- a float of the format

is_odd : (s : Bool) (m : ℕ) (e : ℤ) → T (fits binary32 (fin s (suc m) e)) → suc m % 2 ≡ 1
unfolding fits
is_odd s m e t =
    let odd = eqb (suc m % 2) 1 in
    let short = odd && ltb (suc m) (2 ^ prec binary32) in
    let fine = short && leb (down e) (2 ^ low binary32) in
    eqb→eq (suc m % 2) 1 (and_l odd _ (and_l short _ (and_l fine _ t)))

is_zero : (s : Bool) (m : ℕ) (e : ℤ) → Taken (fin s m e) → m ≡ 0 → fin s m e ≡ positive_zero
is_zero s m e (p, q) z = let r = plus_accepted binary32 (fin s m e) p q in sym (rw (eq-eqb m 0 z) at r)

no_part : (m : ℕ) (e d : ℤ) → m * up e * down d ≡ 0 → m ≡ 0
no_part zero e d h = refl
no_part (suc m) e d h = absurd (omega (arith, mul-pos (mul-pos (zero-lt-suc m) (up_pos e)) (down_pos d)))

same_float : (s t : Bool) (m n : ℕ) (e d : ℤ) → Taken (fin s m e) → Taken (fin t n d) → m * up e * down d ≡ n * up d * down e → (s ≡ t) ⊎ (m * up e * down d ≡ 0) → fin s m e ≡ fin t n d
same_float s t zero n e d p q h c = is_zero s zero e p refl ∙ sym (is_zero t n d q (no_part n d e (sym h ∙ rw (zero-mul (up e)) (zero-mul (down d)))))
same_float s t (suc m) zero e d p q h c = absurd (omega (arith, no_part (suc m) e d (h ∙ rw (zero-mul (up d)) (zero-mul (down e)))))
same_float s t (suc m) (suc n) e d p q h c =
    let (k, l) = odd_power (suc m) (suc n) (over e + under d) (over d + under e) (is_odd s m e p.0) (is_odd t n d q.0) (sym (one_power (suc m) e d) ∙ h ∙ one_power (suc n) d e) in
    let r = same_exponent e d l in
    ⊎_elim (λ (o : s ≡ t). λ i. fin (o i) (k i) (r i)) (λ o. absurd (omega (arith, no_part (suc m) e d o))) c

pub rate_told : Told rate Taken
unfolding le lt eq
rate_told nan y p q h k = absurd (false≢true p.1)
rate_told (inf s) y p q h k = absurd (false≢true p.1)
rate_told (fin s m e) nan p q h k = absurd (false≢true q.1)
rate_told (fin s m e) (inf t) p q h k = absurd (false≢true q.1)
rate_told (fin s m e) (fin t n d) p q h k =
    let a = m * up e * down d in
    let b = n * up d * down e in
    ⊎_elim (λ f. absurd (one_way s t a b f k)) (λ f. same_float s t m n e d p q (eqb-true a b (both (eqb a b) _ f).0) (same_sign s t a b f)) (either (below s a t b) (level s a t b) h)
