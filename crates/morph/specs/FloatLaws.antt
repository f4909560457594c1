-- That the floats' own comparison is total and transitive on finite values: the two laws that the order of specs/Rate.antt carries.
-- Of its definitions a reader has to believe one, `float_le`, the comparison of the order. By which idea: x ≤ y of two fractions, cross-multiplied.
use Rattle.std.specs.Prelude.{◌≡◌, refl, Bool, true, false, not, ◌&&◌, ◌||◌, ℕ, ◌+◌, ◌*◌, ◌≤◌, ◌<◌, leb, ltb, eqb, Float}
use Rattle.std.proofs.Common.{sym, zero-mul, mul-le-mul_right, le_of_mul-le-mul_right, arith, leb-true, leb-false, le-leb, ltb-true, ltb-false, eqb-true, eq-eqb}
use Rattle.std.proofs.lemmas.Bool.{false≢true, lt-leb, eqb-false}
use Rattle.std.specs.Float.{nan, inf, fin}
use Rattle.std.specs.Float.Ieee.{up, down, below, level, le}
use Rattle.std.specs.Float.Ieee.Scale.{finite}
use Rattle.std.specs.Float.Ieee.Positive.{den, den_pos}

split : {C : Type 0} (b : Bool) → (b ≡ true → C) → (b ≡ false → C) → C
split true f g = f refl
split false f g = g refl

-- the floats' own comparison; a value that is not finite, which no accepted pixel is, counts as below every finite one
abbrev pub float_le : Float → Float → Bool
float_le x y = not (finite x) || (finite y && le x y)

ruleset tests = (arith, ltb-true, ltb-false, leb-true, leb-false, eqb-true, eqb-false)

-- a, where b says that it stands on this side of 0
abbrev side : Bool → ℕ → ℕ
side true a = a
side false a = 0

side_mul : (b : Bool) (a d : ℕ) → side b (a * d) ≡ side b a * d
side_mul true a d = refl
side_mul false a d = sym (zero-mul d)

-- ±a ≤ ±b, by what stands on the positive and on the negative side
test_le : (s t : Bool) (a b : ℕ) → (below s a t b || level s a t b) ≡ leb (side (not s) a + side t b) (side (not t) b + side s a)
test_le false false a b =
    split (ltb a b) (λ p. cc (le-leb (a + 0) (b + 0) (omega tests))) (λ p. split (eqb a b) (λ q. cc (le-leb (a + 0) (b + 0) (omega tests))) (λ q. cc (lt-leb (a + 0) (b + 0) (omega tests))))
test_le true true a b =
    split (ltb b a) (λ p. cc (le-leb (0 + b) (0 + a) (omega tests))) (λ p. split (eqb a b) (λ q. cc (le-leb (0 + b) (0 + a) (omega tests))) (λ q. cc (lt-leb (0 + b) (0 + a) (omega tests))))
test_le false true a b =
    split (eqb a b) (λ p. split (eqb a 0) (λ q. cc (le-leb (a + b) (0 + 0) (omega tests))) (λ q. cc (lt-leb (a + b) (0 + 0) (omega tests)))) (λ p. cc (lt-leb (a + b) (0 + 0) (omega tests)))
test_le true false a b =
    split (ltb 0 (a + b)) (λ p. cc (le-leb (0 + 0) (b + a) (omega tests))) (λ p. cc (eq-eqb a b (omega tests), eq-eqb a 0 (omega tests), le-leb (0 + 0) (b + a) (omega tests)))

-- x / y of two finite values, cross-multiplied: what stands on x's side where x ≤ y
abbrev over0 : Float → ℕ
over0 nan = 0
over0 (inf s) = 0
over0 (fin s m e) = side (not s) (m * up e)

abbrev under0 : Float → ℕ
under0 nan = 0
under0 (inf s) = 0
under0 (fin s m e) = side s (m * up e)

abbrev left : Float → Float → ℕ
left x y = over0 x * den y + under0 y * den x

le_left : (x y : Float) → finite x ≡ true → finite y ≡ true → le x y ≡ leb (left x y) (left y x)
unfolding le
le_left nan y p q = absurd (false≢true p)
le_left (inf s) y p q = absurd (false≢true p)
le_left (fin s m e) nan p q = absurd (false≢true q)
le_left (fin s m e) (inf t) p q = absurd (false≢true q)
le_left (fin s m e) (fin t n d) p q = simp (← side_mul) (test_le s t (m * up e * down d) (n * up d * down e))

pub float_total : (x y : Float) → float_le x y ≡ false → float_le y x ≡ true
float_total x y h =
    split (finite x)
    (λ p. split (finite y)
    (λ q. let e : leb (left x y) (left y x) ≡ false = cc (le_left x y p q) in cc (le_left y x q p, le-leb (left y x) (left x y) (omega tests)))
    (λ q. cc))
    (λ p. cc)

cross : (a b c d e f x y z : ℕ) → 0 < y → a * y + d * x ≤ b * x + c * y → b * z + f * y ≤ e * y + d * z → a * z + f * x ≤ e * x + c * z
cross a b c d e f x y z h p q = le_of_mul-le-mul_right (omega (arith, mul-le-mul_right z p, mul-le-mul_right x q)) h

pub float_trans : (x y z : Float) → float_le x y ≡ true → float_le y z ≡ true → float_le x z ≡ true
float_trans x y z h k =
    split (finite x)
    (λ p. split (finite y)
    (λ q. split (finite z)
    (λ r.
    let e : leb (left x y) (left y x) ≡ true = cc (le_left x y p q) in
    let f : leb (left y z) (left z y) ≡ true = cc (le_left y z q r) in
    cc (le_left x z p r, le-leb (left x z) (left z x) (cross _ _ _ (under0 y) _ _ _ (den y) _ (den_pos y) (leb-true _ _ e) (leb-true _ _ f))))
    (λ r. cc))
    (λ q. cc))
    (λ p. cc)
