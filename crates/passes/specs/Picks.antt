-- Laws that the two kinds of samples carry (src/choice.rt): the order's own choice picks the greater of two; and so does the code's choice between two floats, among pixels as they are read.
use mathlib.Core.Path.{◌≡◌, refl, ◌∙◌}
use mathlib.Core.Bool.{Bool, true, false, not, ◌||◌, false≢true}
use mathlib.Core.Logic.{inl, inr}
use Prim.Native.Nat.{ℕ, ◌+◌, ◌*◌}
use native.Mathlib.Omega.{arith}
use borrow.Author.Tests.{ltb-true, ltb-false, eqb-true, eqb-false, eq-eqb}
use lib.Dec.{ltb}
use lib.Ieee.{Float, nan, inf, fin, up, down, below, level, lt, eq, le}
use lib.Ieee.Scale.{finite}
use Rattle.morph.specs.declared.Kind.{Kind}
use Rattle.morph.specs.declared.Kind.TheVariants.{Erosion, Dilation}
use Rattle.morph.specs.Order.{Order, order_of}
use Rattle.morph.specs.Line.{greater}
use Rattle.morph.specs.Rate.{rate}
use Rattle.morph.proofs.Lists.{split, both}
use Rattle.morph.proofs.Order.{rate_le}
use Rattle.sample.specs.Rate.{negative_zero}
use Rattle.laws.specs.Laws.{Taken}
use Rattle.passes.specs.Inner.{Any, Picks, pick_rate}

-- ---- any order

module _ {A : Type 0} (O : Order A) where
  at_least_itself : (a : A) → O.le a a ≡ true
  at_least_itself a = split (O.le a a) (λ p. p) (λ p. O.total a a p)

  pub greater_picks : Picks O Any (greater O)
  greater_picks = record {
    one = λ a b p q. split (O.le a b) (λ h. inr (rw h refl)) (λ h. inl (rw h refl));
    first = λ a b p q. split (O.le a b) (λ h. rw h h) (λ h. rw h (at_least_itself a));
    second = λ a b p q. split (O.le a b) (λ h. rw h (at_least_itself b)) (λ h. rw h (O.total a b h));
  }

-- ---- floats

ruleset tests = (arith, ltb-true, ltb-false, eqb-true, eqb-false)

not_below : (s t : Bool) (a b : ℕ) → below s a t b ≡ false → (below t b s a || level t b s a) ≡ true
not_below false false a b h = split (ltb b a) (λ p. rw p refl) (λ p. let e : b ≡ a = omega tests in rw (p, eq-eqb b a e) refl)
not_below true true a b h = split (ltb a b) (λ p. rw p refl) (λ p. let e : b ≡ a = omega tests in rw (p, eq-eqb b a e) refl)
not_below false true a b h = split (ltb 0 (b + a)) (λ p. rw p refl) (λ p. let e : b ≡ a = omega tests in let z : b ≡ 0 = omega tests in rw (p, eq-eqb b a e, eq-eqb b 0 z) refl)
not_below true false a b h = let e : b ≡ a = omega tests in let z : b ≡ 0 = omega tests in rw (eq-eqb b a e, eq-eqb b 0 z) refl

lt_le : (x y : Float) → lt x y ≡ true → le x y ≡ true
unfolding le
lt_le x y h = rw h refl

not_lt : (x y : Float) → finite x ≡ true → finite y ≡ true → lt x y ≡ false → le y x ≡ true
unfolding le lt eq
not_lt nan y p q h = absurd (false≢true p)
not_lt (inf s) y p q h = absurd (false≢true p)
not_lt (fin s m e) nan p q h = absurd (false≢true q)
not_lt (fin s m e) (inf t) p q h = absurd (false≢true q)
not_lt (fin s m e) (fin t n d) p q h = not_below s t (m * up e * down d) (n * up d * down e) h

-- a float as it is read is finite
taken_finite : (x : Float) → Taken x → finite x ≡ true
taken_finite x t = (both (finite x) (not (negative_zero x)) t.1).0

itself : (x : Float) → finite x ≡ true → le x x ≡ true
itself x p = split (lt x x) (λ h. lt_le x x h) (λ h. not_lt x x p p h)

-- by the order of the samples: b is taken where a is below it, and else a, which is not
module _ (a b : Float) (p : finite a ≡ true) (q : finite b ≡ true) where
  at_most : le a b ≡ true → rate.le a b ≡ true
  at_most h = rate_le a b p q ∙ h

pub rate_picks : (kind : Kind) → Picks (order_of kind rate) Taken (pick_rate kind)
rate_picks Erosion = record {
  one = λ a b p q. split (lt b a) (λ h. inr (rw h refl)) (λ h. inl (rw h refl));
  first = λ a b t u. let p = taken_finite a t in let q = taken_finite b u in split (lt b a) (λ h. rw h (at_most b a q p (lt_le b a h))) (λ h. rw h (at_most a a p p (itself a p)));
  second = λ a b t u. let p = taken_finite a t in let q = taken_finite b u in split (lt b a) (λ h. rw h (at_most b b q q (itself b q))) (λ h. rw h (at_most a b p q (not_lt b a q p h)));
}
rate_picks Dilation = record {
  one = λ a b p q. split (lt a b) (λ h. inr (rw h refl)) (λ h. inl (rw h refl));
  first = λ a b t u. let p = taken_finite a t in let q = taken_finite b u in split (lt a b) (λ h. rw h (at_most a b p q (lt_le a b h))) (λ h. rw h (at_most a a p p (itself a p)));
  second = λ a b t u. let p = taken_finite a t in let q = taken_finite b u in split (lt a b) (λ h. rw h (at_most b b q q (itself b q))) (λ h. rw h (at_most b a q p (not_lt a b p q h)));
}
