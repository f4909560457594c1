-- A kind of samples, as the layers above take it: its order, how the code compares two of them, which are accepted, what an accepted one is read as, and its zero.
-- Grey bytes and rates are the two; every law above is said over this record.
use Rattle.std.specs.Prelude.{◌≡◌, refl, Bool, true, false, cond, List, [], ◌∷◌, ℕ, suc, eqb, pos, Float}
use Rattle.std.proofs.Common.{◌∙◌}
use Rattle.morph.specs.declared.Kind.{Kind}
use Rattle.morph.specs.Order.{Order, order_of}
use Rattle.morph.specs.declared.Kind.TheVariants.{Erosion, Dilation}
use Rattle.morph.specs.Grey.{grey}
use Rattle.morph.specs.Rate.{rate, plus_zero_of}
use Rattle.sample.specs.Rate.{passes_of}
use Rattle.std.specs.Float.{nan, inf, fin}
use Rattle.std.specs.Float.Ieee.Scale.{finite}

pub record Samples (A : Type 0) : Type 0 where
  pub order : Order A
  pub passes : Kind → A → A → Bool
  pub good : A → Bool
  pub taken : A → A
  pub zero : A
  pub agrees : (kind : Kind) (new old : A) → good new ≡ true → good old ≡ true → passes kind new old ≡ (order_of kind order).le old new
  pub keeps : (a : A) → good a ≡ true → good (taken a) ≡ true

-- "8 | a pixel is not finite; the first such column is named": the number of columns before it, and of all columns where each is accepted
abbrev pub first_bad : {A : Type 0} → Samples A → List A → ℕ
first_bad K [] = 0
first_bad K (a ∷ row) = cond (K.good a) (suc (first_bad K row)) 0

-- every byte is accepted, as itself
abbrev pub greys : Samples ℕ
greys = record {
  order = grey;
  passes = λ kind new old. (order_of kind grey).le old new;
  good = λ a. true;
  taken = λ a. a;
  zero = 0;
  agrees = λ kind new old p q. refl;
  keeps = λ a p. refl;
}

-- the two laws that the rates' record carries
pub passes_order : (kind : Kind) (new old : Float) → finite new ≡ true → finite old ≡ true → passes_of kind new old ≡ (order_of kind rate).le old new
passes_order Erosion new old p q = cc
passes_order Dilation new old p q = cc

pub finite_plus : (x : Float) → finite (plus_zero_of x) ≡ finite x
finite_plus nan = refl
finite_plus (inf s) = refl
finite_plus (fin s m e) = go (eqb m 0)
  where
    go : (b : Bool) → finite (cond b (fin false 0 (pos 0)) (fin s m e)) ≡ true
    go true = refl
    go false = refl

-- "accepted pixels are finite. A negative zero is read as positive zero .. Order is the floats' own comparison."
abbrev pub rates : Samples Float
rates = record { order = rate; passes = passes_of; good = finite; taken = plus_zero_of; zero = fin false 0 (pos 0); agrees = passes_order; keeps = λ a p. finite_plus a ∙ p }
