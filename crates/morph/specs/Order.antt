-- What the filter asks of its samples: an order, and nothing else.
-- Document 01: "Stated once over both sample kinds: the filter uses only the order."
use Rattle.std.specs.Prelude.{◌≡◌, Bool, true, false, ℕ, zero, suc}
use Rattle.morph.specs.declared.Kind.{Kind}
use Rattle.morph.specs.declared.Kind.TheVariants.{Erosion, Dilation}

-- `le a b`: b equals or passes a. `blank` stands where no sample is; no answer turns on it.
pub record Order (A : Type 0) : Type 0 where
  pub le : A → A → Bool
  pub total : (a b : A) → le a b ≡ false → le b a ≡ true
  pub trans : (a b c : A) → le a b ≡ true → le b c ≡ true → le a c ≡ true
  pub blank : A

-- Dilation looks for the largest, erosion for the smallest: the largest in the order turned round.
module _ {A : Type 0} where
  abbrev pub le_of : Kind → (A → A → Bool) → A → A → Bool
  le_of Erosion le a b = le b a
  le_of Dilation le a b = le a b

  abbrev pub total_of : (kind : Kind) (O : Order A) (a b : A) → le_of kind O.le a b ≡ false → le_of kind O.le b a ≡ true
  total_of Erosion O a b h = O.total b a h
  total_of Dilation O a b h = O.total a b h

  abbrev pub trans_of : (kind : Kind) (O : Order A) (a b c : A) → le_of kind O.le a b ≡ true → le_of kind O.le b c ≡ true → le_of kind O.le a c ≡ true
  trans_of Erosion O a b c p q = O.trans c b a q p
  trans_of Dilation O a b c p q = O.trans a b c p q

  abbrev pub order_of : Kind → Order A → Order A
  order_of kind O = record { le = le_of kind O.le; total = total_of kind O; trans = trans_of kind O; blank = O.blank }

-- "0 (erosion) or 1 (dilation)"
abbrev pub kind_of : ℕ → Kind
kind_of zero = Erosion
kind_of (suc n) = Dilation

-- How far a window reaches back and ahead, of the extents a (left or up) and b (right or down).
-- "For erosion across B = a, F = b; for dilation across B = b, F = a; down likewise with c and d."
abbrev pub reach_back : Kind → ℕ → ℕ → ℕ
reach_back Erosion a b = a
reach_back Dilation a b = b

abbrev pub ahead_of : Kind → ℕ → ℕ → ℕ
ahead_of Erosion a b = b
ahead_of Dilation a b = a
