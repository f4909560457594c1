-- Filtering twice: what a plan, an opening or a dilation that is done again does to a picture. Stages and plans are those of morph/specs/Picture.antt; the order is any.
use Rattle.std.specs.Prelude.{◌≡◌, true, List, ◌++◌, ℕ, ◌+◌, ◌<◌, T, Float, length}
use Rattle.std.specs.Float.{binary32}
use Rattle.std.specs.Float.Ieee.{fits}
use Rattle.morph.specs.Order.{Order}
use Rattle.morph.specs.Picture.{Picture, pixel_at, Wide, Stage, erosion, dilation, apply_stage, apply_plan, opening, closing, alternating}
use Rattle.sample.specs.Rate.{accepted}
use Rattle.plan_record.specs.declared.Plan.{Plan}
use Rattle.plan_record.specs.Plan.{stages_of}

-- a picture of W columns and H rows
pub record Sized {A : Type 0} (W H : ℕ) (p : Picture A) : Type 0 where
  pub wide : Wide W p
  pub high : length p ≡ H

-- "nowhere above": of two pictures of W columns and H rows, p's value is at most q's at each pixel
abbrev pub Below : {A : Type 0} → Order A → ℕ → ℕ → Picture A → Picture A → Type 0
Below O W H p q = (y x : ℕ) → y < H → x < W → O.le (pixel_at O p y x) (pixel_at O q y x) ≡ true

-- values that the order tells apart: two of them that are each at most the other are equal. Bytes are such, and floats as they are read.
abbrev pub Told : {A : Type 0} → Order A → (A → Type 0) → Type 0
Told {A} O P = (a b : A) → P a → P b → O.le a b ≡ true → O.le b a ≡ true → a ≡ b

-- a float as it is read: 32-bit, finite, and no negative zero
abbrev pub Taken : Float → Type 0
Taken x = T (fits binary32 x) × (accepted x ≡ true)

-- a plan done twice equals it done once
abbrev pub TwiceIsOnce : {A : Type 0} → List (Stage A) → Picture A → Type 0
TwiceIsOnce Ss p = apply_plan Ss (apply_plan Ss p) ≡ apply_plan Ss p

-- "Archives get filtered twice; staff ask whether that harms them." The answer, for a picture p of W columns and H rows and every rectangle.
pub record Twice {A : Type 0} (O : Order A) (W H : ℕ) (p : Picture A) : Type 0 where
  pub sized : Sized W H p
  -- "an opening done twice equals it done once, and so for closing"
  pub opening_twice : (a b c d : ℕ) → TwiceIsOnce (opening O a b c d) p
  pub closing_twice : (a b c d : ℕ) → TwiceIsOnce (closing O a b c d) p
  -- "the opened picture is nowhere above the input and the closed one nowhere below"
  pub opened_below : (a b c d : ℕ) → Below O W H (apply_plan (opening O a b c d) p) p
  pub closed_above : (a b c d : ℕ) → Below O W H p (apply_plan (closing O a b c d) p)
  -- "an input nowhere above another gives an output nowhere above, for every plan"
  pub monotone : (plan : Plan) (q : Picture A) → Sized W H q → Below O W H p q → Below O W H (apply_plan (stages_of O plan) p) (apply_plan (stages_of O plan) q)
  -- "a dilation followed by another equals a single one whose extents are the sums, where these are at most 31": no plan can say more than 31, and the law needs no bound
  pub dilation_twice : (a b c d a' b' c' d' : ℕ) → apply_stage (dilation O a' b' c' d') (apply_stage (dilation O a b c d) p) ≡ apply_stage (dilation O (a + a') (b + b') (c + c') (d + d')) p
  -- Not asked for: the same of erosions; an opening and then a closing, or a closing and then an opening, by any two rectangles; the alternate sequential filter of any order.
  pub erosion_twice : (a b c d a' b' c' d' : ℕ) → apply_stage (erosion O a' b' c' d') (apply_stage (erosion O a b c d) p) ≡ apply_stage (erosion O (a + a') (b + b') (c + c') (d + d')) p
  pub opening_closing_twice : (a b c d a' b' c' d' : ℕ) → TwiceIsOnce (opening O a b c d ++ closing O a' b' c' d') p
  pub closing_opening_twice : (a b c d a' b' c' d' : ℕ) → TwiceIsOnce (closing O a b c d ++ opening O a' b' c' d') p
  pub alternating_twice : (n : ℕ) → TwiceIsOnce (alternating O n) p
