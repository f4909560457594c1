-- A picture, the stages that it goes through, and a plan of them. A stage has its order inside it, so that a plan is a plain list.
use Rattle.std.specs.Prelude.{◌≡◌, ℕ, zero, suc, ◌+◌, ◌-◌, ◌≤◌, ◌<◌, length, get_or}
use mathlib.Core.List.{List, [], ◌∷◌, ◌++◌, map, flatten}
use Rattle.std.proofs.Math.Option.{Option}
use Rattle.std.proofs.Math.Seq.{slice}
use Rattle.morph.specs.declared.Kind.{Kind}
use Rattle.morph.specs.declared.Kind.TheVariants.{Erosion, Dilation}
use Rattle.morph.specs.Order.{Order, order_of, reach_back, ahead_of}
use Rattle.morph.specs.Lists.{tabulate, Each}
use Rattle.morph.specs.Line.{best, best_at, filter_line, output_at}

-- the rows, "top to bottom"
abbrev pub Picture : Type 0 → Type 0
Picture A = List (List A)

-- the pixel in row y and column x
abbrev pub pixel_at : {A : Type 0} → Order A → Picture A → ℕ → ℕ → A
pixel_at O p y x = get_or (get_or p y []) x O.blank

-- a picture of width w
abbrev pub Wide : {A : Type 0} → ℕ → Picture A → Type 0
Wide w p = Each (λ r. length r ≡ w) p

-- ---- stages

-- A stage looks `back` and `ahead` across, and `above` and `below` down, for the greatest in its order.
pub record Stage (A : Type 0) : Type 0 where
  pub order : Order A
  pub back : ℕ
  pub ahead : ℕ
  pub above : ℕ
  pub below : ℕ

-- "A rectangle has four extents ..: left a, right b, up c, down d." For dilation "the rectangle is reflected, as the pair needs."
abbrev pub stage_of : {A : Type 0} → Order A → Kind → ℕ → ℕ → ℕ → ℕ → Stage A
stage_of O kind a b c d =
    record { order = order_of kind O; back = reach_back kind a b; ahead = ahead_of kind a b; above = reach_back kind c d; below = ahead_of kind c d }

abbrev pub erosion : {A : Type 0} → Order A → ℕ → ℕ → ℕ → ℕ → Stage A
erosion O a b c d = stage_of O Erosion a b c d

abbrev pub dilation : {A : Type 0} → Order A → ℕ → ℕ → ℕ → ℕ → Stage A
dilation O a b c d = stage_of O Dilation a b c d

-- (x', y') is on the picture, over columns x - l to x + r and rows y - u to y + d
pub record Covers {A : Type 0} (l r u d : ℕ) (p : Picture A) (x y x' y' : ℕ) : Type 0 where
  pub left : x ≤ x' + l
  pub right : x' ≤ x + r
  pub up : y ≤ y' + u
  pub down : y' ≤ y + d
  pub row : y' < length p
  pub column : x' < length (get_or p y' [])

-- each pixel of p, as f gives it by its row and column
abbrev pub pixels : {A : Type 0} → Picture A → (ℕ → ℕ → A) → Picture A
pixels p f = tabulate (length p) (λ y. tabulate (length (get_or p y [])) (f y))

module _ {A : Type 0} (S : Stage A) where
  -- the rows of p under the rectangle at row y, and the pixels under it at (x, y), both cut to the picture
  abbrev pub rows_at : Picture A → ℕ → Picture A
  rows_at p y = slice (y - S.above) (y + S.below + 1) p

  abbrev pub under : Picture A → ℕ → ℕ → List A
  under p y x = flatten (map (slice (x - S.back) (x + S.ahead + 1)) (rows_at p y))

  -- "Erosion at (x, y): the smallest input value over columns x-a to x+b and rows y-c to y+d. Dilation at (x, y): the largest over columns x-b to x+a and rows y-d to y+c."
  unfoldable pub apply_stage : Picture A → Picture A
  apply_stage p = pixels p (λ y x. best S.order (under p y x))

  -- "A stage may be done across first and then down": `separable` proves that it gives the same
  unfoldable pub across : Picture A → Picture A
  across p = map (filter_line S.order S.back S.ahead) p

  abbrev pub column : ℕ → Picture A → List A
  column x p = map (λ r. get_or r x S.order.blank) p

  unfoldable pub down : Picture A → Picture A
  down p = pixels p (λ y x. best_at S.order S.above S.below (column x p) y)

-- ---- plans

module _ {A : Type 0} where
  -- "a plan equals its stages applied to whole pictures one after another"
  unfoldable pub apply_plan : List (Stage A) → Picture A → Picture A
  apply_plan [] p = p
  apply_plan (S ∷ Ss) p = apply_plan Ss (apply_stage S p)

  -- "The plan's look-ahead D is the sum of the stages' F down."
  unfoldable pub look_ahead_of : List (Stage A) → ℕ
  look_ahead_of [] = 0
  look_ahead_of (S ∷ Ss) = S.below + look_ahead_of Ss

  -- "output row k comes at step k + D and at no other"
  unfoldable pub row_at : List (Stage A) → Picture A → ℕ → Option (List A)
  row_at Ss p t = output_at (length p) (λ k. get_or (apply_plan Ss p) k []) (look_ahead_of Ss) t

  -- ---- named plans

  -- "Opening: erosion, then dilation, same rectangle. Closing: dilation, then erosion."
  abbrev pub opening : Order A → ℕ → ℕ → ℕ → ℕ → List (Stage A)
  opening O a b c d = erosion O a b c d ∷ dilation O a b c d ∷ []

  abbrev pub closing : Order A → ℕ → ℕ → ℕ → ℕ → List (Stage A)
  closing O a b c d = dilation O a b c d ∷ erosion O a b c d ∷ []

  -- "The alternate sequential filter of order n ..: for i = 1 to n, opening then closing with all extents i; 4n stages."
  unfoldable pub alternating : Order A → ℕ → List (Stage A)
  alternating O zero = []
  alternating O (suc n) = alternating O n ++ opening O (suc n) (suc n) (suc n) (suc n) ++ closing O (suc n) (suc n) (suc n) (suc n)
