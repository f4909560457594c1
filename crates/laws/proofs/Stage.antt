-- What a stage gives at one pixel, by places and no longer by lists: it is an upper bound of the values that the window reaches, in the stage's order, and the least one.
-- By which idea: that a window reaches a place is six inequalities.
use mathlib.Core.Path.{◌≡◌, ap, ◌∙◌}
use mathlib.Core.Bool.{true}
use mathlib.Core.List.{List, []}
use Prim.Native.Nat.{ℕ, ◌+◌, ◌≤◌, ◌<◌}
use native.Mathlib.Omega.{arith}
use lib.ListN.{length, get_or}
use Rattle.morph.specs.Line.{best}
use Rattle.morph.specs.Picture.{Picture, pixel_at, Stage, Covers, under, apply_stage, apply_plan}
use Rattle.morph.proofs.Lists.{get_d_tabulate, each_get_d, in_place}
use Rattle.morph.proofs.Line.{best_in, best_greatest}
use Rattle.morph.proofs.Picture.{under_sound, under_complete, stage_wide, stage_length, plan_wide, plan_length}
use Rattle.laws.specs.Laws.{Sized}

module _ {A : Type 0} (W H : ℕ) where
  pub row_wide : (p : Picture A) → Sized W H p → (y : ℕ) → y < H → length (get_or p y []) ≡ W
  row_wide p z y h = each_get_d _ p y [] z.wide (rw z.high h)

  -- a stage and a plan keep the size
  pub sized_stage : (S : Stage A) (p : Picture A) → Sized W H p → Sized W H (apply_stage S p)
  sized_stage S p z = record { wide = stage_wide S W p z.wide; high = stage_length S p ∙ z.high }

  pub sized_plan : (Ss : List (Stage A)) (p : Picture A) → Sized W H p → Sized W H (apply_plan Ss p)
  sized_plan Ss p z = record { wide = plan_wide Ss W p z.wide; high = plan_length Ss p ∙ z.high }

module _ {A : Type 0} (S : Stage A) (W H : ℕ) (p : Picture A) (z : Sized W H p) where
  pub stage_pixel : (y x : ℕ) → y < H → x < W → pixel_at S.order (apply_stage S p) y x ≡ best S.order (under S p y x)
  unfolding apply_stage
  stage_pixel y x h k =
      let e = z.high in
      let w = row_wide W H p z y h in
      ap (λ l. get_or l x S.order.blank) (get_d_tabulate (length p) _ y [] (omega arith)) ∙ get_d_tabulate (length (get_or p y [])) _ x _ (omega arith)

  -- the window at row y and column x reaches row y' and column x' of the picture
  abbrev pub Reaches : ℕ → ℕ → ℕ → ℕ → Type 0
  Reaches y x y' x' = (y' < H) × (x' < W) × (x ≤ x' + S.back) × (x' ≤ x + S.ahead) × (y ≤ y' + S.above) × (y' ≤ y + S.below)

  covers : (y x y' x' : ℕ) → Reaches y x y' x' → Covers S.back S.ahead S.above S.below p x y x' y'
  covers y x y' x' (a, b, c, d, e, f) = record { left = c; right = d; up = e; down = f; row = rw z.high a; column = rw (row_wide W H p z y' a) b }

  pub stage_over : (y x : ℕ) → y < H → x < W → (y' x' : ℕ) → Reaches y x y' x' → S.order.le (pixel_at S.order p y' x') (pixel_at S.order (apply_stage S p) y x) ≡ true
  stage_over y x h k y' x' r = rw (stage_pixel y x h k) (best_greatest S.order (under S p y x) _ (under_complete S p x y x' y' (covers y x y' x' r)))

  pub stage_under : (v : A) (y x : ℕ) → y < H → x < W → ((y' x' : ℕ) → Reaches y x y' x' → S.order.le (pixel_at S.order p y' x') v ≡ true)
      → S.order.le (pixel_at S.order (apply_stage S p) y x) v ≡ true
  stage_under v y x h k g =
      let itself = covers y x y x (h, k, omega arith, omega arith, omega arith, omega arith) in
      let (n, some, _) = in_place S.order.blank (under S p y x) _ (under_complete S p x y x y itself) in
      let (x', y', c, e) = under_sound S p x y _ (best_in S.order (under S p y x) (omega (arith, some))) in
      let i : y' < H = omega (arith, c.row, z.high) in
      let j : x' < W = rw (row_wide W H p z y' i) at c.column in
      rw (stage_pixel y x h k, e) (g y' x' (i, j, c.left, c.right, c.up, c.down))
