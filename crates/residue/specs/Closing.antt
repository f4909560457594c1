-- Why only the band is counted: "pixels that a closing can't reach past the edge from" (02, 3/13), over the stages and plans of morph/specs/Picture.antt and any order.
use Rattle.std.specs.Prelude.{◌≡◌, ℕ, ◌+◌, ◌≤◌, ◌<◌}
use Rattle.morph.specs.Order.{Order}
use Rattle.morph.specs.Picture.{Picture, pixel_at, Stage, erosion, dilation}
use Rattle.laws.specs.Laws.{Sized}

-- the window of a stage at row y and column x is not cut: all of it lies on a picture of W columns and H rows
pub record Uncut {A : Type 0} (S : Stage A) (W H y x : ℕ) : Type 0 where
  pub left : S.back ≤ x
  pub right : x + S.ahead < W
  pub up : S.above ≤ y
  pub down : y + S.below < H

-- no window of the closing is cut that its value at (x, y) rests on: not the erosion's there, and not the dilation's at any pixel under that
pub record ClosingUncut {A : Type 0} (O : Order A) (a b c d W H y x : ℕ) : Type 0 where
  pub eroded : Uncut (erosion O a b c d) W H y x
  pub dilated : (y' x' : ℕ) → y ≤ y' + c → y' ≤ y + d → x ≤ x' + a → x' ≤ x + b → Uncut (dilation O a b c d) W H y' x'

-- p, of W columns and H rows, is cut out of q: its row 0 is q's row v, and its column 0 is q's column h
pub record CutOut {A : Type 0} (O : Order A) (W H W' H' v h : ℕ) (p q : Picture A) : Type 0 where
  pub sized : Sized W H p
  pub larger : Sized W' H' q
  pub low : v + H ≤ H'
  pub right : h + W ≤ W'
  pub same : (y x : ℕ) → y < H → x < W → pixel_at O p y x ≡ pixel_at O q (v + y) (h + x)
