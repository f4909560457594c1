-- Inner: only contracts of inner functions, and proofs, cite what stands here; no promise of a public call is made of it.
-- What the code of a stage that tells origins does: the stage's own step, the columns of its row kept, and the fronts with their origins.
use Rattle.std.specs.Prelude.{◌≡◌, ◌≢◌, true, cond, List, [], ℕ, ◌+◌, ◌-◌, ◌*◌, ◌%◌, ◌≤◌, ◌<◌, min, leb, length, get_or}
use Rattle.morph.specs.Order.{order_of, reach_back, ahead_of}
use Rattle.morph.specs.Lists.{Each, tabulate}
use Rattle.morph.specs.Cell.{age_of}
use Rattle.morph.specs.Picture.{Picture}
use Rattle.morph.specs.Origin.{positions_line}
use Rattle.sample.specs.Samples.{Samples}
use Rattle.plan_record.specs.declared.Stage.{Stage}
use Rattle.plan_record.specs.Plan.{filter_of, size_of}
use Rattle.memory.specs.Memory.{Memory, cells_at, Whole}
use Rattle.columns.specs.Inner.{front_at}
use Rattle.stage.specs.Inner.{RowTaken, StageMoved}
use Rattle.origin.specs.Kept.{ColumnsKept, columns_put}

-- ---- the fronts

-- the remainder of (s - a) by P, for an age a of 1 to P
unfoldable pub slot_of : ℕ → ℕ → ℕ → ℕ
slot_of P s a = cond (leb a (s % P)) (s % P - a) (s % P + P - a)

-- What is told of a front whose cell keeps r, s being the steps done: the row, and the column in x that is kept of it. Where its age is over P or over s, as no run leaves it, these are s and 0.
unfoldable pub told_row : ℕ → ℕ → ℕ → ℕ
told_row P s r = cond (leb (age_of s r) (min P s)) (s - age_of s r) s

unfoldable pub told_column : ℕ → ℕ → ℕ → List ℕ → ℕ → ℕ → ℕ
told_column P W s columns x r = cond (leb (age_of s r) (min P s)) (get_or columns (slot_of P s (age_of s r) * W + x) 0) 0

-- the position in the cell of column x's start
unfoldable pub front_kept : ℕ → List ℕ → List ℕ → ℕ → ℕ
front_kept P positions starts x = get_or positions (x * P + get_or starts x 0) 0

module _ {A : Type 0} (K : Samples A) where
  -- the fronts of W columns: their values, their rows and their columns
  pub record FrontsTold (P W s : ℕ) (values : List A) (positions columns starts : List ℕ) (out : List A) (rows cols : List ℕ) : Type 0 where
    pub pixels : out ≡ tabulate W (front_at K P values starts)
    pub rows_told : rows ≡ tabulate W (λ x. told_row P s (front_kept P positions starts x))
    pub columns_told : cols ≡ tabulate W (λ x. told_column P W s columns x (front_kept P positions starts x))

  -- ---- a step

  -- The stage's row t has gone across and down into the columns, and the columns that its across-results came from are kept.
  pub record OriginsTaken (s : Stage) (t : ℕ) (M : Memory A) (columns : List ℕ) (row : List A) (M' : Memory A) (columns' : List ℕ) (row' : List A) (comparisons : ℕ) : Type 0 where
    pub plain : RowTaken K s t M row M' row' comparisons
    pub columns_long : length columns' ≡ length columns
    pub beside : (j : ℕ) → j ≢ t % size_of s → cells_at (length row) j columns' ≡ cells_at (length row) j columns
    pub here :
        Each (λ a. K.good a ≡ true) row
        → cells_at (length row) (t % size_of s) columns' ≡ positions_line (order_of s.kind K.order) (reach_back s.kind s.left s.right) (ahead_of s.kind s.left s.right) row
    pub put :
        Each (λ a. K.good a ≡ true) row
        → columns' ≡ columns_put (length row) (t % size_of s) (positions_line (order_of s.kind K.order) (reach_back s.kind s.left s.right) (ahead_of s.kind s.left s.right) row) columns

  -- The stage's own step t: its queues go on, and so do the columns that are kept.
  pub record OriginsMoved (s : Stage) (H t : ℕ) (M : Memory A) (columns : List ℕ) (row : List A) (M' : Memory A) (columns' : List ℕ) (row' : List A) (comparisons : ℕ) : Type 0 where
    pub plain : StageMoved K s H t M row M' row' comparisons
    pub columns_long : length columns' ≡ length columns
    pub put :
        t < H → Each (λ a. K.good a ≡ true) row
        → columns' ≡ columns_put (length row) (t % size_of s) (positions_line (order_of s.kind K.order) (reach_back s.kind s.left s.right) (ahead_of s.kind s.left s.right) row) columns
    pub stay : H ≤ t → columns' ≡ columns
    pub keeps :
        (p : Picture A) → Whole K (length row) H p → (t < H → row ≡ get_or p t []) → ColumnsKept (filter_of K.order s) (size_of s) (length row) p t columns
        → ColumnsKept (filter_of K.order s) (size_of s) (length row) p (t + 1) columns'
