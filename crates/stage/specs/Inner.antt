-- Inner: only contracts of inner functions, and proofs, cite what stands here; no promise of a public call is made of it.
-- One stage's own step in lent memory: what it makes of its queues and of the row, and its comparisons.
use Rattle.std.specs.Prelude.{◌≡◌, List, [], ℕ, ◌+◌, ◌-◌, ◌≤◌, ◌<◌, length, get_or}
use Rattle.morph.specs.Order.{reach_back, ahead_of}
use Rattle.morph.specs.Picture.{Picture, apply_stage}
use Rattle.morph.specs.Plan.{stage_cost}
use Rattle.sample.specs.Samples.{Samples}
use Rattle.row.specs.Inner.{Across}
use Rattle.plan_record.specs.declared.Stage.{Stage}
use Rattle.plan_record.specs.Plan.{filter_of, size_of, below_of}
use Rattle.memory.specs.Memory.{Memory, Whole, StageHolds}
use Rattle.columns.specs.Inner.{Lent, RowRead}

module _ {A : Type 0} (K : Samples A) where
  -- The stage's row t has gone across, and each column has read its pixel of what came of it.
  pub record RowTaken (s : Stage) (t : ℕ) (M : Memory A) (row : List A) (M' : Memory A) (row' : List A) (comparisons : ℕ) : Type 0 where
    pub across : ℕ
    pub down : ℕ
    pub sum : comparisons ≡ across + down
    pub filtered : Across K s.kind (reach_back s.kind s.left s.right) (ahead_of s.kind s.left s.right) row row' across
    pub read :
        RowRead K s.kind (size_of s) t row' M.values M.positions M.starts M.lengths M'.values M'.positions M'.starts M'.lengths down

  -- The stage's own step t, over rows of W pixels of a picture of H rows. Its memory stays as large and its records as a step takes them. For every picture whose first t
  -- steps could have left this memory, and whose row t is the row given while there are rows: the queues are those after one step more, and the comparisons are
  -- document 01's.
  pub record StageMoved (s : Stage) (H t : ℕ) (M : Memory A) (row : List A) (M' : Memory A) (row' : List A) (comparisons : ℕ) : Type 0 where
    pub values_long : length M'.values ≡ length M.values
    pub lent : Lent (size_of s) (length row) M'.positions M'.starts M'.lengths
    pub row_long : length row' ≡ length row
    pub few : comparisons ≤ 516096
    pub told :
        (p : Picture A) → Whole K (length row) H p → StageHolds K s (length row) p t M → (t < H → row ≡ get_or p t [])
        → StageHolds K s (length row) p (t + 1) M' × (comparisons ≡ stage_cost (filter_of K.order s) (length row) p t)

  -- and the row that comes out is the stage's row t - F, where that is due
  pub record StageStep (s : Stage) (H t : ℕ) (M : Memory A) (row : List A) (M' : Memory A) (row' : List A) (comparisons : ℕ) : Type 0 where
    pub moved : StageMoved s H t M row M' row' comparisons
    pub comes :
        (p : Picture A) → Whole K (length row) H p → StageHolds K s (length row) p t M → (t < H → row ≡ get_or p t [])
        → below_of s ≤ t → t < H + below_of s → row' ≡ get_or (apply_stage (filter_of K.order s) p) (t - below_of s) []
