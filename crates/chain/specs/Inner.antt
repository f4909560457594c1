-- Inner: only contracts of inner functions, and proofs, cite what stands here; no promise of a public call is made of it.
-- The stages of a plan on the memory lent: a stage owns the front of it, and the rest of the plan the rest, one look-ahead later.
use Rattle.std.specs.Prelude.{◌≡◌, Bool, true, List, [], map, ℕ, ◌+◌, ◌-◌, ◌*◌, ◌≤◌, ◌<◌, leb, length, get_or, take}
use Rattle.morph.specs.Lists.{Each}
use Rattle.morph.specs.Picture.{Picture, apply_plan}
use Rattle.morph.specs.Plan.{plan_cost}
use Rattle.sample.specs.Samples.{Samples}
use Rattle.plan_record.specs.declared.Stage.{Stage}
use Rattle.plan_record.specs.Inner.{Small}
use Rattle.plan_record.specs.Plan.{filter_of, total, size_of, below_of, cells_of}
use Rattle.memory.specs.Memory.{Memory, front_in, behind, sound_records, all_sound, Whole, Holds}
use Rattle.stage.specs.Inner.{StageStep}

module _ {A : Type 0} where
  -- the memory is just what these stages need for rows of W pixels, and its records are such as a step takes
  pub record Ready (ss : List Stage) (W : ℕ) (M : Memory A) : Type 0 where
    pub narrow : W ≤ 4096
    pub short : length ss ≤ 16
    pub small : Each Small ss
    pub values_long : length M.values ≡ total (cells_of W) ss
    pub positions_long : length M.positions ≡ total (cells_of W) ss
    pub starts_long : length M.starts ≡ length ss * W
    pub lengths_long : length M.lengths ≡ length ss * W
    pub sound : all_sound W ss M.starts M.lengths ≡ true

  -- it begins with what one stage needs
  pub record Begins (s : Stage) (W : ℕ) (M : Memory A) : Type 0 where
    pub narrow : W ≤ 4096
    pub small : Small s
    pub values_long : cells_of W s ≤ length M.values
    pub positions_long : cells_of W s ≤ length M.positions
    pub starts_long : W ≤ length M.starts
    pub lengths_long : W ≤ length M.lengths
    pub sound : sound_records (size_of s) (take W M.starts) (take W M.lengths) ≡ true

-- what is left has the stage's part at its front, and the comparisons are few: sizes, for the caller to cut by
pub record Leaves (W cells comparisons values positions starts lengths : ℕ) : Type 0 where
  pub few : comparisons ≤ 516096
  pub cells_few : cells ≤ 258048
  pub values_long : cells ≤ values
  pub positions_long : cells ≤ positions
  pub starts_long : W ≤ starts
  pub lengths_long : W ≤ lengths

module _ {A : Type 0} (K : Samples A) where
  -- a stage's own step on the front of the memory; what is behind stays
  pub record Fronted (s : Stage) (H t : ℕ) (M : Memory A) (row : List A) (M' : Memory A) (row' : List A) (comparisons : ℕ) : Type 0 where
    pub stepped : StageStep K s H t (front_in (cells_of (length row) s) (length row) M) row (front_in (cells_of (length row) s) (length row) M') row' comparisons
    pub rest : behind (cells_of (length row) s) (length row) M' ≡ behind (cells_of (length row) s) (length row) M

  -- Step t of the plan of these stages. The memory stays such as a step takes. For every picture whose first t steps could have left this memory, and whose row t is
  -- the row given while there are rows: the memory holds what t + 1 steps leave, the comparisons are document 01's, and the row is row t - D of the plan applied to the
  -- whole picture, where that is due.
  pub record PlanStep (ss : List Stage) (H t : ℕ) (M : Memory A) (row : List A) (M' : Memory A) (row' : List A) (comparisons : ℕ) (due : Bool) : Type 0 where
    pub ready : Ready ss (length row) M'
    pub row_long : length row' ≡ length row
    pub few : comparisons ≤ length ss * 516096
    pub when : due ≡ leb (total below_of ss) t
    pub told :
        (p : Picture A) → Whole K (length row) H p → Holds K ss (length row) p t M → (t < H → row ≡ get_or p t [])
        → Holds K ss (length row) p (t + 1) M'
        × (comparisons ≡ plan_cost (map (filter_of K.order) ss) (length row) p t)
        × (total below_of ss ≤ t → t < H + total below_of ss → row' ≡ get_or (apply_plan (map (filter_of K.order) ss) p) (t - total below_of ss) [])
