-- Inner: only contracts of inner functions, and proofs, cite what stands here; no promise of a public call is made of it.
use Rattle.std.specs.Prelude.{◌≡◌, cond, ◌&&◌, List, [], ◌∷◌, ℕ, ◌+◌, ◌≤◌, ◌<◌, eqb, length, get_or, take, drop}
use Rattle.sample.specs.Samples.{Samples}
use Rattle.plan_record.specs.Inner.{Small}
use Rattle.plan_record.specs.Plan.{used, size_of, cells_of}
use Rattle.memory.specs.Memory.{front_in, behind}
use Rattle.origin.specs.Inner.{FrontsTold, OriginsMoved}
use Rattle.picture_state.specs.declared.State.{State}
use Rattle.picture_state.specs.Numbers.{height_of}
use Rattle.picture_origin.specs.Numbers.{OriginMemory, OriginRows}
use Rattle.picture_origin.specs.Step.{only_stage}

-- the length of three rows that are as long as each other, and else 0, which no picture's width is
unfoldable pub alike_of : ℕ → ℕ → ℕ → ℕ
alike_of a b c = cond (eqb a b && eqb a c) a 0

-- the cells of the plan's one stage
abbrev pub only_cells : State → ℕ
only_cells S = cells_of S.width (only_stage S)

module _ {A : Type 0} where
  -- what taking the fronts asks for: one stage, no fewer cells and records than the stage needs, and starts that are below its places
  pub record FrontsReady (S : State) (values : List A) (positions columns starts : List ℕ) : Type 0 where
    pub count : S.plan.count ≡ 1
    pub small : Small (only_stage S)
    pub narrow : S.width ≤ 4096
    pub counted : S.step ≤ 4294967792
    pub values_long : only_cells S ≤ length values
    pub positions_long : only_cells S ≤ length positions
    pub columns_long : only_cells S ≤ length columns
    pub starts_long : S.width ≤ length starts
    pub below : (x : ℕ) → x < S.width → get_or (take S.width starts) x 0 < size_of (only_stage S)

module _ {A : Type 0} (K : Samples A) where
  -- the stage's own step on the front of the memory and of the columns; what is behind stays
  pub record OriginsFronted (S : State) (M : OriginMemory A) (row : List A) (M' : OriginMemory A) (row' : List A) (comparisons : ℕ) : Type 0 where
    pub one : used S.plan ≡ only_stage S ∷ []
    pub moved :
        OriginsMoved K (only_stage S) (height_of S) S.step (front_in (only_cells S) S.width M.cells) (take (only_cells S) M.columns) row
        (front_in (only_cells S) S.width M'.cells) (take (only_cells S) M'.columns) row' comparisons
    pub rest : behind (only_cells S) S.width M'.cells ≡ behind (only_cells S) S.width M.cells
    pub columns_rest : drop (only_cells S) M'.columns ≡ drop (only_cells S) M.columns

  -- the fronts of the stage's columns after the step, in the three rows
  abbrev pub FrontsBrought : State → List A → List ℕ → List ℕ → List ℕ → OriginRows A → Type 0
  FrontsBrought S values positions columns starts out =
      FrontsTold K (size_of (only_stage S)) S.width (S.step + 1) (take (only_cells S) values) (take (only_cells S) positions) (take (only_cells S) columns) (take S.width starts)
      out.pixels out.rows out.columns
