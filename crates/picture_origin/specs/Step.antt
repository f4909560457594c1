-- What a step that asks for origins promises: all that a step promises that does not ask, and for each pixel that comes out the row and the column that it came from.
use Rattle.std.specs.Prelude.{◌≡◌, true, cond, List, [], map, ℕ, ◌+◌, ◌-◌, ◌%◌, ◌≤◌, ◌<◌, eqb, length, get_or, drop}
use Rattle.morph.specs.Lists.{Each, tabulate}
use Rattle.morph.specs.Picture.{Picture, Stage as Filter}
use Rattle.morph.specs.Origin.{positions_line, origin_row_of, origin_column}
use Rattle.sample.specs.Samples.{Samples, first_bad}
use Rattle.plan_record.specs.declared.Stage.{Stage}
use Rattle.plan_record.specs.Plan.{unused, used, filter_of, size_of, cells_needed, plan_ahead}
use Rattle.memory.specs.Memory.{Whole, Holds}
use Rattle.origin.specs.Kept.{ColumnsKept, columns_put}
use Rattle.picture_state.specs.declared.State.{State}
use Rattle.picture_state.specs.declared.Answer.{Answer}
use Rattle.picture_state.specs.Numbers.{height_of}
use Rattle.picture_state.specs.Step.{Advanced, Unchanged}
use Rattle.picture_origin.specs.Numbers.{OriginMemory, OriginRows, origin_offer_number, origin_row_number, origin_drain_number}

-- the plan's one stage
abbrev pub only_stage : State → Stage
only_stage S = get_or S.plan.stages 0 unused

module _ {A : Type 0} (K : Samples A) where
  -- .. and its filter
  abbrev pub only_filter : State → Filter A
  only_filter S = filter_of K.order (only_stage S)

  -- "the latest row whose across-result has the value, and in that row the latest column of its window", for each pixel of output row y
  abbrev pub origin_rows_of : State → Picture A → ℕ → List ℕ
  origin_rows_of S p y = tabulate S.width (origin_row_of (only_filter S) p y)

  abbrev pub origin_columns_of : State → Picture A → ℕ → List ℕ
  origin_columns_of S p y = tabulate S.width (origin_column (only_filter S) p y)

  -- the columns that the across-results of a row come from
  abbrev pub across_columns : State → List A → List ℕ
  across_columns S pixels = positions_line (only_filter S).order (only_filter S).back (only_filter S).ahead pixels

  -- After t steps over p the memory holds document 01's queues, and the columns lent are those of the rows under the window.
  abbrev pub OriginsHold : State → Picture A → ℕ → OriginMemory A → Type 0
  OriginsHold S p t M = Holds K (used S.plan) S.width p t M.cells × ColumnsKept (only_filter S) (size_of (only_stage S)) S.width p t M.columns

  -- A step that asks is a step that does not ask, on the same values, positions and records, whatever the columns hold (`plain`). Of the columns those of the row that is read take the place of those of the row
  -- a window before, and all others stay; without a row all stay. Where no row is due the rows of origins stay as they stood. And for every picture whose first t steps could have left this memory, where row
  -- t - D comes out, its pixels' rows are told; where they could have left the columns too, the memory and the columns are those after one step more, and its pixels' columns are told.
  pub record OriginsAdvanced (S : State) (M : OriginMemory A) (pixels : List A) (out : OriginRows A) (M' : OriginMemory A) (out' : OriginRows A) (answer : Answer) (S' : State) : Type 0 where
    pub plain : Advanced K S M.cells pixels out.pixels M'.cells out'.pixels answer S'
    pub columns_long : length M'.columns ≡ length M.columns
    pub columns_past : drop (cells_needed S.plan S.width) M'.columns ≡ drop (cells_needed S.plan S.width) M.columns
    pub columns_put_holds : S.step < height_of S → Each (λ a. K.good a ≡ true) pixels → M'.columns ≡ columns_put S.width (S.step % size_of (only_stage S)) (across_columns S pixels) M.columns
    pub columns_stay : height_of S ≤ S.step → M'.columns ≡ M.columns
    pub early : S.step < plan_ahead S.plan → (out'.rows ≡ out.rows) × (out'.columns ≡ out.columns)
    pub rows_told :
        (p : Picture A) → Whole K S.width (height_of S) p → Holds K (used S.plan) S.width p S.step M.cells → (S.step < height_of S → pixels ≡ get_or p S.step [])
        → plan_ahead S.plan ≤ S.step → out'.rows ≡ origin_rows_of S p (S.step - plan_ahead S.plan)
    pub told :
        (p : Picture A) → Whole K S.width (height_of S) p → OriginsHold S p S.step M → (S.step < height_of S → pixels ≡ get_or p S.step [])
        → OriginsHold S p (S.step + 1) M' × (plan_ahead S.plan ≤ S.step → out'.columns ≡ origin_columns_of S p (S.step - plan_ahead S.plan))

  -- ---- a refused call: "Every refusal returns its number (8 its column too) and the state as given, and writes nothing"

  pub record OriginsUnchanged (number column : ℕ) (S : State) (M : OriginMemory A) (out : OriginRows A) (M' : OriginMemory A) (out' : OriginRows A) (answer : Answer) (S' : State) : Type 0 where
    pub plain : Unchanged K number column S M.cells out.pixels M'.cells out'.pixels answer S'
    pub columns : M'.columns ≡ M.columns
    pub rows : out'.rows ≡ out.rows
    pub origin_columns : out'.columns ≡ out.columns

  -- the column that 8 names, where 8 is the number
  abbrev pub origin_column_named : ℕ → State → OriginMemory A → List A → OriginRows A → ℕ
  origin_column_named kind S M pixels out = cond (eqb (origin_offer_number kind S M pixels out) 0) (first_bad K pixels) 0

  -- ---- the two steps, for samples of that kind

  -- a row call: refused exactly when `origin_row_number` is not 0, and else a step with the row as it is read
  pub record OriginRowStep (kind : ℕ) (S : State) (M : OriginMemory A) (pixels : List A) (out : OriginRows A) (M' : OriginMemory A) (out' : OriginRows A) (answer : Answer) (S' : State) : Type 0 where
    pub refusal : (origin_row_number K kind S M pixels out ≡ 0 → ⊥) → OriginsUnchanged (origin_row_number K kind S M pixels out) (origin_column_named kind S M pixels out) S M out M' out' answer S'
    pub accepted : origin_row_number K kind S M pixels out ≡ 0 → OriginsAdvanced S M (map K.taken pixels) out M' out' answer S'

  -- a drain: refused exactly when `origin_drain_number` is not 0, and else a step without a row
  pub record OriginDrainStep (kind : ℕ) (S : State) (M : OriginMemory A) (out : OriginRows A) (M' : OriginMemory A) (out' : OriginRows A) (answer : Answer) (S' : State) : Type 0 where
    pub refusal : (origin_drain_number kind S M out ≡ 0 → ⊥) → OriginsUnchanged (origin_drain_number kind S M out) 0 S M out M' out' answer S'
    pub accepted : origin_drain_number kind S M out ≡ 0 → OriginsAdvanced S M [] out M' out' answer S'
