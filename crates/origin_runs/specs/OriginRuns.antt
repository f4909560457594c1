-- Whole runs that ask for origins: a start that asks and is taken, of a picture whose rows are counted or of an open run, and then any calls that ask in any order, the stop among them, on state and
-- memory as they were handed out. What comes of a run is told by the calls' promises alone.
use Rattle.std.specs.Prelude.{◌≡◌, List, [], ◌∷◌, ◌++◌, map, ℕ, ◌+◌, ◌≤◌, ◌<◌, min, length, get_or}
use Rattle.std.proofs.Math.Option
use Rattle.std.proofs.Math.Option.{Option, none, some}
use Rattle.morph.specs.Lists.{tabulate}
use Rattle.morph.specs.Line.{output_at}
use Rattle.morph.specs.Picture.{Picture, apply_stage}
use Rattle.morph.specs.Origin.{LastPixel}
use Rattle.sample.specs.Samples.{Samples}
use Rattle.plan_record.specs.declared.Plan.{Plan}
use Rattle.plan_record.specs.Plan.{stages_of, plan_of, stages_from, cells_needed, records_needed, plan_ahead}
use Rattle.picture_state.specs.declared.State.{State}
use Rattle.picture_state.specs.declared.Answer.{Answer}
use Rattle.picture_state.specs.Step.{RowSaid, row, is_not_yet, refused, row_said_of}
use Rattle.picture_start.specs.declared.Started.{Started}
use Rattle.picture_start.specs.declared.Stopping.{Stopping}
use Rattle.picture_start.specs.Start.{first_state_of, open_state, PictureStart}
use Rattle.picture_start.specs.Stop.{stop_number, PictureStop}
use Rattle.picture_origin.specs.Numbers.{origins_number, origins_numbers_number, open_origins_number, open_origins_numbers_number, OriginMemory, OriginRows, origin_row_number, origin_drain_number}
use Rattle.picture_origin.specs.Step.{only_filter, origin_rows_of, origin_columns_of, OriginsHold, OriginRowStep, OriginDrainStep}
use Rattle.picture.specs.Runs.{PictureRan}
use Rattle.picture.specs.OpenRuns.{OpenRan}

module _ {A : Type 0} where
  -- the rows that came with an answer
  abbrev pub origins_with : RowSaid → OriginRows A → Option (OriginRows A)
  origins_with (row number comparisons) out = some out
  origins_with (is_not_yet comparisons) out = none
  origins_with (refused number column) out = none

  -- the pixels of what came
  abbrev pub pixels_came : List (Option (OriginRows A)) → List (Option (List A))
  pixels_came came = map (Option.map (λ out. out.pixels)) came

  -- the cells that the plan needs are lent: a value, a position and a column each
  abbrev pub OriginsLent : State → OriginMemory A → Type 0
  OriginsLent S M =
      (cells_needed S.plan S.width ≤ length M.cells.values) × (cells_needed S.plan S.width ≤ length M.cells.positions) × (cells_needed S.plan S.width ≤ length M.columns)

-- ---- what is told over a picture p, by a state S

module _ {A : Type 0} (K : Samples A) (S : State) (p : Picture A) where
  -- output row k, and the row and the column that each of its pixels came from
  abbrev pub origins_of : ℕ → OriginRows A
  origins_of k = record { pixels = get_or (apply_stage (only_filter K S) p) k []; rows = origin_rows_of K S p k; columns = origin_columns_of K S p k }

  -- "output row k comes at step k + D and at no other"
  abbrev pub origins_at : ℕ → Option (OriginRows A)
  origins_at t = output_at (length p) origins_of (plan_ahead S.plan) t

  -- The plan is of one stage. Each row of its output comes at its step and at no other, and with it its pixels' origins (`comes`). The row and the column that are told of a pixel are those of the last
  -- pixel under the rectangle, row by row, that has its value (`last`), and of no other (`only`). The memory holds the queues, and the columns that
  -- the across-results of the rows under the window came from (`held`).
  pub record OriginsTold (M : OriginMemory A) (came : List (Option (OriginRows A))) : Type 0 where
    pub one : stages_of K.order S.plan ≡ only_filter K S ∷ []
    pub comes : came ≡ tabulate S.step origins_at
    pub last : (k x : ℕ) (out : OriginRows A) → get_or came (k + plan_ahead S.plan) none ≡ some out → x < S.width
        → LastPixel (only_filter K S) p k x (get_or out.rows x 0) (get_or out.columns x 0)
    pub only : (k x : ℕ) (out : OriginRows A) → get_or came (k + plan_ahead S.plan) none ≡ some out → x < S.width
        → (r c : ℕ) → LastPixel (only_filter K S) p k x r c → (get_or out.rows x 0 ≡ r) × (get_or out.columns x 0 ≡ c)
    pub held : OriginsHold K S p S.step M

-- Samples K have that sample kind's number. `first` is the state that the start handed out.
module _ {A : Type 0} (K : Samples A) (kind : ℕ) (first : State) where
  -- A run: a start that asks, of any of the four forms, that is taken, of a plan record with its 16 places, for samples of that kind, and with the cells lent that the plan needs; then rows and drains that
  -- ask and stops in any order, accepted or refused. Its state and memory after all calls; the rows that were accepted, as they are read; the answers of the accepted steps; and the rows that came out of them,
  -- each with its rows of origins.
  pub data OriginRun : State → OriginMemory A → Picture A → List RowSaid → List (Option (OriginRows A)) → Type 0 where
    started : {M : OriginMemory A} (plan : Plan) (width rows cells : ℕ) (starts lengths : List ℕ) (r : Started) → length plan.stages ≡ 16
        → PictureStart (origins_number plan kind width rows cells (min (length starts) (length lengths))) (first_state_of plan kind width rows) (records_needed plan width) starts lengths M.cells.starts M.cells.lengths r
        → r.number ≡ 0 → r.state ≡ first → OriginsLent first M → OriginRun first M [] [] []
    started_numbers : {M : OriginMemory A} (count : ℕ) (bytes : List ℕ) (width rows cells : ℕ) (starts lengths : List ℕ) (r : Started)
        → PictureStart (origins_numbers_number count bytes kind width rows cells (min (length starts) (length lengths))) (first_state_of (plan_of (stages_from count bytes)) kind width rows)
        (records_needed (plan_of (stages_from count bytes)) width) starts lengths M.cells.starts M.cells.lengths r
        → r.number ≡ 0 → r.state ≡ first → OriginsLent first M → OriginRun first M [] [] []
    opened : {M : OriginMemory A} (plan : Plan) (width cells : ℕ) (starts lengths : List ℕ) (r : Started) → length plan.stages ≡ 16
        → PictureStart (open_origins_number plan kind width cells (min (length starts) (length lengths))) (open_state plan kind width) (records_needed plan width) starts lengths M.cells.starts M.cells.lengths r
        → r.number ≡ 0 → r.state ≡ first → OriginsLent first M → OriginRun first M [] [] []
    opened_numbers : {M : OriginMemory A} (count : ℕ) (bytes : List ℕ) (width cells : ℕ) (starts lengths : List ℕ) (r : Started)
        → PictureStart (open_origins_numbers_number count bytes kind width cells (min (length starts) (length lengths))) (open_state (plan_of (stages_from count bytes)) kind width)
        (records_needed (plan_of (stages_from count bytes)) width) starts lengths M.cells.starts M.cells.lengths r
        → r.number ≡ 0 → r.state ≡ first → OriginsLent first M → OriginRun first M [] [] []
    offered : {S S' : State} {M M' : OriginMemory A} {read : Picture A} {said : List RowSaid} {came : List (Option (OriginRows A))} (pixels : List A) (out out' : OriginRows A) (answer : Answer)
        → OriginRun S M read said came → origin_row_number K kind S M pixels out ≡ 0 → OriginRowStep K kind S M pixels out M' out' answer S'
        → OriginRun S' M' (read ++ (map K.taken pixels ∷ [])) (said ++ (row_said_of answer ∷ [])) (came ++ (origins_with (row_said_of answer) out' ∷ []))
    drained : {S S' : State} {M M' : OriginMemory A} {read : Picture A} {said : List RowSaid} {came : List (Option (OriginRows A))} (out out' : OriginRows A) (answer : Answer) → OriginRun S M read said came
        → origin_drain_number kind S M out ≡ 0 → OriginDrainStep K kind S M out M' out' answer S'
        → OriginRun S' M' read (said ++ (row_said_of answer ∷ [])) (came ++ (origins_with (row_said_of answer) out' ∷ []))
    stopped : {S : State} {M : OriginMemory A} {read : Picture A} {said : List RowSaid} {came : List (Option (OriginRows A))} (r : Stopping) → OriginRun S M read said came
        → stop_number S ≡ 0 → PictureStop S r → OriginRun r.state M read said came
    row_refused : {S S' : State} {M M' : OriginMemory A} {read : Picture A} {said : List RowSaid} {came : List (Option (OriginRows A))} (pixels : List A) (out out' : OriginRows A) (answer : Answer)
        → OriginRun S M read said came → (origin_row_number K kind S M pixels out ≡ 0 → ⊥) → OriginRowStep K kind S M pixels out M' out' answer S' → OriginRun S' M' read said came
    drain_refused : {S S' : State} {M M' : OriginMemory A} {read : Picture A} {said : List RowSaid} {came : List (Option (OriginRows A))} (out out' : OriginRows A) (answer : Answer)
        → OriginRun S M read said came → (origin_drain_number kind S M out ≡ 0 → ⊥) → OriginDrainStep K kind S M out M' out' answer S' → OriginRun S' M' read said came
    stop_refused : {S : State} {M : OriginMemory A} {read : Picture A} {said : List RowSaid} {came : List (Option (OriginRows A))} (r : Stopping) → OriginRun S M read said came
        → (stop_number S ≡ 0 → ⊥) → PictureStop S r → OriginRun r.state M read said came

  -- After a run over p whose rows are counted: all that a run promises that does not ask, of the answers, the pixels, the comparisons, the queues and the read-outs; and the origins.
  pub record OriginRan (p : Picture A) (S : State) (M : OriginMemory A) (said : List RowSaid) (came : List (Option (OriginRows A))) : Type 0 where
    pub plain : PictureRan K kind first p S M.cells said (pixels_came came)
    pub origins : OriginsTold K S p M came

  -- After an open run, stopped or not: all that an open run promises that does not ask, and the origins, over the rows read so far.
  pub record OriginOpenRan (read : Picture A) (S : State) (M : OriginMemory A) (said : List RowSaid) (came : List (Option (OriginRows A))) : Type 0 where
    pub plain : OpenRan K kind first read S M.cells said (pixels_came came)
    pub origins : OriginsTold K S read M came
