-- Whole runs: a start that is taken, and then any calls in any order, on state and memory as they were handed out. What comes of a run is told by the calls' promises alone.
use Rattle.std.specs.Prelude.{◌≡◌, cond, ◌||◌, List, [], ◌∷◌, ◌++◌, map, ℕ, ◌+◌, ◌-◌, ◌*◌, ◌≤◌, min, leb, length, get_or, take}
use Rattle.std.proofs.Math.Option.{Option, none, some}
use Rattle.morph.specs.Lists.{tabulate}
use Rattle.morph.specs.Line.{Entry, Shown, found, refused as notShown}
use Rattle.morph.specs.Picture.{Picture, apply_plan, row_at}
use Rattle.morph.specs.Plan.{plan_cost, plan_queue, stage_bound}
use Rattle.sample.specs.Samples.{Samples}
use Rattle.plan_record.specs.declared.Plan.{Plan}
use Rattle.plan_record.specs.Plan.{used, unused, filter_of, stages_of, plan_of, stages_from, cells_needed, records_needed, plan_ahead}
use Rattle.memory.specs.Memory.{Memory, Holds}
use Rattle.picture_state.specs.declared.State.{State}
use Rattle.picture_start.specs.declared.Started.{Started}
use Rattle.picture_state.specs.declared.Answer.{Answer}
use Rattle.picture_state.specs.Numbers.{row_number, drain_judged}
use Rattle.picture_start.specs.Start.{start_number, first_state_of, numbers_number, PictureStart}
use Rattle.picture_state.specs.Step.{RowSaid, row, is_not_yet, refused, row_said_of, row_said_at, RowStep, DrainStep}
use Rattle.picture_state.specs.ReadOut.{Shows}

-- ---- what answers tell

-- the comparisons of an answer, and the row that came with it
abbrev pub row_comparisons : RowSaid → ℕ
row_comparisons (row number comparisons) = comparisons
row_comparisons (is_not_yet comparisons) = comparisons
row_comparisons (refused number column) = 0

abbrev pub came_with : {A : Type 0} → RowSaid → List A → Option (List A)
came_with (row number comparisons) out = some out
came_with (is_not_yet comparisons) out = none
came_with (refused number column) out = none

-- the rows that came, in their order, and numbers added up
abbrev pub rows_of : {A : Type 0} → List (Option (List A)) → Picture A
rows_of [] = []
rows_of (none ∷ came) = rows_of came
rows_of (some out ∷ came) = out ∷ rows_of came

abbrev pub sum_of : List ℕ → ℕ
sum_of [] = 0
sum_of (n ∷ l) = n + sum_of l

-- ---- a run

-- a state after so many steps
abbrev pub state_at : State → ℕ → State
state_at S n = record { plan = S.plan; sample = S.sample; width = S.width; ending = S.ending; rows = S.rows; step = n }

-- Samples K have that sample kind's number. `first` is the state that the start handed out.
module _ {A : Type 0} (K : Samples A) (kind : ℕ) (first : State) where
  -- A run: a start of either form that is taken, of a plan record with its 16 places, for samples of that kind, and with the cells lent that the plan needs; then rows and drains in any order, accepted or refused.
  -- Its state and memory after all calls; the rows that were accepted, as they are read; the answers of the accepted steps; and the rows that came out of them.
  pub data PictureRun : State → Memory A → Picture A → List RowSaid → List (Option (List A)) → Type 0 where
    started : {M : Memory A} (plan : Plan) (width rows cells : ℕ) (starts lengths : List ℕ) (r : Started) → length plan.stages ≡ 16
        → PictureStart (start_number plan kind width rows cells (min (length starts) (length lengths))) (first_state_of plan kind width rows) (records_needed plan width) starts lengths M.starts M.lengths r
        → r.number ≡ 0 → r.state ≡ first → cells_needed first.plan first.width ≤ length M.values → cells_needed first.plan first.width ≤ length M.positions → PictureRun first M [] [] []
    started_numbers : {M : Memory A} (count : ℕ) (bytes : List ℕ) (width rows cells : ℕ) (starts lengths : List ℕ) (r : Started)
        → PictureStart (numbers_number count bytes kind width rows cells (min (length starts) (length lengths))) (first_state_of (plan_of (stages_from count bytes)) kind width rows)
        (records_needed (plan_of (stages_from count bytes)) width) starts lengths M.starts M.lengths r
        → r.number ≡ 0 → r.state ≡ first → cells_needed first.plan first.width ≤ length M.values → cells_needed first.plan first.width ≤ length M.positions → PictureRun first M [] [] []
    offered : {S S' : State} {M M' : Memory A} {read : Picture A} {said : List RowSaid} {came : List (Option (List A))} (pixels out out' : List A) (answer : Answer) → PictureRun S M read said came
        → row_number K kind S M pixels out ≡ 0 → RowStep K kind S M pixels out M' out' answer S'
        → PictureRun S' M' (read ++ (map K.taken pixels ∷ [])) (said ++ (row_said_of answer ∷ [])) (came ++ (came_with (row_said_of answer) out' ∷ []))
    drained : {S S' : State} {M M' : Memory A} {read : Picture A} {said : List RowSaid} {came : List (Option (List A))} (out out' : List A) (answer : Answer) → PictureRun S M read said came
        → drain_judged kind S M out ≡ 0 → DrainStep K kind S M out M' out' answer S'
        → PictureRun S' M' read (said ++ (row_said_of answer ∷ [])) (came ++ (came_with (row_said_of answer) out' ∷ []))
    row_refused : {S S' : State} {M M' : Memory A} {read : Picture A} {said : List RowSaid} {came : List (Option (List A))} (pixels out out' : List A) (answer : Answer) → PictureRun S M read said came
        → (row_number K kind S M pixels out ≡ 0 → ⊥) → RowStep K kind S M pixels out M' out' answer S' → PictureRun S' M' read said came
    drain_refused : {S S' : State} {M M' : Memory A} {read : Picture A} {said : List RowSaid} {came : List (Option (List A))} (out out' : List A) (answer : Answer) → PictureRun S M read said came
        → (drain_judged kind S M out ≡ 0 → ⊥) → DrainStep K kind S M out M' out' answer S' → PictureRun S' M' read said came

  -- ---- what document 01 says of the steps over a whole picture p

  module _ (S : State) (p : Picture A) where
    -- step t: row t - D with its comparisons where that is due, and before it not yet, with the comparisons made
    abbrev pub row_said_over : ℕ → RowSaid
    row_said_over t = row_said_at (leb (plan_ahead S.plan) t) (t - plan_ahead S.plan) (plan_cost (stages_of K.order S.plan) S.width p t)

    -- condition 3: the queue of a stage's column after the steps done
    abbrev pub queue_over : ℕ → ℕ → List (Entry A)
    queue_over stage column = plan_queue (map (filter_of K.order) (take stage (used S.plan))) (filter_of K.order (get_or (used S.plan) stage unused)) column p S.step

    -- a read-out: "11 | a read-out names a stage, column or queue place that is not there", and else the entry of that place, the oldest at place 0
    abbrev pub shown_over : ℕ → ℕ → ℕ → Shown A
    shown_over stage column place =
        cond (leb (length (used S.plan)) stage || leb S.width column || leb (length (queue_over stage column)) place)
        (notShown 11)
        (found (get_or (queue_over stage column) place (record { value = K.order.blank; position = 0 })))

  -- After a run over p, whatever was refused in between. The plan, the sample kind and the size are the start's, and the steps are counted. Each answer is document 01's: row k with
  -- its comparisons at step k + D, before that not yet. The rows that came are those of the plan applied to the whole picture, each at its step and at no other (condition 2), and together
  -- its first ones. The comparisons stay under document 01's bound. The memory holds document 01's queues, and a read-out shows exactly those (condition 3).
  pub record PictureRan (p : Picture A) (S : State) (M : Memory A) (said : List RowSaid) (came : List (Option (List A))) : Type 0 where
    pub kept : S ≡ state_at first S.step
    pub counted : length said ≡ S.step
    pub bounded : S.step ≤ S.rows + plan_ahead S.plan
    pub says : said ≡ tabulate S.step (row_said_over S p)
    pub comes : came ≡ tabulate S.step (row_at (stages_of K.order S.plan) p)
    pub filtered : rows_of came ≡ take (S.step - plan_ahead S.plan) (apply_plan (stages_of K.order S.plan) p)
    pub costs : map row_comparisons said ≡ tabulate S.step (plan_cost (stages_of K.order S.plan) S.width p)
    pub few : sum_of (map row_comparisons said) ≤ length (used S.plan) * stage_bound S.width S.rows
    pub held : Holds K (used S.plan) S.width p S.step M
    pub shows : (stage column place : ℕ) (answer : Shown A) → Shows K kind S M stage column place answer → answer ≡ shown_over S p stage column place
