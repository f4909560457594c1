-- Whole open runs: an open start that is taken, and then any calls in any order, the stop among them, on state and memory as they were handed out. What comes of a run is told by the calls'
-- promises alone. "The belt has no last row" (02, 10/13).
use Rattle.std.specs.Prelude.{◌≡◌, List, [], ◌∷◌, ◌++◌, map, ◌⊎◌, ℕ, ◌+◌, ◌-◌, ◌*◌, ◌≤◌, min, length, take}
use Rattle.std.proofs.Math.Option.{Option}
use Rattle.morph.specs.Lists.{tabulate}
use Rattle.morph.specs.Line.{Shown}
use Rattle.morph.specs.Picture.{Picture, apply_plan, row_at}
use Rattle.morph.specs.Plan.{plan_cost, stage_bound}
use Rattle.sample.specs.Samples.{Samples}
use Rattle.plan_record.specs.declared.Plan.{Plan}
use Rattle.plan_record.specs.Plan.{used, stages_of, plan_of, stages_from, cells_needed, records_needed, plan_ahead}
use Rattle.memory.specs.Memory.{Memory, Holds}
use Rattle.picture_state.specs.declared.State.{State}
use Rattle.picture_state.specs.declared.Ending.{Ending}
use Rattle.picture_state.specs.declared.Ending.TheVariants.{Fixed, Open, Stopped}
use Rattle.picture_state.specs.declared.Answer.{Answer}
use Rattle.picture_state.specs.Numbers.{row_number, drain_judged}
use Rattle.picture_state.specs.Step.{RowSaid, row_said_of, RowStep, DrainStep}
use Rattle.picture_state.specs.ReadOut.{Shows}
use Rattle.picture_start.specs.declared.Started.{Started}
use Rattle.picture_start.specs.declared.Stopping.{Stopping}
use Rattle.picture_start.specs.Start.{open_state, open_number, open_numbers_number, PictureStart}
use Rattle.picture_start.specs.Stop.{stop_number, PictureStop}
use Rattle.picture.specs.Runs.{row_comparisons, came_with, rows_of, sum_of, row_said_over, shown_over}

-- a state of the same run, with this ending and these rows, after so many steps
abbrev pub state_in : State → Ending → ℕ → ℕ → State
state_in S ending rows n = record { plan = S.plan; sample = S.sample; width = S.width; ending = ending; rows = rows; step = n }

-- how many rows are read: while a run is open each step reads one, and once it has stopped the state keeps their count
abbrev pub rows_read : Ending → ℕ → ℕ → ℕ
rows_read Fixed rows step = min step rows
rows_read Open rows step = step
rows_read Stopped rows step = rows

-- Samples K have that sample kind's number. `first` is the state that the start handed out.
module _ {A : Type 0} (K : Samples A) (kind : ℕ) (first : State) where
  -- An open run: an open start of either form that is taken, of a plan record with its 16 places, for samples of that kind, and with the cells lent that the plan needs; then rows, drains and stops in any
  -- order, accepted or refused. Its state and memory after all calls; the rows that were accepted, as they are read; the answers of the accepted steps; and the rows that came out of them.
  pub data OpenRun : State → Memory A → Picture A → List RowSaid → List (Option (List A)) → Type 0 where
    opened : {M : Memory A} (plan : Plan) (width cells : ℕ) (starts lengths : List ℕ) (r : Started) → length plan.stages ≡ 16
        → PictureStart (open_number plan kind width cells (min (length starts) (length lengths))) (open_state plan kind width) (records_needed plan width) starts lengths M.starts M.lengths r
        → r.number ≡ 0 → r.state ≡ first → cells_needed first.plan first.width ≤ length M.values → cells_needed first.plan first.width ≤ length M.positions → OpenRun first M [] [] []
    opened_numbers : {M : Memory A} (count : ℕ) (bytes : List ℕ) (width cells : ℕ) (starts lengths : List ℕ) (r : Started)
        → PictureStart (open_numbers_number count bytes kind width cells (min (length starts) (length lengths))) (open_state (plan_of (stages_from count bytes)) kind width)
        (records_needed (plan_of (stages_from count bytes)) width) starts lengths M.starts M.lengths r
        → r.number ≡ 0 → r.state ≡ first → cells_needed first.plan first.width ≤ length M.values → cells_needed first.plan first.width ≤ length M.positions → OpenRun first M [] [] []
    offered : {S S' : State} {M M' : Memory A} {read : Picture A} {said : List RowSaid} {came : List (Option (List A))} (pixels out out' : List A) (answer : Answer) → OpenRun S M read said came
        → row_number K kind S M pixels out ≡ 0 → RowStep K kind S M pixels out M' out' answer S'
        → OpenRun S' M' (read ++ (map K.taken pixels ∷ [])) (said ++ (row_said_of answer ∷ [])) (came ++ (came_with (row_said_of answer) out' ∷ []))
    drained : {S S' : State} {M M' : Memory A} {read : Picture A} {said : List RowSaid} {came : List (Option (List A))} (out out' : List A) (answer : Answer) → OpenRun S M read said came
        → drain_judged kind S M out ≡ 0 → DrainStep K kind S M out M' out' answer S'
        → OpenRun S' M' read (said ++ (row_said_of answer ∷ [])) (came ++ (came_with (row_said_of answer) out' ∷ []))
    stopped : {S : State} {M : Memory A} {read : Picture A} {said : List RowSaid} {came : List (Option (List A))} (r : Stopping) → OpenRun S M read said came
        → stop_number S ≡ 0 → PictureStop S r → OpenRun r.state M read said came
    row_refused : {S S' : State} {M M' : Memory A} {read : Picture A} {said : List RowSaid} {came : List (Option (List A))} (pixels out out' : List A) (answer : Answer) → OpenRun S M read said came
        → (row_number K kind S M pixels out ≡ 0 → ⊥) → RowStep K kind S M pixels out M' out' answer S' → OpenRun S' M' read said came
    drain_refused : {S S' : State} {M M' : Memory A} {read : Picture A} {said : List RowSaid} {came : List (Option (List A))} (out out' : List A) (answer : Answer) → OpenRun S M read said came
        → (drain_judged kind S M out ≡ 0 → ⊥) → DrainStep K kind S M out M' out' answer S' → OpenRun S' M' read said came
    stop_refused : {S : State} {M : Memory A} {read : Picture A} {said : List RowSaid} {came : List (Option (List A))} (r : Stopping) → OpenRun S M read said came
        → (stop_number S ≡ 0 → ⊥) → PictureStop S r → OpenRun r.state M read said came

  -- After an open run, whatever was refused in between. "Conditions 2 and 3 hold with H taken as the rows read when the stop is said, and before it, from the first row on, for all rows so far": the picture
  -- is the rows read, no more and no fewer. The plan, the sample kind and the width are the start's, and the run is open or has stopped. The steps are counted, and the rows once it has stopped: "Output row
  -- numbers go to 4,294,967,295", so there are at most so many and one. Each answer is document 01's over that picture, the rows that came are those of the plan applied to it, each at its step and at no
  -- other (condition 2), and together its first ones; the comparisons stay under document 01's bound for these rows. The memory holds document 01's queues, and a read-out shows exactly those (condition 3).
  pub record OpenRan (read : Picture A) (S : State) (M : Memory A) (said : List RowSaid) (came : List (Option (List A))) : Type 0 where
    pub kept : S ≡ state_in first S.ending S.rows S.step
    pub ends : (S.ending ≡ Open) ⊎ (S.ending ≡ Stopped)
    pub reads : length read ≡ rows_read S.ending S.rows S.step
    pub uncounted : S.ending ≡ Open → S.rows ≡ 0
    pub numbered : length read ≤ 4294967296
    pub counted : length said ≡ S.step
    pub bounded : (length read ≤ S.step) × (S.step ≤ length read + plan_ahead S.plan)
    pub says : said ≡ tabulate S.step (row_said_over K kind first S read)
    pub comes : came ≡ tabulate S.step (row_at (stages_of K.order S.plan) read)
    pub filtered : rows_of came ≡ take (S.step - plan_ahead S.plan) (apply_plan (stages_of K.order S.plan) read)
    pub costs : map row_comparisons said ≡ tabulate S.step (plan_cost (stages_of K.order S.plan) S.width read)
    pub few : sum_of (map row_comparisons said) ≤ length (used S.plan) * stage_bound S.width (length read)
    pub held : Holds K (used S.plan) S.width read S.step M
    pub shows : (stage column place : ℕ) (answer : Shown A) → Shows K kind S M stage column place answer → answer ≡ shown_over K kind first S read stage column place
