-- What a stop promises: of its number and its state. It is lent no memory: all queues stay as they are.
use Rattle.std.specs.Prelude.{◌≡◌, [], ◌∷◌, ℕ, eqb}
use Rattle.morph.specs.Numbers.{given, first_of}
use Rattle.picture_state.specs.declared.State.{State}
use Rattle.picture_state.specs.declared.Ending.TheVariants.{Stopped}
use Rattle.picture_state.specs.Numbers.{state_number, is_not_open}
use Rattle.picture_start.specs.declared.Stopping.{Stopping}

-- "a stop gives 12 for its own fields, then 9 if said before or in a fixed run, then 4 with no row read"
unfoldable pub stop_number : State → ℕ
stop_number S = first_of (state_number S ∷ given 9 (is_not_open S.ending) ∷ given 4 (eqb S.step 0) ∷ [])

-- "with H taken as the rows read when the stop is said": while a run is open each step read a row
abbrev pub stopped_state : State → State
stopped_state S = record { plan = S.plan; sample = S.sample; width = S.width; ending = Stopped; rows = S.step; step = S.step }

-- a stop: refused exactly when `stop_number` is not 0, with the state as given; else the state has stopped
pub record PictureStop (S : State) (r : Stopping) : Type 0 where
  pub told : r.number ≡ stop_number S
  pub refusal : (stop_number S ≡ 0 → ⊥) → r.state ≡ S
  pub accepted : stop_number S ≡ 0 → r.state ≡ stopped_state S
