-- Inner: only contracts of inner functions, and proofs, cite what stands here; no promise of a public call is made of it.
-- What an accepted call may rely on: the plan, the state and the memory lent, where their numbers are 0 (proofs/Numbers.antt proves that).
-- What a read-out says on its way: the number before a queue is looked at, and the entry of a place.
use Rattle.std.specs.Prelude.{◌≡◌, true, cond, ◌||◌, List, [], ◌∷◌, ℕ, ◌+◌, ◌≤◌, ◌<◌, length, get_or, leb}
use Rattle.morph.specs.Line.{Entry, Shown, found, refused}
use Rattle.morph.specs.Numbers.{given, first_of}
use Rattle.sample.specs.Samples.{Samples}
use Rattle.plan_record.specs.declared.Plan.{Plan}
use Rattle.plan_record.specs.Inner.{Small}
use Rattle.plan_record.specs.Plan.{unused, used, cells_needed, records_needed, plan_ahead}
use Rattle.memory.specs.Memory.{Memory, all_sound}
use Rattle.picture_state.specs.declared.State.{State}
use Rattle.picture_state.specs.Numbers.{height_of, is_not_open, lent_number}

-- a plan record that rules 1 and 3 hold of
pub record Accepted (plan : Plan) : Type 0 where
  pub some : 0 < plan.count
  pub few : plan.count ≤ 16
  pub small : (i : ℕ) → i < plan.count → Small (get_or plan.stages i unused)

-- what a state has that 12 lets in
pub record StateSound (S : State) : Type 0 where
  pub plan : Accepted S.plan
  pub wide : 0 < S.width
  pub narrow : S.width ≤ 4096
  pub high : 0 < height_of S
  pub low : height_of S ≤ 4294967297
  pub within : S.step ≤ height_of S + plan_ahead S.plan
  pub counted : S.step ≤ 4294967792
  pub closed : is_not_open S.ending ≡ true → S.rows ≤ 4294967296

-- memory that is as much as needed, with sound records
pub record Fit {A : Type 0} (S : State) (M : Memory A) : Type 0 where
  pub run : StateSound S
  pub values_lent : cells_needed S.plan S.width ≤ length M.values
  pub positions_lent : cells_needed S.plan S.width ≤ length M.positions
  pub starts_lent : records_needed S.plan S.width ≤ length M.starts
  pub lengths_lent : records_needed S.plan S.width ≤ length M.lengths
  pub sound : all_sound S.width (used S.plan) M.starts M.lengths ≡ true

-- "Read-out: as a step up to the column records, then 11." "11 | a read-out names a stage, column .. that is not there"
unfoldable pub placed_number : ℕ → State → ℕ → ℕ → ℕ → ℕ → List ℕ → List ℕ → ℕ
placed_number kind S stage column values positions starts lengths =
    first_of (lent_number kind S values positions starts lengths ∷ given 11 (leb S.plan.count stage || leb S.width column) ∷ [])

module _ {A : Type 0} (K : Samples A) where
  -- place k of a queue, where it is there
  abbrev pub place_shown : List (Entry A) → ℕ → Shown A
  place_shown q k = cond (leb (length q) k) (refused 11) (found (get_or q k (record { value = K.order.blank; position = 0 })))
