-- What a read-out shows: the entry at a place of a queue, or a refusal.
use Rattle.std.specs.Prelude.{◌≡◌, ◌||◌, List, [], ◌∷◌, ℕ, leb, length, get_or}
use Rattle.morph.specs.Line.{Entry, Shown, found, refused}
use Rattle.morph.specs.Numbers.{given, first_of}
use Rattle.sample.specs.Samples.{Samples}
use Rattle.plan_record.specs.Plan.{used}
use Rattle.memory.specs.Memory.{Memory, queue_at}
use Rattle.picture_state.specs.declared.State.{State}
use Rattle.picture_state.specs.Numbers.{height_of, memory_judged}

module _ {A : Type 0} (K : Samples A) where
  -- the queue of a stage's column as the state reads it, by the stage's own steps: oldest first, each entry with its row's number
  abbrev pub queue_in : State → Memory A → ℕ → ℕ → List (Entry A)
  queue_in S M stage column = queue_at K (used S.plan) S.width (height_of S) S.step M stage column

  -- "Read-out: as a step up to the column records, then 11." "11 | a read-out names a stage, column or queue place that is not there"
  unfoldable pub read_out_number : ℕ → State → Memory A → ℕ → ℕ → ℕ → ℕ
  read_out_number kind S M stage column place =
      first_of
      (memory_judged kind S M
      ∷ given 11 (leb S.plan.count stage || leb S.width column || leb (length (queue_in S M stage column)) place)
      ∷ [])

  -- a read-out: refused exactly when `read_out_number` is not 0, and else the entry at that place
  pub record Shows (kind : ℕ) (S : State) (M : Memory A) (stage column place : ℕ) (answer : Shown A) : Type 0 where
    pub refusal : (read_out_number kind S M stage column place ≡ 0 → ⊥) → answer ≡ refused (read_out_number kind S M stage column place)
    pub accepted :
        read_out_number kind S M stage column place ≡ 0
        → answer ≡ found (get_or (queue_in S M stage column) place (record { value = K.order.blank; position = 0 }))
