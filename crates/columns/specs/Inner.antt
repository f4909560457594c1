-- Inner: only contracts of inner functions, and proofs, cite what stands here; no promise of a public call is made of it.
-- The columns of one stage in lent memory, as crate memory lays them out: what a step finds there and leaves. P are the places of a column, W the columns.
use Rattle.std.specs.Prelude.{◌≡◌, cond, List, map, ℕ, ◌+◌, ◌*◌, ◌≤◌, ◌<◌, eqb, length, get_or}
use Rattle.morph.specs.declared.Kind.{Kind}
use Rattle.morph.specs.Lists.{sum_to}
use Rattle.morph.specs.Line.{Entry}
use Rattle.morph.specs.Cell.{read_at}
use Rattle.morph.specs.Inner.{cells_stepped, step_cost}
use Rattle.sample.specs.Samples.{Samples}
use Rattle.memory.specs.Inner.{RecordsSound}
use Rattle.memory.specs.Memory.{column_at}

-- ---- the records

-- The memory of a stage, no more than it needs, with records that a step takes: "A stage needs width × (c+d+1) queue cells, a value and a position each, and one record
-- per column." The values, as many as the positions, are not said here, so that grey and rate share the word.
pub record Lent (P W : ℕ) (positions starts lengths : List ℕ) : Type 0 where
  pub places : P ≤ 63
  pub width : W ≤ 4096
  pub positions_long : length positions ≡ W * P
  pub starts_long : length starts ≡ W
  pub lengths_long : length lengths ≡ W
  pub sound : RecordsSound P W starts lengths

-- ---- the queues

-- column x goes on by `next`, and every other stays as it is
abbrev pub only : {B : Type 0} → ℕ → (B → B) → ℕ → B → B
only x next j b = cond (eqb j x) (next b) b

module _ {A : Type 0} (K : Samples A) where
  -- The memory afterwards: as much of it, with records that the next step takes, and in each column x what `next x` makes of its queue.
  pub record Moved (P W : ℕ) (next : ℕ → List (Entry A) → List (Entry A)) (values : List A) (positions starts lengths : List ℕ) (values' : List A) (positions' starts' lengths' : List ℕ) : Type 0 where
    pub values_long : length values' ≡ length values
    pub lent : Lent P W positions' starts' lengths'
    pub each : (x : ℕ) → x < W → column_at K P values' positions' starts' lengths' x ≡ next x (column_at K P values positions starts lengths x)

  -- the same where the records alone move, whatever the values are: ageing looks at positions
  abbrev pub RecordsMoved : ℕ → ℕ → (ℕ → List (Entry A) → List (Entry A)) → List ℕ → List ℕ → List ℕ → List ℕ → List ℕ → Type 0
  RecordsMoved P W next positions starts lengths starts' lengths' = (values : List A) → Moved P W next values positions starts lengths values positions starts' lengths'

  -- a column's step t, which reads v, on its cells as they stand
  abbrev pub reads : Kind → ℕ → ℕ → A → List (Entry A) → List (Entry A)
  reads kind P t v = cells_stepped (K.passes kind v) P t v

  -- Every column has read its value of the row at step t, and r are the comparisons: the sum of those of "the columns' steps".
  pub record RowRead (kind : Kind) (P t : ℕ) (row values : List A) (positions starts lengths : List ℕ) (values' : List A) (positions' starts' lengths' : List ℕ) (r : ℕ) : Type 0 where
    pub moved : Moved P (length row) (λ x. reads kind P t (get_or row x K.order.blank)) values positions starts lengths values' positions' starts' lengths'
    pub counted : r ≡ sum_to (length row) (λ x. step_cost (K.passes kind (get_or row x K.order.blank)) (column_at K P values positions starts lengths x))
    pub few : r ≤ length row * 63

  -- the value in the cell of column x's start: the front of its queue, where that is not empty (`front_column`)
  unfoldable pub front_at : ℕ → List A → List ℕ → ℕ → A
  front_at P values starts x = get_or values (x * P + get_or starts x 0) K.order.blank

  -- v at position p is the entry at place k of column x's queue, read after s steps, if it has one there
  abbrev pub EntryAt : ℕ → List A → List ℕ → List ℕ → ℕ → ℕ → ℕ → A → ℕ → Type 0
  EntryAt P values positions starts x k s v p =
      (lengths : List ℕ) (none : Entry A) → k < get_or lengths x 0 → get_or (map (read_at s) (column_at K P values positions starts lengths x)) k none ≡ record { value = v; position = p }
