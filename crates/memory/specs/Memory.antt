-- What a reader believes of lent memory: what it is, which part of it is a stage's and which a column's, which records are sound, and what it holds after some steps.
-- With P places a column, P = c + d + 1, and W columns, a stage has W * P cells, a value and a position each, the position kept as specs/Cell.antt of crate morph says, and W records, a start and a length each. Column x has the
-- P cells from x * P on, and record x. The stages of a plan have their parts one behind another, the first at the front.
use Rattle.std.specs.Prelude.{◌≡◌, true, Bool, ◌&&◌, List, [], ◌∷◌, map, ℕ, ◌+◌, ◌-◌, ◌<◌, min, ◌*◌, zero, suc, length, get_or, take, drop, leb, ltb}
use Rattle.std.proofs.Math.Seq.{slice}
use Rattle.morph.specs.Lists.{Each, all}
use Rattle.morph.specs.Picture.{Picture, Wide, apply_stage}
use Rattle.morph.specs.Plan.{column_queue}
use Rattle.morph.specs.Line.{Entry}
use Rattle.morph.specs.Ring.{entries}
use Rattle.morph.specs.Cell.{read_at}
use Rattle.sample.specs.Samples.{Samples}
use Rattle.plan_record.specs.declared.Stage.{Stage}
use Rattle.plan_record.specs.Plan.{unused, filter_of, size_of, below_of, cells_of, total}

-- ---- the memory

-- "queue cells, a value and a position each, and one record per column": the memory lent; a record has the start and the length of its column's queue
pub record Memory (A : Type 0) : Type 0 where
  pub values : List A
  pub positions : List ℕ
  pub starts : List ℕ
  pub lengths : List ℕ

-- the memory of these values, positions, starts and lengths
abbrev pub memory : {A : Type 0} → List A → List ℕ → List ℕ → List ℕ → Memory A
memory v p s l = record { values = v; positions = p; starts = s; lengths = l }

-- ---- a stage's part

module _ {A : Type 0} where
  -- the front of the memory that is a stage's own, of that many cells and records ..
  abbrev pub front_in : ℕ → ℕ → Memory A → Memory A
  front_in cells W M = memory (take cells M.values) (take cells M.positions) (take W M.starts) (take W M.lengths)

  -- .. and the memory behind it, which is that of the stages after it
  abbrev pub behind : ℕ → ℕ → Memory A → Memory A
  behind cells W M = memory (drop cells M.values) (drop cells M.positions) (drop W M.starts) (drop W M.lengths)

-- ---- a stage's own steps

-- "A stage's own step is the plan's step less the F down of the stages before it; .. and after its last, H-1+F, they stay as they are": the steps that the stage with i stages before it has done
-- after t steps of the plan over H rows. By this count its cells are read: "the step count, that is the stage's own, which stays at its last step once that is done" (02, 10/13).
abbrev pub stage_steps : List Stage → ℕ → ℕ → ℕ → ℕ
stage_steps ss H t i = min (t - total below_of (take i ss)) (H + below_of (get_or ss i unused))

-- ---- a column's queue

-- "width × (c+d+1) queue cells": the P cells of column x
abbrev pub cells_at : {B : Type 0} → ℕ → ℕ → List B → List B
cells_at P x cells = slice (x * P) (x * P + P) cells

module _ {A : Type 0} (K : Samples A) where
  -- "Each column of a stage is a line of its own": the queue of column x, oldest first, as its cells keep it: a position is the remainder of a row's number
  unfoldable pub column_at : ℕ → List A → List ℕ → List ℕ → List ℕ → ℕ → List (Entry A)
  column_at P values positions starts lengths x = entries K.order.blank P (get_or starts x 0) (get_or lengths x 0) (cells_at P x values) (cells_at P x positions)

  -- The same of column x of the stage with i stages before it, on the memory of these stages for rows of W pixels: the stage's part is that of `Holds`.
  unfoldable pub kept_at : List Stage → ℕ → Memory A → ℕ → ℕ → List (Entry A)
  kept_at [] W M i x = []
  kept_at (s ∷ ss) W M zero x =
      column_at (size_of s) (front_in (cells_of W s) W M).values (front_in (cells_of W s) W M).positions (front_in (cells_of W s) W M).starts (front_in (cells_of W s) W M).lengths x
  kept_at (s ∷ ss) W M (suc i) x = kept_at ss W (behind (cells_of W s) W M) i x

  -- that queue as it is read after t steps of the plan over H rows: a position is a row's number
  unfoldable pub queue_at : List Stage → ℕ → ℕ → ℕ → Memory A → ℕ → ℕ → List (Entry A)
  queue_at ss W H t M i x = map (read_at (stage_steps ss H t i)) (kept_at ss W M i x)

-- ---- which records are sound

-- Rule 12 of the records of one stage: "a queue's start is not below its places, or its length over its window (c+d+1 for both in a column ..)" in none of them.
-- `test_sound` and `sound_test` prove that the test is true exactly where each record is so (`RecordsSound`).
unfoldable pub sound_records : ℕ → List ℕ → List ℕ → Bool
sound_records P starts lengths = all (λ s. ltb s P) starts && all (λ n. leb n P) lengths

-- .. and of all records of all stages, a stage's first W of them its own
unfoldable pub all_sound : ℕ → List Stage → List ℕ → List ℕ → Bool
all_sound W [] starts lengths = true
all_sound W (s ∷ ss) starts lengths = sound_records (size_of s) (take W starts) (take W lengths) && all_sound W ss (drop W starts) (drop W lengths)

-- ---- what it holds

module _ {A : Type 0} (K : Samples A) where
  -- "A picture has width .. and .. rows": one of W columns and H rows whose pixels are accepted ones, as they are read
  pub record Whole (W H : ℕ) (p : Picture A) : Type 0 where
    pub wide : Wide W p
    pub high : length p ≡ H
    pub good : Each (Each (λ a. K.good a ≡ true)) p

  -- After t of the stage's own steps over p each column holds its queue, its cells being read through the steps done: "before its step 0 its queues are empty, and after its last, H-1+F, they stay as they are".
  abbrev pub StageHolds : Stage → ℕ → Picture A → ℕ → Memory A → Type 0
  StageHolds s W p t M =
      (x : ℕ) → x < W
      → map (read_at (min t (length p + below_of s))) (column_at K (size_of s) M.values M.positions M.starts M.lengths x)
      ≡ column_queue (filter_of K.order s) x p (min t (length p + below_of s))

  -- After t steps of a plan over p each column of each stage holds its queue; a stage's own steps are those after the look-ahead of the stages before it.
  unfoldable pub Holds : List Stage → ℕ → Picture A → ℕ → Memory A → Type 0
  Holds [] W p t M = Unit {0}
  Holds (s ∷ ss) W p t M = StageHolds s W p t (front_in (cells_of W s) W M) × Holds ss W (apply_stage (filter_of K.order s) p) (t - below_of s) (behind (cells_of W s) W M)
