-- The origins of an output row rest on the rows up to D below it: whatever rows come after, they stay. By which idea: so does the answer of a line.
use mathlib.Core.Path.{◌≡◌, sym, ap, ◌∙◌}
use mathlib.Core.List.{List, [], ◌∷◌}
use Prim.Native.Nat.{ℕ, ◌+◌, ◌-◌, ◌<◌, min}
use native.Mathlib.Omega.{arith}
use borrow.Author.Tests.{leb-true, lt-ltb}
use lib.Dec.{leb}
use lib.ListN.{length, get_or, take, length-take}
use lib.Seq.{take-take, get_or-take}
use Rattle.morph.specs.Order.{Order}
use Rattle.morph.specs.Line.{Entry, output_at}
use Rattle.morph.specs.Picture.{Picture, Stage, apply_stage, apply_plan, look_ahead_of, across, column}
use Rattle.morph.specs.Origin.{answer_at, origin_row_of, origin_column}
use Rattle.morph.proofs.Lists.{split, take_map, tabulate_ext}
use Rattle.morph.proofs.Picture.{plan_row}
use Rattle.morph.proofs.Plan.{column_length}
use Rattle.morph.proofs.Origin.{answer_latest}
use Rattle.sample.specs.Samples.{Samples}
use Rattle.plan_record.specs.Plan.{plan_ahead}
use Rattle.picture_state.specs.declared.State.{State}
use Rattle.picture_origin.specs.Numbers.{OriginRows}
use Rattle.picture_origin.specs.Step.{only_filter}
use Rattle.origin_runs.specs.OriginRuns.{origins_of, origins_at}

answer_rests : {A : Type 0} (O : Order A) (back ahead : ℕ) (xs : List A) (x m : ℕ) → x + ahead < m → answer_at O back ahead xs x ≡ answer_at O back ahead (take m xs) x
unfolding answer_at
answer_rests O back ahead xs x m h = rw (take-take (x + ahead + 1) m xs (omega arith))

module _ {A : Type 0} (F : Stage A) (p : Picture A) (y m : ℕ) (h : y + F.below < m) where
  column_take : (x : ℕ) → column F x (across F (take m p)) ≡ take m (column F x (across F p))
  unfolding across
  column_take x = simp take_map

  row_rests : (x : ℕ) → origin_row_of F p y x ≡ origin_row_of F (take m p) y x
  unfolding origin_row_of
  row_rests x =
      ap (λ (e : Entry A). e.position)
      (answer_rests F.order F.above F.below (column F x (across F p)) y m h ∙ ap (λ l. answer_at F.order F.above F.below l y) (sym (column_take x)))

  -- of a row that the picture has
  module _ (k : y < length p) where
    row_under : (x : ℕ) → origin_row_of F p y x < m
    unfolding origin_row_of
    row_under x = let a = answer_latest F.order F.above F.below (column F x (across F p)) y (rw (column_length F x p 0) k) in omega (arith, a.right)

    column_rests : (x : ℕ) → origin_column F p y x ≡ origin_column F (take m p) y x
    unfolding origin_column
    column_rests x =
        ap (λ l. (answer_at F.order F.back F.ahead l x).position) (sym (get_or-take m p (origin_row_of F p y x) [] (row_under x)) ∙ ap (λ r. get_or (take m p) r []) (row_rests x))

    pub origin_rests : (x : ℕ) → (origin_row_of F p y x ≡ origin_row_of F (take m p) y x) × (origin_column F p y x ≡ origin_column F (take m p) y x)
    origin_rests x = (row_rests x, column_rests x)

  pixels_rest : get_or (apply_stage F p) y [] ≡ get_or (apply_stage F (take m p)) y []
  unfolding apply_plan look_ahead_of
  pixels_rest = plan_row (F ∷ []) y m p (omega arith)

pub rows_same : {A : Type 0} (a b : OriginRows A) → a.pixels ≡ b.pixels → a.rows ≡ b.rows → a.columns ≡ b.columns → a ≡ b
rows_same a b e f g =
    ap (λ l. record { pixels = l; rows = a.rows; columns = a.columns }) e ∙ ap (λ l. record { pixels = b.pixels; rows = l; columns = a.columns }) f
    ∙ ap (λ l. record { pixels = b.pixels; rows = b.rows; columns = l }) g

-- what comes at a step that reads a row
module _ {A : Type 0} (K : Samples A) (S : State) (one : (only_filter K S).below ≡ plan_ahead S.plan) (p : Picture A) (m : ℕ) where
  abbrev F : Stage A
  F = only_filter K S

  row_origins_rest : (k : ℕ) → k + F.below < m → k < length p → origins_of K S p k ≡ origins_of K S (take m p) k
  row_origins_rest k h l =
      rows_same (origins_of K S p k) (origins_of K S (take m p) k) (pixels_rest F p k m h) (tabulate_ext S.width _ _ (λ x _. (origin_rests F p k m h l x).0))
      (tabulate_ext S.width _ _ (λ x _. (origin_rests F p k m h l x).1))

  pub origins_rest : (t : ℕ) → t < m → t < length p → origins_at K S p t ≡ origins_at K S (take m p) t
  unfolding output_at
  origins_rest t h l =
      let D = plan_ahead S.plan in
      split (leb D t)
      (λ b.
      let d = leb-true D t b in
      let e = row_origins_rest (t - D) (omega (arith, one)) (omega arith) in
      rw (b, length-take m p, lt-ltb (t - D) (length p) (omega arith), lt-ltb (t - D) (min m (length p)) (omega arith), e))
      (λ b. rw b)
