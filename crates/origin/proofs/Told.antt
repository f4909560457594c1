-- What is told of the fronts of a stage's columns are the origins. By which idea: after step t the front of column x is the latest entry of its line that gives row t - F's pixel (`answer_front`), and of each row under the
-- window the columns are kept, in the place of the row's remainder.
use Rattle.std.proofs.Common.{◌≡◌, refl, sym, ap, ◌∙◌, List, [], map, ℕ, ◌+◌, ◌-◌, ◌*◌, ◌%◌, ◌≤◌, ◌<◌, min, add-zero, mod-lt, arith, le-leb, length, get_or, take, take-take}
use Rattle.std.proofs.lemmas.List.{length-map}
use Rattle.morph.specs.Lists.{tabulate}
use Rattle.morph.specs.Line.{Entry}
use Rattle.morph.specs.Cell.{age_of, row_of, read_at}
use Rattle.morph.specs.Ring.{wrap}
use Rattle.morph.specs.Picture.{Picture, Stage as Filter, across, column}
use Rattle.morph.specs.Plan.{window, column_queue}
use Rattle.morph.specs.Origin.{by_value, answer_at, origin_row_of, origin_column, positions_line}
use Rattle.morph.proofs.Lists.{each_get_d, get_d_tabulate, tabulate_ext}
use Rattle.morph.proofs.Line.{queue_some}
use Rattle.morph.proofs.Ring.{wrap_low}
use Rattle.morph.proofs.Plan.{column_length as column_long}
use Rattle.morph.proofs.Origin.{answer_front, answer_latest}
use Rattle.sample.specs.Samples.{Samples}
use Rattle.plan_record.specs.declared.Stage.{Stage}
use Rattle.plan_record.specs.Plan.{filter_of, size_of, below_of}
use Rattle.memory.specs.Memory.{Memory, cells_at, column_at, Whole, StageHolds}
use Rattle.columns.proofs.Column.{column_length, entry_column}
use Rattle.columns.proofs.Cells.{ends_before, cells_place}
use Rattle.stage.proofs.Stage.{size_window}
use Rattle.morph.proofs.Cell.{row_read, age_some}
use Rattle.origin.specs.Kept.{ColumnsKept}
use Rattle.origin.specs.Inner.{told_row, told_column, front_kept, FrontsTold}
use Rattle.origin.proofs.Ring.{slot_row}

-- what is read as a row that has been read is told by its age
row_age : (s r : ℕ) → row_of s r < s → row_of s r + age_of s r ≡ s
row_age s r h = let (a, b, c) = row_read s r h in omega arith

-- a cell whose row is under the window tells it, and its columns' place
module _ (P s k r : ℕ) (e : age_of s k + r ≡ s) (h : s ≤ r + P) where
  row_told : told_row P s k ≡ r
  unfolding told_row
  row_told = rw (le-leb (age_of s k) (min P s) (omega arith)) (omega arith)

  column_told : (W x : ℕ) (columns : List ℕ) → x < W → told_column P W s columns x k ≡ get_or (cells_at W (r % P) columns) x 0
  unfolding told_column
  column_told W x columns l =
      let n : s - age_of s k ≡ r = omega arith in
      rw (le-leb (age_of s k) (min P s) (omega arith), slot_row P s (age_of s k) (omega (arith, (age_some s k).0)) (age_some s k).0 (omega arith) (omega arith), n) (sym (cells_place W (r % P) x columns 0 l))

-- ---- no more is kept than the cells needed

cells_cut : (P W j : ℕ) (columns : List ℕ) → j < P → cells_at W j (take (W * P) columns) ≡ cells_at W j columns
cells_cut P W j columns h = rw (take-take (j * W + W) (W * P) columns (omega (arith, ends_before W j P h)))

module _ {A : Type 0} (F : Filter A) (P W : ℕ) (p : Picture A) (s : ℕ) (columns : List ℕ) (some : 0 < P) where
  pub kept_cut : ColumnsKept F P W p s columns → ColumnsKept F P W p s (take (W * P) columns)
  kept_cut kept r a b c = cells_cut P W (r % P) columns (mod-lt r some) ∙ kept r a b c

  pub cut_kept : ColumnsKept F P W p s (take (W * P) columns) → ColumnsKept F P W p s columns
  cut_kept kept r a b c = sym (cells_cut P W (r % P) columns (mod-lt r some)) ∙ kept r a b c

-- ---- the fronts

-- the column of an origin is the across position of its row
column_across : {A : Type 0} (F : Filter A) (W : ℕ) (p : Picture A) (y x : ℕ) → length (get_or p (origin_row_of F p y x) []) ≡ W → x < W
    → origin_column F p y x ≡ get_or (positions_line F.order F.back F.ahead (get_or p (origin_row_of F p y x) [])) x 0
unfolding origin_column positions_line
column_across F W p y x l h = sym (get_d_tabulate (length (get_or p (origin_row_of F p y x) [])) _ x 0 (omega arith))

module _ {A : Type 0} (K : Samples A) (s : Stage) (W H : ℕ) (p : Picture A) (whole : Whole K W H p) (t x : ℕ) (a : below_of s ≤ t) (b : t < H + below_of s) where
  abbrev F : Filter A
  F = filter_of K.order s

  abbrev line : List A
  line = column F x (across F p)

  line_long : length line ≡ H
  line_long = column_long F x p 0 ∙ whole.high

  -- the row of an origin has been read, and not more than the window's places ago
  row_recent : (origin_row_of F p (t - below_of s) x < H) × (origin_row_of F p (t - below_of s) x ≤ t) × (t < origin_row_of F p (t - below_of s) x + size_of s)
  unfolding origin_row_of
  row_recent =
      let e = answer_latest F.order F.above F.below line (t - below_of s) (omega (arith, line_long)) in
      let w : F.above + F.below + 1 ≡ size_of s = size_window K.order s in
      (omega (arith, e.there, line_long), omega (arith, e.right), omega (arith, e.left))

  module _ (M : Memory A) (holds : StageHolds K s W p (t + 1) M) (h : x < W) (l : get_or M.starts x 0 < size_of s) where
    abbrev cell : ℕ
    cell = x * size_of s + get_or M.starts x 0

    -- what stands in column x's cells, and that it is not empty
    held : map (read_at (t + 1)) (column_at K (size_of s) M.values M.positions M.starts M.lengths x) ≡ column_queue F x p (t - below_of s + F.below + 1)
    held =
        let n : min (t + 1) (length p + below_of s) ≡ t + 1 = omega (arith, whole.high) in
        let m : t - below_of s + below_of s + 1 ≡ t + 1 = omega arith in
        rw m (rw n at (holds x h))

    held_some : 0 < get_or M.lengths x 0
    unfolding column_queue
    held_some =
        let k = queue_some F.order (window F) line (t - below_of s + F.below + 1) (omega arith) (omega arith) (rw line_long (omega arith)) in
        rw (← held, length-map, column_length K (size_of s) x M.values M.positions M.starts M.lengths) at k

    -- the cell of its start has the latest entry that gives the pixel
    front_latest : record { value = get_or M.values cell K.order.blank; position = row_of (t + 1) (get_or M.positions cell 0) } ≡ answer_at F.order F.above F.below line (t - below_of s)
    unfolding column_queue
    front_latest =
        let w : get_or M.starts x 0 ≡ wrap (size_of s) (get_or M.starts x 0 + 0) = rw add-zero (sym (wrap_low (size_of s) (get_or M.starts x 0) l)) in
        sym (entry_column K (size_of s) x M.values M.positions M.starts (get_or M.starts x 0) 0 (get_or M.starts x 0) (t + 1) _ _ refl w l refl refl M.lengths (by_value F.order).blank held_some)
        ∙ ap (λ q. get_or q 0 (by_value F.order).blank) held ∙ answer_front F.order F.above F.below line (t - below_of s)

    -- it tells the row ..
    front_row : row_of (t + 1) (get_or M.positions cell 0) ≡ origin_row_of F p (t - below_of s) x
    unfolding origin_row_of
    front_row = ap (λ (e : Entry A). e.position) front_latest

    front_age : age_of (t + 1) (get_or M.positions cell 0) + origin_row_of F p (t - below_of s) x ≡ t + 1
    front_age =
        let e = front_row in
        let r = row_recent.1 in
        omega (arith, row_age (t + 1) (get_or M.positions cell 0) (omega arith))

    told_row_law : told_row (size_of s) (t + 1) (front_kept (size_of s) M.positions M.starts x) ≡ origin_row_of F p (t - below_of s) x
    unfolding front_kept
    told_row_law = row_told (size_of s) (t + 1) (get_or M.positions cell 0) (origin_row_of F p (t - below_of s) x) front_age (omega (arith, row_recent.2))

    -- .. and the columns kept of that row tell the column
    told_column_law : (columns : List ℕ) → ColumnsKept F (size_of s) W p (t + 1) columns
        → told_column (size_of s) W (t + 1) columns x (front_kept (size_of s) M.positions M.starts x) ≡ origin_column F p (t - below_of s) x
    unfolding front_kept
    told_column_law columns kept =
        let r = origin_row_of F p (t - below_of s) x in
        let (u, v, w) = row_recent in
        let wide : length (get_or p r []) ≡ W = each_get_d _ p r [] whole.wide (omega (arith, whole.high)) in
        column_told (size_of s) (t + 1) (get_or M.positions cell 0) r front_age (omega arith) W x columns h
        ∙ ap (λ l. get_or l x 0) (kept r (omega arith) (omega (arith, whole.high)) (omega arith)) ∙ sym (column_across F W p (t - below_of s) x wide h)

-- the rows that the fronts are told in
module _ {A : Type 0} (K : Samples A) (s : Stage) (W H : ℕ) (p : Picture A) (whole : Whole K W H p) (t : ℕ) (a : below_of s ≤ t) (b : t < H + below_of s) (M : Memory A) (holds : StageHolds K s W p (t + 1) M)
    (below : (x : ℕ) → x < W → get_or M.starts x 0 < size_of s) (columns : List ℕ) (out : List A) (rows cols : List ℕ)
    (f : FrontsTold K (size_of s) W (t + 1) M.values M.positions columns M.starts out rows cols) where
  pub fronts_rows : rows ≡ tabulate W (origin_row_of (filter_of K.order s) p (t - below_of s))
  fronts_rows = f.rows_told ∙ tabulate_ext W _ _ (λ x h. told_row_law K s W H p whole t x a b M holds h (below x h))

  pub fronts_columns : ColumnsKept (filter_of K.order s) (size_of s) W p (t + 1) columns → cols ≡ tabulate W (origin_column (filter_of K.order s) p (t - below_of s))
  fronts_columns kept = f.columns_told ∙ tabulate_ext W _ _ (λ x h. told_column_law K s W H p whole t x a b M holds h (below x h) columns kept)
