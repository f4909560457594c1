-- The laws of a stage's own step: reading a row, draining, and the row that is due. By which idea: each column is a line over the across-results (`column_queue`), and its
-- front after step y + F is the stage's answer in row y (`stage_front`).
use Rattle.std.proofs.Common.{◌≡◌, refl, sym, ap, ◌∙◌, subst, true, List, [], map, ℕ, suc, ◌+◌, ◌-◌, ◌*◌, ◌≤◌, ◌<◌, min, arith, lt-ltb, length, get_or, ext_get_or}
use Rattle.std.proofs.lemmas.List.{length-map}
use Rattle.morph.specs.declared.Kind.{Kind}
use Rattle.morph.specs.declared.Kind.TheVariants.{Erosion, Dilation}
use Rattle.morph.specs.Order.{Order, order_of, reach_back, ahead_of}
use Rattle.morph.specs.Lists.{Each, tabulate, sum_to}
use Rattle.morph.specs.Line.{Entry, filter_line, front, line_cost, line_costs}
use Rattle.morph.specs.Cell.{read_at}
use Rattle.morph.specs.Picture.{Picture, Stage as Filter, apply_stage, across, column}
use Rattle.morph.specs.Plan.{window, column_queue, stage_cost}
use Rattle.morph.specs.Inner.{roomed, stepped, step_cost, cells_roomed}
use Rattle.morph.proofs.Lists.{each_in, each_get_d, each_map, in_each, length_tabulate, get_d_tabulate, sum_to_same}
use Rattle.morph.proofs.Line.{queue_some, length_line, line_each}
use Rattle.morph.proofs.Step.{step_drain}
use Rattle.morph.proofs.Cell.{Fresh, held_fresh, cost_read, front_read, cells_stepped_law, cells_drained}
use Rattle.morph.proofs.Picture.{stage_wide, stage_length}
use Rattle.morph.proofs.Plan.{stage_front, across_at, column_length, stage_cost_drain}
use Rattle.sample.specs.Samples.{Samples}
use Rattle.queue.proofs.Steps.{next_queue, next_cost}
use Rattle.columns.specs.Inner.{Lent, RecordsMoved, RowRead, front_at}
use Rattle.memory.specs.Memory.{Memory, memory, column_at, Whole, StageHolds}
use Rattle.columns.proofs.Column.{front_column}
use Rattle.plan_record.specs.declared.Stage.{Stage}
use Rattle.plan_record.specs.Plan.{filter_of, size_of, below_of}
use Rattle.stage.specs.Inner.{RowTaken, StageMoved, StageStep}

-- the window looks ahead no further than its extents
pub ahead_small : (kind : Kind) (a b : ℕ) → a ≤ 31 → b ≤ 31 → ahead_of kind a b ≤ 31
ahead_small Erosion a b h k = k
ahead_small Dilation a b h k = h

-- a stage's memory, under other names for its places and its columns
pub lent_as : (P W P' W' : ℕ) (ps ss ls : List ℕ) → P' ≡ P → W' ≡ W → Lent P W ps ss ls → Lent P' W' ps ss ls
lent_as P W P' W' ps ss ls e f h = rw (e, f) h

-- the window down has c + d + 1 places, whichever way the rectangle is turned
pub size_window : {A : Type 0} (O : Order A) (s : Stage) → window (filter_of O s) ≡ size_of s
size_window O s = go s.kind
  where
    go : (kind : Kind) → reach_back kind s.up s.down + ahead_of kind s.up s.down + 1 ≡ s.up + s.down + 1
    go Erosion = refl
    go Dilation = omega arith

module _ {A : Type 0} (K : Samples A) (s : Stage) (W H : ℕ) (p : Picture A) (whole : Whole K W H p) where
  abbrev O : Order A
  O = order_of s.kind K.order

  abbrev S : Filter A
  S = filter_of K.order s

  abbrev F : ℕ
  F = below_of s

  abbrev line : ℕ → List A
  line x = column S x (across S p)

  line_long : (x : ℕ) → length (line x) ≡ H
  line_long x = column_length S x p 0 ∙ whole.high

  -- the across-results are accepted pixels too
  line_good : (x : ℕ) → x < W → Each (λ a. K.good a ≡ true) (line x)
  unfolding across
  line_good x h =
      each_map _ _ (across S p) (each_map _ _ p (each_in p (λ r i.
      let g = in_each _ p r whole.good i in
      let l : length r ≡ W = in_each _ p r whole.wide i in
      each_get_d _ (filter_line O S.back S.ahead r) x K.order.blank (line_each O _ S.back S.ahead r g) (rw length_line (omega arith)))))

  -- ---- a step that reads: each column reads its pixel of the row filtered across

  module _ (t : ℕ) (l : t < H) (row : List A) (e : row ≡ filter_line O S.back S.ahead (get_or p t [])) where
    pixel_read : (x : ℕ) → get_or row x K.order.blank ≡ get_or (line x) t K.order.blank
    pixel_read x = ap (λ r. get_or r x K.order.blank) e ∙ sym (across_at S x p t)

    column_next : (x : ℕ) → x < W → stepped (K.passes s.kind (get_or row x K.order.blank)) (size_of s) t (get_or row x K.order.blank) (column_queue S x p t) ≡ column_queue S x p (suc t)
    unfolding column_queue
    column_next x h =
        rw (← size_window K.order s)
        (next_queue K s.kind (line x) (line_good x h) (window S) t (get_or row x K.order.blank) (rw line_long l) (pixel_read x) (omega arith))

    column_cost : (x : ℕ) → x < W → step_cost (K.passes s.kind (get_or row x K.order.blank)) (column_queue S x p t) ≡ line_cost O (window S) (line x) t
    unfolding column_queue
    column_cost x h = next_cost K s.kind (line x) (line_good x h) (window S) t (get_or row x K.order.blank) (rw line_long l) (pixel_read x)

  -- ---- what each of the parts of a step tells of this picture

  -- the steps that the stage's queues have behind them at its step t
  abbrev done : ℕ → ℕ
  done t = min t (length p + F)

  module _ (t : ℕ) (M M' : Memory A) (holds : StageHolds K s W p t M) where
    -- column x's cells, as they stand
    abbrev cells : ℕ → List (Entry A)
    cells x = column_at K (size_of s) M.values M.positions M.starts M.lengths x

    -- before the stage's last step they are read at step t as its queue then, and each entry is one of the window
    held : t ≤ H + F → (x : ℕ) → x < W → map (read_at t) (cells x) ≡ column_queue S x p t
    held l x h = let m : done t ≡ t = omega (arith, whole.high) in rw m at (holds x h)

    fresh : t ≤ H + F → (x : ℕ) → x < W → Each (Fresh (size_of s) t) (cells x)
    unfolding column_queue
    fresh l x h = subst (λ w. Each (Fresh w t) (cells x)) (size_window K.order s) (held_fresh O (window S) (line x) t (cells x) (held l x h))

    -- the stage's row t comes in, has been filtered across, and is read by the columns
    module _ (l : t < H) (row : List A) (c r : ℕ) (read : RowRead K s.kind (size_of s) t row M.values M.positions M.starts M.lengths M'.values M'.positions M'.starts M'.lengths r)
        (long : length row ≡ W) (e : row ≡ filter_line O S.back S.ahead (get_or p t [])) (a : c ≡ line_costs O (S.back + S.ahead + 1) (get_or p t []) W) where
      pub read_holds : StageHolds K s W p (t + 1) M'
      read_holds x h =
          let m : done (t + 1) ≡ suc t = omega (arith, whole.high) in
          let v = get_or row x K.order.blank in
          rw m
          (ap (map (read_at (suc t))) (read.moved.each x (rw long h))
          ∙ cells_stepped_law (K.passes s.kind v) (size_of s) t v (cells x) (omega arith) (omega (arith, read.moved.lent.places)) (fresh (omega arith) x h)
          ∙ ap (stepped (K.passes s.kind v) (size_of s) t v) (held (omega arith) x h)
          ∙ column_next t l row e x h)

      pub read_cost : c + r ≡ stage_cost S W p t
      unfolding stage_cost
      read_cost =
          let q : r ≡ sum_to W (λ x. line_cost O (window S) (line x) t) =
          read.counted ∙ ap (λ n. sum_to n (λ x. step_cost (K.passes s.kind (get_or row x K.order.blank)) (cells x))) long
          ∙ sum_to_same W _ _ (λ x h.
          let f = K.passes s.kind (get_or row x K.order.blank) in
          sym (cost_read f t (cells x)) ∙ ap (step_cost f) (held (omega arith) x h) ∙ column_cost t l row e x h) in
          rw (lt-ltb t (length p) (omega (arith, whole.high)), a, q)

    -- no row is left, and the columns age
    pub drain_holds : H ≤ t → t < H + F → size_of s ≤ 63
        → ((x : ℕ) → x < W → column_at K (size_of s) M'.values M'.positions M'.starts M'.lengths x ≡ cells_roomed (size_of s) t (cells x))
        → StageHolds K s W p (t + 1) M'
    unfolding column_queue
    drain_holds l k small moved x h =
        let m : done (t + 1) ≡ suc t = omega (arith, whole.high) in
        rw m
        (ap (map (read_at (suc t))) (moved x h)
        ∙ cells_drained (size_of s) t (cells x) (omega arith) (omega arith) (fresh (omega arith) x h)
        ∙ ap (roomed (size_of s) t) (held (omega arith) x h)
        ∙ rw (← size_window K.order s) (step_drain O (window S) (line x) t (omega arith) (rw line_long l)))

  -- the stage has done its last step, and its queues stay
  pub done_holds : (t : ℕ) (M : Memory A) → H + F ≤ t → StageHolds K s W p t M → StageHolds K s W p (t + 1) M
  done_holds t M l holds x h = let m : done (t + 1) ≡ done t = omega (arith, whole.high) in rw m (holds x h)

  pub drain_cost : (t : ℕ) → H ≤ t → 0 ≡ stage_cost S W p t
  drain_cost t l = sym (stage_cost_drain S W p whole.wide t (omega (arith, whole.high)))

  -- column x has a front after step t, and it is that of its queue
  front_told : (t : ℕ) (M : Memory A) → StageHolds K s W p (t + 1) M → F ≤ t → t < H + F → ((x : ℕ) → x < W → get_or M.starts x 0 < size_of s)
      → (x : ℕ) → x < W → front_at K (size_of s) M.values M.starts x ≡ front O (column_queue S x p (t - F + F + 1))
  unfolding column_queue
  front_told t M holds a b below x h =
      let n : t - F + F + 1 ≡ done (t + 1) = omega (arith, whole.high) in
      let some = queue_some O (window S) (line x) (done (t + 1)) (omega arith) (omega arith) (rw line_long (omega (arith, whole.high))) in
      let q = column_at K (size_of s) M.values M.positions M.starts M.lengths x in
      let long : 0 < length q = rw (← holds x h, length-map q) at some in
      front_column K (size_of s) x M.values M.positions M.starts M.lengths O (below x h) long
      ∙ sym (front_read O (done (t + 1)) q) ∙ ap (front O) (holds x h ∙ ap (column_queue S x p) (sym n))

  -- the fronts after step t are the stage's row t - F
  pub fronts_row : (t : ℕ) (M : Memory A) → StageHolds K s W p (t + 1) M → F ≤ t → t < H + F
      → ((x : ℕ) → x < W → get_or M.starts x 0 < size_of s)
      → tabulate W (front_at K (size_of s) M.values M.starts) ≡ get_or (apply_stage S p) (t - F) []
  fronts_row t M holds a b below =
      let y : t - F < length p = omega (arith, whole.high) in
      let long : length (get_or (apply_stage S p) (t - F) []) ≡ W = each_get_d _ (apply_stage S p) (t - F) [] (stage_wide S W p whole.wide) (rw stage_length y) in
      ext_get_or K.order.blank _ _ (length_tabulate W _ ∙ sym long) (λ x h.
      let h' : x < W = omega (arith, length_tabulate W (front_at K (size_of s) M.values M.starts)) in
      get_d_tabulate W _ x K.order.blank h' ∙ front_told t M holds a b below x h' ∙ sym (stage_front S W p whole.wide (t - F) x K.order.blank y h'))

-- ---- the promises of the parts, put together

module _ {A : Type 0} (K : Samples A) (s : Stage) (H t : ℕ) (M : Memory A) (row : List A) where
  pub taken_moved : (M' : Memory A) (row' : List A) (c : ℕ) → t < H → RowTaken K s t M row M' row' c → StageMoved K s H t M row M' row' c
  taken_moved M' row' c l h =
      let w : length row' ≡ length row = h.filtered.long in
      record {
        values_long = h.read.moved.values_long;
        lent = rw (← w) h.read.moved.lent;
        row_long = w;
        few = omega (arith, h.sum, h.filtered.few, h.read.few, h.read.moved.lent.width);
        told = λ p whole holds e.
            let good : Each (λ a. K.good a ≡ true) row = rw (e l) (each_get_d _ p t [] whole.good (omega (arith, whole.high))) in
            let f = h.filtered.filtered good ∙ ap (filter_line (order_of s.kind K.order) _ _) (e l) in
            let a = h.filtered.counted good ∙ ap (λ r. line_costs (order_of s.kind K.order) (reach_back s.kind s.left s.right + ahead_of s.kind s.left s.right + 1) r (length row)) (e l) in (
              read_holds K s (length row) H p whole t M M' holds l row' h.across h.down h.read w f a,
              h.sum ∙ read_cost K s (length row) H p whole t M M' holds l row' h.across h.down h.read w f a,
            );
      }

  pub drained_moved : (ss ls : List ℕ) → H ≤ t → t < H + below_of s → length M.starts ≡ length row → RecordsMoved K (size_of s) (length M.starts) (λ _. cells_roomed (size_of s) t) M.positions M.starts M.lengths ss ls
      → StageMoved K s H t M row (memory M.values M.positions ss ls) row 0
  drained_moved ss ls l k w h = record {
    values_long = refl;
    lent = rw (← w) (h M.values).lent;
    row_long = refl;
    few = omega arith;
    told = λ p whole holds e. (
      drain_holds K s (length row) H p whole t M (memory M.values M.positions ss ls) holds l k (h M.values).lent.places (λ x i. (h M.values).each x (rw w i)),
      drain_cost K s (length row) H p whole t l,
    );
  }

  -- past the stage's last step
  pub done_step : H + below_of s ≤ t → Lent (size_of s) (length row) M.positions M.starts M.lengths → StageStep K s H t M row M row 0
  done_step l h = record {
    moved = record {
      values_long = refl;
      lent = h;
      row_long = refl;
      few = omega arith;
      told = λ p whole holds e. (done_holds K s (length row) H p whole t M l holds, drain_cost K s (length row) H p whole t (omega arith));
    };
    comes = λ p whole holds e a b. absurd (omega arith);
  }

  module _ (M' : Memory A) (row' : List A) (c : ℕ) (h : StageMoved K s H t M row M' row' c) where
    -- no row is due yet
    pub early_step : t < below_of s → StageStep K s H t M row M' row' c
    early_step l = record { moved = h; comes = λ p whole holds e a b. absurd (omega arith) }

    -- the fronts are the row that is due
    pub due_step : (row'' : List A) → row'' ≡ tabulate (length row') (front_at K (size_of s) M'.values M'.starts) → StageStep K s H t M row M' row'' c
    due_step row'' f = record {
      moved = record { values_long = h.values_long; lent = h.lent; row_long = ap length f ∙ length_tabulate (length row') _ ∙ h.row_long; few = h.few; told = h.told };
      comes = λ p whole holds e a b.
          f ∙ ap (λ n. tabulate n (front_at K (size_of s) M'.values M'.starts)) h.row_long
          ∙ fronts_row K s (length row) H p whole t M' (h.told p whole holds e).0 a b h.lent.sound.below;
    }
