-- A stage's step that keeps the columns of its row: from what its parts promise to what it makes of them for every picture.
use Rattle.std.proofs.Common.{◌≡◌, refl, ap, ◌∙◌, true, List, [], ℕ, ◌+◌, ◌*◌, ◌%◌, ◌≤◌, ◌<◌, mod-lt, arith, length, drop, length-drop, length-take-le, drop-drop}
use borrow.Rule.Slice.PartMut.{mid_of, put_mid, same_len_mid}
use Rattle.morph.specs.Order.{order_of, reach_back, ahead_of}
use Rattle.morph.specs.Lists.{Each}
use Rattle.morph.specs.Inner.{cells_roomed}
use Rattle.morph.specs.Origin.{positions_line}
use Rattle.morph.proofs.Lists.{each_get_d}
use Rattle.sample.specs.Samples.{Samples}
use Rattle.row.specs.Inner.{AcrossOrigins}
use Rattle.plan_record.specs.declared.Stage.{Stage}
use Rattle.plan_record.specs.Plan.{filter_of, size_of, below_of}
use Rattle.memory.specs.Memory.{Memory, memory}
use Rattle.columns.specs.Inner.{Lent, RecordsMoved, RowRead}
use Rattle.columns.proofs.Cells.{ends_before, put_here, put_beside}
use Rattle.stage.proofs.Stage.{taken_moved, drained_moved}
use Rattle.origin.specs.Inner.{OriginsTaken, OriginsMoved}
use Rattle.origin.proofs.Ring.{kept_read, kept_drained}

-- the row of the ring that is row t's lies within it
pub ring_in : (P W t : ℕ) (columns ps ss ls : List ℕ) → 0 < P → Lent P W ps ss ls → length columns ≡ length ps → t % P * W + W ≤ length columns
ring_in P W t columns ps ss ls z lent e = omega (arith, ends_before W (t % P) P (mod-lt t z), lent.positions_long)

module _ {A : Type 0} (K : Samples A) (s : Stage) (t : ℕ) (M : Memory A) (columns : List ℕ) (row : List A) where
  -- Row t's part of the ring, lo its first and k its length as the code has them, is lent to the row that goes across, and comes back as ys.
  pub origins_taken : (M' : Memory A) (row' : List A) (ys : List ℕ) (lo k across down : ℕ) → Lent (size_of s) (length row) M.positions M.starts M.lengths → length columns ≡ length M.positions
      → lo ≡ t % size_of s * length row → k ≡ length row
      → AcrossOrigins K s.kind (reach_back s.kind s.left s.right) (ahead_of s.kind s.left s.right) row (mid_of lo k columns) row' ys across
      → RowRead K s.kind (size_of s) t row' M.values M.positions M.starts M.lengths M'.values M'.positions M'.starts M'.lengths down
      → OriginsTaken K s t M columns row M' (put_mid lo k columns ys) row' (across + down)
  origins_taken M' row' ys lo k across down lent e at all f read =
      let W = length row in
      let j = t % size_of s in
      let inside = ring_in (size_of s) (length row) t columns M.positions M.starts M.lengths (omega arith) lent e in
      let long : length (mid_of lo k columns) ≡ length row = rw (at, all) (length-take-le (length row) (drop (t % size_of s * length row) columns) (rw length-drop (omega arith))) in
      let ys_long : length ys ≡ length row = f.columns_long ∙ long in
      record {
        plain = record { across = across; down = down; sum = refl; filtered = f.across; read = read };
        columns_long = same_len_mid lo k columns ys f.columns_long;
        beside = rw (at, all) (put_beside W j columns ys inside ys_long);
        here = λ good. rw (at, all) (put_here W j columns ys inside ys_long ∙ f.given good);
        put = λ good. ap (put_mid lo k columns) (f.given good) ∙ rw (at, all, drop-drop (length row) (t % size_of s * length row) columns);
      }

  module _ (H : ℕ) where
    pub taken_origins : (M' : Memory A) (columns' : List ℕ) (row' : List A) (c : ℕ) → t < H → OriginsTaken K s t M columns row M' columns' row' c → OriginsMoved K s H t M columns row M' columns' row' c
    taken_origins M' columns' row' c l h = record {
      plain = taken_moved K s H t M row M' row' c l h.plain;
      columns_long = h.columns_long;
      put = λ _ good. h.put good;
      stay = λ m. absurd (omega arith);
      keeps = λ p whole e kept.
          let good : Each (λ a. K.good a ≡ true) row = rw (e l) (each_get_d _ p t [] whole.good (omega (arith, whole.high))) in
          kept_read (filter_of K.order s) (size_of s) (length row) p t columns kept columns' h.beside (h.here good ∙ ap (positions_line (order_of s.kind K.order) _ _) (e l));
    }

    pub drained_origins : (ss ls : List ℕ) → H ≤ t → t < H + below_of s → length M.starts ≡ length row
        → RecordsMoved K (size_of s) (length M.starts) (λ _. cells_roomed (size_of s) t) M.positions M.starts M.lengths ss ls
        → OriginsMoved K s H t M columns row (memory M.values M.positions ss ls) columns row 0
    drained_origins ss ls l k w h = record {
      plain = drained_moved K s H t M row ss ls l k w h;
      columns_long = refl;
      put = λ m good. absurd (omega arith);
      stay = λ _. refl;
      keeps = λ p whole e kept. kept_drained (filter_of K.order s) (size_of s) (length row) p t columns kept (omega (arith, whole.high));
    }
