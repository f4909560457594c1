-- The stage's part of the memory and of the columns is lent, and comes back. By which idea: what is cut at the cells needed and put together again is itself, and what is behind is not touched.
use mathlib.Core.Path.{◌≡◌, sym, ap, ◌∙◌}
use mathlib.Core.List.{List, [], ◌∷◌, ◌++◌}
use Prim.Native.Nat.{ℕ, ◌+◌, ◌*◌, ◌≤◌, ◌<◌}
use native.Mathlib.Omega.{arith}
use lib.ListN.{length, get_or, take, drop, length-take}
use lib.Seq.{length-take-le, take_at, drop_at}
use Rattle.morph.proofs.Lists.{both}
use Rattle.sample.specs.Samples.{Samples}
use Rattle.plan_record.specs.declared.Stage.{Stage}
use Rattle.plan_record.specs.Inner.{Small}
use Rattle.plan_record.specs.Plan.{used, size_of, below_of, cells_of, cells_needed, plan_ahead}
use Rattle.memory.specs.Memory.{Memory, front_in, behind, all_sound}
use Rattle.columns.specs.Inner.{Lent}
use Rattle.chain.specs.Inner.{Begins}
use Rattle.chain.proofs.Memory.{Sized, AtLeast, append, append_front, append_behind}
use Rattle.chain.proofs.Plan.{front_lent}
use Rattle.origin.specs.Inner.{FrontsTold, OriginsMoved}
use Rattle.picture_state.specs.declared.State.{State}
use Rattle.picture_state.specs.Numbers.{height_of}
use Rattle.picture_state.specs.Inner.{Fit}
use Rattle.picture_origin.specs.Numbers.{OriginMemory, three_rows}
use Rattle.picture_origin.specs.Step.{only_stage}
use Rattle.picture_origin.specs.Inner.{only_cells, FrontsReady, OriginsFronted, FrontsBrought}
use Rattle.picture_origin.proofs.One.{ahead_one, cells_one, records_one}

in_front : {B : Type 0} (n : ℕ) (l : List B) → length (take n l) ≡ n → n ≤ length l
in_front n l e = omega (arith, rw length-take at e)

-- what a step that asks finds: the memory fits, there are as many columns as cells needed, and the plan has one stage
pub record Asks {A : Type 0} (S : State) (M : OriginMemory A) : Type 0 where
  pub fit : Fit S M.cells
  pub columns_lent : cells_needed S.plan S.width ≤ length M.columns
  pub count : S.plan.count ≡ 1
  pub one : used S.plan ≡ only_stage S ∷ []

module _ {A : Type 0} (K : Samples A) (S : State) (M : OriginMemory A) (h : Asks S M) where
  pub only_small : Small (only_stage S)
  only_small = h.fit.run.plan.small 0 (omega (arith, h.count))

  -- the memory begins with what the stage needs
  begins : Begins (only_stage S) S.width M.cells
  unfolding all_sound
  begins =
      let n = cells_one K S (only_stage S) h.one h.count in
      let r = records_one K S (only_stage S) h.one h.count in
      record {
        narrow = h.fit.run.narrow;
        small = only_small;
        values_long = omega (arith, h.fit.values_lent);
        positions_long = omega (arith, h.fit.positions_lent);
        starts_long = omega (arith, h.fit.starts_lent);
        lengths_long = omega (arith, h.fit.lengths_lent);
        sound = (both _ _ (rw h.one at h.fit.sound)).0;
      }

  module _ (row : List A) (wide : length row ≡ S.width) where
    lent : Lent (size_of (only_stage S)) (length row) (take (only_cells S) M.cells.positions) (take S.width M.cells.starts) (take S.width M.cells.lengths)
        × (length (take (only_cells S) M.cells.values) ≡ length (take (only_cells S) M.cells.positions))
        × (length (take (only_cells S) M.columns) ≡ length (take (only_cells S) M.cells.positions))
    lent =
        let b : Begins (only_stage S) (length row) M.cells = rw wide begins in
        let (l, v) = front_lent K (only_stage S) (height_of S) S.step M.cells row b (only_cells S) (ap (λ n. cells_of n (only_stage S)) (sym wide)) in
        let n = cells_one K S (only_stage S) h.one h.count in (
          rw wide (rw wide at l),
          v,
          length-take-le (only_cells S) M.columns (omega (arith, h.columns_lent)) ∙ sym (length-take-le (only_cells S) M.cells.positions begins.positions_long),
        )

    -- the part comes back as F and columns'
    back : (F : Memory A) (columns' : List ℕ) (row' : List A) (r : ℕ)
        → OriginsMoved K (only_stage S) (height_of S) S.step (front_in (only_cells S) S.width M.cells) (take (only_cells S) M.columns) row F columns' row' r
        → OriginsFronted K S M row (record { cells = append F (behind (only_cells S) S.width M.cells); columns = columns' ++ drop (only_cells S) M.columns }) row' r
    back F columns' row' r m =
        let b = begins in
        let n = cells_one K S (only_stage S) h.one h.count in
        let sized : Sized (only_cells S) S.width F = record {
          values_long = m.plain.values_long ∙ length-take-le (only_cells S) M.cells.values b.values_long;
          positions_long = rw wide at m.plain.lent.positions_long;
          starts_long = m.plain.lent.starts_long ∙ wide;
          lengths_long = m.plain.lent.lengths_long ∙ wide;
        } in
        let l : length columns' ≡ only_cells S = m.columns_long ∙ length-take-le (only_cells S) M.columns (omega (arith, h.columns_lent)) in
        record {
          one = h.one;
          moved = rw (append_front (only_cells S) S.width F (behind (only_cells S) S.width M.cells) sized, take_at columns' (drop (only_cells S) M.columns) (only_cells S) l) m;
          rest = append_behind (only_cells S) S.width F (behind (only_cells S) S.width M.cells) sized;
          columns_rest = drop_at columns' (drop (only_cells S) M.columns) (only_cells S) l;
        }

  -- the same of the stage and the cells as the code has them
  module _ (stage : Stage) (e : stage ≡ only_stage S) (cells : ℕ) (c : cells ≡ cells_of S.width stage) where
    pub cells_lent : AtLeast cells S.width M.cells × (cells ≤ length M.columns)
    cells_lent =
        let b = begins in
        let n = cells_one K S (only_stage S) h.one h.count in
        rw (c, e) (record { values_long = b.values_long; positions_long = b.positions_long; starts_long = b.starts_long; lengths_long = b.lengths_long }, omega (arith, h.columns_lent))

    module _ (row : List A) (wide : length row ≡ S.width) where
      -- what the stage's step asks for
      pub part_lent : (rows : ℕ) → rows ≡ height_of S → S.step < height_of S + plan_ahead S.plan
          → Small stage × (rows ≤ 4294967297)
          × Lent (size_of stage) (length row) (take cells M.cells.positions) (take S.width M.cells.starts) (take S.width M.cells.lengths)
          × (length (take cells M.cells.values) ≡ length (take cells M.cells.positions))
          × (length (take cells M.columns) ≡ length (take cells M.cells.positions))
          × (S.step < rows + below_of stage)
      part_lent rows d within =
          let a = ahead_one K S (only_stage S) h.one h.count in
          let (l, v, k) = lent row wide in
          rw (c, e, d) (only_small, h.fit.run.low, l, v, k, omega arith)

      pub part_back : (rows : ℕ) → rows ≡ height_of S → (F : Memory A) (columns' : List ℕ) (row' : List A) (r : ℕ)
          → OriginsMoved K stage rows S.step (front_in cells S.width M.cells) (take cells M.columns) row F columns' row' r
          → OriginsFronted K S M row (record { cells = append F (behind cells S.width M.cells); columns = columns' ++ drop cells M.columns }) row' r
      part_back rows d F columns' row' r m = rw (c, e) (back row wide F columns' row' r (rw (c, e, d) at m))

  -- ---- the fronts are taken of what came back

  module _ (row : List A) (wide : length row ≡ S.width) (M' : OriginMemory A) (row' : List A) (r : ℕ) (f : OriginsFronted K S M row M' row' r) where
    pub brings : FrontsReady S M'.cells.values M'.cells.positions M'.columns M'.cells.starts
    brings =
        let b = begins in
        let n = cells_one K S (only_stage S) h.one h.count in
        let m = f.moved.plain in
        record {
          count = h.count;
          small = only_small;
          narrow = b.narrow;
          counted = h.fit.run.counted;
          values_long = in_front (only_cells S) M'.cells.values (m.values_long ∙ length-take-le (only_cells S) M.cells.values b.values_long);
          positions_long = in_front (only_cells S) M'.cells.positions (rw wide at m.lent.positions_long);
          columns_long = in_front (only_cells S) M'.columns (f.moved.columns_long ∙ length-take-le (only_cells S) M.columns (omega (arith, h.columns_lent)));
          starts_long = in_front S.width M'.cells.starts (m.lent.starts_long ∙ wide);
          below = rw wide at m.lent.sound.below;
        }

module _ {A : Type 0} (K : Samples A) (S : State) (values : List A) (positions columns starts : List ℕ) (h : FrontsReady S values positions columns starts)
    (stage : Stage) (e : stage ≡ only_stage S) (cells : ℕ) (c : cells ≡ cells_of S.width stage) where
  pub fronts_lent : (cells ≤ length values) × (cells ≤ length positions) × (cells ≤ length columns)
  fronts_lent = rw (c, e) (h.values_long, h.positions_long, h.columns_long)

  module _ (places : ℕ) (p : places ≡ size_of stage) (W : ℕ) (wide : W ≡ S.width) where
    -- what the code that takes them asks for
    pub fronts_asked : (0 < places) × (places ≤ 63) × (W ≤ 4096) × (length (take cells values) ≡ W * places) × (length (take cells positions) ≡ length (take cells values))
        × (length (take cells columns) ≡ length (take cells values)) × (length (take S.width starts) ≡ W) × ((x : ℕ) → x < W → get_or (take S.width starts) x 0 < places)
    fronts_asked =
        let v : length (take (only_cells S) values) ≡ only_cells S = length-take-le (only_cells S) values h.values_long in
        rw (p, c, e, wide) (
          omega arith,
          omega (arith, h.small.up, h.small.down),
          h.narrow,
          v,
          length-take-le (only_cells S) positions h.positions_long ∙ sym v,
          length-take-le (only_cells S) columns h.columns_long ∙ sym v,
          length-take-le S.width starts h.starts_long,
          h.below,
        )

    pub fronts_brought : (out : List A) (rows cols : List ℕ)
        → FrontsTold K places W (S.step + 1) (take cells values) (take cells positions) (take cells columns) (take S.width starts) out rows cols
        → FrontsBrought K S values positions columns starts (three_rows out rows cols)
    fronts_brought out rows cols f = rw (p, c, e, wide) at f
