-- What an accepted step has that asks for origins. By which idea: such a call differs from one that does not ask in the cells that it counts and in the rows out, so that each is accepted where the other is.
use mathlib.Core.Path.{◌≡◌, sym, ◌∙◌}
use mathlib.Core.Bool.{true, not, ◌||◌}
use mathlib.Core.List.{List, [], ◌∷◌}
use Prim.Native.Nat.{ℕ, ◌≤◌, min}
use native.Mathlib.Omega.{arith}
use borrow.Author.Tests.{le-ltb}
use lib.Dec.{eqb}
use lib.ListN.{length}
use Rattle.morph.specs.Lists.{all}
use Rattle.morph.specs.Numbers.{given}
use Rattle.morph.proofs.Numbers.{first_one, first_skip, first_found, first_zero, given_zero}
use Rattle.sample.specs.Samples.{Samples}
use Rattle.plan_record.specs.declared.Plan.{Plan}
use Rattle.plan_record.specs.Plan.{cells_needed, records_needed, plan_ahead}
use Rattle.picture_state.specs.declared.State.{State}
use Rattle.picture_state.specs.Numbers.{is_all_read, is_past_last, has_no_drain, memory_number, state_number, state_kind_number, records_number, shared_number, offer_number, row_number, drain_number, drain_judged}
use Rattle.picture_state.proofs.Numbers.{shared_accepted, shared_records, offer_all, offer_accepted, drain_all, drain_accepted}
use Rattle.picture_state.proofs.Step.{Taken, offer_taken, drain_taken}
use Rattle.picture_origin.specs.Numbers.{OriginMemory, OriginRows, asked_number, origin_offer_number, origin_row_number, origin_drain_number}
use Rattle.picture_origin.proofs.Judged.{alike_all, alike_each, asked_accepted, asked_one, beside, outs, lent_at, offer_at, drain_at, offer_judged_law, drain_judged_law}

-- ---- calls with other cells and other rows out, that are right too

memory_enough : (plan : Plan) (width cells records : ℕ) → cells_needed plan width ≤ cells → records_needed plan width ≤ records → memory_number plan width cells records ≡ 0
unfolding memory_number
memory_enough plan width cells records h k = rw (le-ltb cells (cells_needed plan width) h, le-ltb records (records_needed plan width) k)

module _ (kind : ℕ) (S : State) (records : ℕ) (starts lengths : List ℕ) where
  shared_state : (cells : ℕ) → shared_number kind S cells records starts lengths ≡ 0 → state_number S ≡ 0
  unfolding shared_number
  shared_state cells e = (first_zero (state_number S) (state_kind_number kind S ∷ memory_number S.plan S.width cells records ∷ records_number S starts lengths ∷ []) e).0

  -- other cells, that are enough too
  shared_other : (cells other : ℕ) → shared_number kind S cells records starts lengths ≡ 0 → cells_needed S.plan S.width ≤ other → shared_number kind S other records starts lengths ≡ 0
  shared_other cells other e h =
      let s = shared_accepted kind S cells records starts lengths e in
      sym (shared_records kind S other records starts lengths (shared_state cells e) s.sample true (memory_enough S.plan S.width other records h s.records_lent) (sym s.sound))

module _ {A : Type 0} (kind : ℕ) (S : State) (M : OriginMemory A) (positions out : ℕ) where
  abbrev records : ℕ
  records = min (length M.cells.starts) (length M.cells.lengths)

  lent_state : lent_at kind S M positions ≡ 0 → state_number S ≡ 0
  lent_state e = shared_state kind S records M.cells.starts M.cells.lengths (min (length M.cells.values) positions) e

  lent_cells : lent_at kind S M positions ≡ 0 → cells_needed S.plan S.width ≤ min (length M.cells.values) positions
  lent_cells e = (shared_accepted kind S (min (length M.cells.values) positions) records M.cells.starts M.cells.lengths e).cells_lent

  module _ (positions' out' : ℕ) (c : cells_needed S.plan S.width ≤ positions') where
    lent_other : lent_at kind S M positions ≡ 0 → lent_at kind S M positions' ≡ 0
    lent_other e =
        let h : cells_needed S.plan S.width ≤ min (length M.cells.values) positions' = omega (arith, lent_cells e) in
        shared_other kind S records M.cells.starts M.cells.lengths (min (length M.cells.values) positions) (min (length M.cells.values) positions') e h

    module _ (o : out' ≡ S.width) where
      offer_other : (row : ℕ) → offer_at kind S M positions row out ≡ 0 → offer_at kind S M positions' row out' ≡ 0
      unfolding offer_number
      offer_other row e =
          let seven : ℕ = given 7 (not (eqb row S.width) || not (eqb out S.width)) in
          let last : ℕ = given 28 (is_past_last S.ending S.step) in
          let nine : ℕ = given 9 (is_all_read S.ending S.rows S.step) in
          let (a, b) = first_zero (lent_at kind S M positions) (nine ∷ last ∷ seven ∷ []) e in
          let (d, f) = first_zero nine (last ∷ seven ∷ []) b in
          let (g, _) = first_zero last (seven ∷ []) f in
          let w = (offer_accepted kind S (length M.cells.values) positions M.cells.starts M.cells.lengths row out e).wide in
          sym (offer_all kind S (length M.cells.values) positions' M.cells.starts M.cells.lengths row out' (lent_other a) (given_zero 8 _ d) (given_zero 27 _ g) w o)

      drain_other : drain_at kind S M positions out ≡ 0 → drain_at kind S M positions' out' ≡ 0
      unfolding drain_number
      drain_other e =
          let seven : ℕ = given 7 (not (eqb out S.width)) in
          let ten : ℕ = given 10 (has_no_drain S.ending S.rows (plan_ahead S.plan) S.step) in
          let (a, b) = first_zero (lent_at kind S M positions) (ten ∷ seven ∷ []) e in
          let (d, _) = first_zero ten (seven ∷ []) b in
          sym (drain_all kind S (length M.cells.values) positions' M.cells.starts M.cells.lengths out' (lent_other a) (given_zero 9 _ d) o)

-- ---- what an accepted step has

-- a plan of one stage, what a step has that does not ask, a column for each cell needed, and rows of origins as long as the width
pub record OriginTaken {A : Type 0} (S : State) (M : OriginMemory A) (out : OriginRows A) : Type 0 where
  pub one : S.plan.count ≡ 1
  pub taken : Taken S M.cells out.pixels
  pub columns_lent : cells_needed S.plan S.width ≤ length M.columns
  pub rows_wide : length out.rows ≡ S.width
  pub columns_wide : length out.columns ≡ S.width

module _ {A : Type 0} (kind : ℕ) (S : State) (M : OriginMemory A) where
  -- the cells needed are there among the positions, and among the columns
  beside_lent : lent_at kind S M (beside M) ≡ 0 → (cells_needed S.plan S.width ≤ length M.cells.positions) × (cells_needed S.plan S.width ≤ length M.columns)
  beside_lent e = let h = lent_cells kind S M (beside M) 0 e in (omega arith, omega arith)

  module _ (out : OriginRows A) where
    outs_each : asked_number S ≡ 0 → outs out ≡ S.width → (length out.pixels ≡ S.width) × (length out.rows ≡ S.width) × (length out.columns ≡ S.width)
    outs_each z e = let (_, s, _) = asked_accepted S z in alike_each (length out.pixels) (length out.rows) (length out.columns) S.width s.wide e

    module _ (pixels : List A) (e : origin_offer_number kind S M pixels out ≡ 0) where
      offer_both : (asked_number S ≡ 0) × (offer_at kind S M (beside M) (length pixels) (outs out) ≡ 0)
      offer_both =
          let n : ℕ = offer_at kind S M (beside M) (length pixels) (outs out) in
          let (a, b) = first_zero (asked_number S) (n ∷ []) (offer_judged_law kind S M pixels out ∙ e) in
          (a, sym (first_one n) ∙ b)

      -- a step that asks and is taken would be taken if it did not ask
      pub origin_offer_plain : offer_at kind S M (length M.cells.positions) (length pixels) (length out.pixels) ≡ 0
      origin_offer_plain =
          let (a, b) = offer_both in
          let t = offer_accepted kind S (length M.cells.values) (beside M) M.cells.starts M.cells.lengths (length pixels) (outs out) b in
          offer_other kind S M (beside M) (outs out) (length M.cells.positions) (length out.pixels) (beside_lent t.judged).0 (outs_each a t.out_wide).0 (length pixels) b

      pub origin_offer_taken : OriginTaken S M out × (length pixels ≡ S.width)
      origin_offer_taken =
          let (a, b) = offer_both in
          let t = offer_accepted kind S (length M.cells.values) (beside M) M.cells.starts M.cells.lengths (length pixels) (outs out) b in
          let (_, r, c) = outs_each a t.out_wide in
          let (taken, wide) = offer_taken kind S M.cells pixels out.pixels origin_offer_plain in
          (record { one = (asked_accepted S a).2; taken = taken; columns_lent = (beside_lent t.judged).1; rows_wide = r; columns_wide = c }, wide)

    module _ (e : origin_drain_number kind S M out ≡ 0) where
      drain_both : (asked_number S ≡ 0) × (drain_at kind S M (beside M) (outs out) ≡ 0)
      drain_both =
          let n : ℕ = drain_at kind S M (beside M) (outs out) in
          let (a, b) = first_zero (asked_number S) (n ∷ []) (drain_judged_law kind S M out ∙ e) in
          (a, sym (first_one n) ∙ b)

      pub origin_drain_plain : drain_judged kind S M.cells out.pixels ≡ 0
      origin_drain_plain =
          let (a, b) = drain_both in
          let t = drain_accepted kind S (length M.cells.values) (beside M) M.cells.starts M.cells.lengths (outs out) b in
          drain_other kind S M (beside M) (outs out) (length M.cells.positions) (length out.pixels) (beside_lent t.judged).0 (outs_each a t.out_wide).0 b

      pub origin_drain_taken : OriginTaken S M out
      origin_drain_taken =
          let (a, b) = drain_both in
          let t = drain_accepted kind S (length M.cells.values) (beside M) M.cells.starts M.cells.lengths (outs out) b in
          let (_, r, c) = outs_each a t.out_wide in
          record { one = (asked_accepted S a).2; taken = drain_taken kind S M.cells out.pixels origin_drain_plain; columns_lent = (beside_lent t.judged).1; rows_wide = r; columns_wide = c }

    -- and a step that is taken without asking is taken when it asks, of a plan of one stage, with columns enough and rows of origins as long as the width
    module _ (one : S.plan.count ≡ 1) (enough : cells_needed S.plan S.width ≤ length M.columns) (r : length out.rows ≡ S.width) (c : length out.columns ≡ S.width) where
      asked_none : state_number S ≡ 0 → asked_number S ≡ 0
      asked_none z = sym (asked_one S z (omega arith))

      outs_all : length out.pixels ≡ S.width → outs out ≡ S.width
      outs_all e = sym (alike_all (length out.pixels) (length out.rows) (length out.columns) (e ∙ sym r) (e ∙ sym c)) ∙ e

      all_lent : lent_at kind S M (length M.cells.positions) ≡ 0 → cells_needed S.plan S.width ≤ beside M
      all_lent e = let h = lent_cells kind S M (length M.cells.positions) 0 e in omega arith

      pub origin_offer_asked : (pixels : List A) → offer_at kind S M (length M.cells.positions) (length pixels) (length out.pixels) ≡ 0 → origin_offer_number kind S M pixels out ≡ 0
      origin_offer_asked pixels e =
          let t = offer_accepted kind S (length M.cells.values) (length M.cells.positions) M.cells.starts M.cells.lengths (length pixels) (length out.pixels) e in
          let a = asked_none (lent_state kind S M (length M.cells.positions) 0 t.judged) in
          let n : ℕ = offer_at kind S M (beside M) (length pixels) (outs out) in
          let b : n ≡ 0 = offer_other kind S M (length M.cells.positions) (length out.pixels) (beside M) (outs out) (all_lent t.judged) (outs_all t.out_wide) (length pixels) e in
          sym (offer_judged_law kind S M pixels out) ∙ first_skip (asked_number S) (n ∷ []) a ∙ first_one n ∙ b

      pub origin_drain_asked : drain_judged kind S M.cells out.pixels ≡ 0 → origin_drain_number kind S M out ≡ 0
      origin_drain_asked e =
          let t = drain_accepted kind S (length M.cells.values) (length M.cells.positions) M.cells.starts M.cells.lengths (length out.pixels) e in
          let a = asked_none (lent_state kind S M (length M.cells.positions) 0 t.judged) in
          let n : ℕ = drain_at kind S M (beside M) (outs out) in
          let b : n ≡ 0 = drain_other kind S M (length M.cells.positions) (length out.pixels) (beside M) (outs out) (all_lent t.judged) (outs_all t.out_wide) e in
          sym (drain_judged_law kind S M out) ∙ first_skip (asked_number S) (n ∷ []) a ∙ first_one n ∙ b

-- ---- a row with its pixels judged

module _ {A : Type 0} (K : Samples A) (kind : ℕ) (S : State) (M : OriginMemory A) (pixels : List A) (out : OriginRows A) where
  abbrev offer : ℕ
  offer = origin_offer_number kind S M pixels out

  abbrev eight : ℕ
  eight = given 8 (not (all K.good pixels))

  pub row_found : (offer ≡ 0 → ⊥) → origin_row_number K kind S M pixels out ≡ offer
  unfolding origin_row_number
  row_found h = first_found offer (eight ∷ []) h

  pub row_past : offer ≡ 0 → origin_row_number K kind S M pixels out ≡ eight
  unfolding origin_row_number
  row_past z = first_skip offer (eight ∷ []) z ∙ first_one eight

  row_both : origin_row_number K kind S M pixels out ≡ 0 → (offer ≡ 0) × (eight ≡ 0)
  unfolding origin_row_number
  row_both e = let (a, b) = first_zero offer (eight ∷ []) e in (a, sym (first_one eight) ∙ b)

  pub origin_row_taken : origin_row_number K kind S M pixels out ≡ 0 → OriginTaken S M out × (length pixels ≡ S.width)
  origin_row_taken e = origin_offer_taken kind S M out pixels (row_both e).0

  pub origin_row_plain : origin_row_number K kind S M pixels out ≡ 0 → row_number K kind S M.cells pixels out.pixels ≡ 0
  unfolding row_number
  origin_row_plain e =
      let (a, b) = row_both e in
      let n : ℕ = offer_at kind S M (length M.cells.positions) (length pixels) (length out.pixels) in
      first_skip n (eight ∷ []) (origin_offer_plain kind S M out pixels a) ∙ first_one eight ∙ b

  pub origin_row_asked : S.plan.count ≡ 1 → cells_needed S.plan S.width ≤ length M.columns → length out.rows ≡ S.width → length out.columns ≡ S.width
      → row_number K kind S M.cells pixels out.pixels ≡ 0 → origin_row_number K kind S M pixels out ≡ 0
  unfolding row_number
  origin_row_asked one enough r c e =
      let n : ℕ = offer_at kind S M (length M.cells.positions) (length pixels) (length out.pixels) in
      let (a, b) = first_zero n (eight ∷ []) e in
      row_past (origin_offer_asked kind S M out one enough r c pixels a) ∙ sym (first_one eight) ∙ b
