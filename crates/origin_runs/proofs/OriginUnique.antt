-- "For each public function the answer, the state and all lent cells afterwards follow from its inputs alone": two outcomes that meet the promise of a step that asks are equal, the memory as the queues that it holds
-- and past the need, and the columns every one. A refusal's outcomes are equal in every cell. By which idea: some picture left the memory and goes on with the row, and the columns are told by the row itself.
use mathlib.Core.Path.{◌≡◌, sym, ap, ◌∙◌}
use mathlib.Core.Bool.{true}
use mathlib.Core.List.{List, [], ◌∷◌, ◌++◌, map}
use mathlib.Core.Option.{Option}
use Prim.Native.Nat.{ℕ, ◌+◌, ◌-◌, ◌<◌}
use native.Mathlib.Omega.{arith}
use borrow.Author.Tests.{leb-true, leb-false}
use lib.Dec.{leb}
use lib.ListN.{length, get_or, set, length-append, length-set}
use lib.Seq.{take-length, take-append_seam, take-set-le, get_or-set_same, get_or-set_other}
use Rattle.morph.specs.Lists.{tabulate, Each}
use Rattle.morph.specs.Picture.{Picture}
use Rattle.morph.specs.Origin.{positions_line}
use Rattle.morph.proofs.Lists.{split, length_tabulate, each_get_d, each_set, each_append, each_tabulate}
use Rattle.sample.specs.Samples.{Samples}
use Rattle.plan_record.specs.Plan.{used, size_of, plan_ahead}
use Rattle.memory.specs.Memory.{Whole}
use Rattle.chain.proofs.Rests.{holds_rests}
use Rattle.origin.specs.Kept.{ColumnsKept}
use Rattle.picture_state.specs.declared.State.{State}
use Rattle.picture_state.specs.declared.Answer.{Answer}
use Rattle.picture_state.specs.Numbers.{height_of}
use Rattle.picture_state.specs.Step.{RowSaid}
use Rattle.picture_state.proofs.Numbers.{drain_accepted}
use Rattle.picture_origin.specs.Numbers.{OriginMemory, OriginRows, origin_row_number, origin_drain_number}
use Rattle.picture_origin.specs.Step.{only_stage, only_filter, OriginsHold, OriginsAdvanced, OriginsUnchanged, OriginRowStep, OriginDrainStep}
use Rattle.picture_origin.proofs.Numbers.{origin_row_plain, origin_drain_plain}
use Rattle.picture.specs.Same.{SameStep, SamePast}
use Rattle.picture.proofs.Unique.{answer_same, row_offered, row_unique, drain_unique}
use Rattle.origin_runs.specs.OriginRuns.{OriginRun}
use Rattle.origin_runs.specs.OriginSame.{EqualOrigins, SameOrigins}
use Rattle.origin_runs.proofs.Rests.{rows_same}
use Rattle.origin_runs.proofs.Asked.{memory_same}
use Rattle.origin_runs.proofs.Going.{going, reads_on, all_read, now_row, now_drain}

-- ---- an accepted step

-- two outcomes over a picture that left the memory and the columns
module _ {A : Type 0} (K : Samples A) (kind : ℕ) (S : State) (M M₁ M₂ : OriginMemory A) (out out₁ out₂ : OriginRows A) (a₁ a₂ : Answer) (S₁ S₂ : State) where
  steps_same : (p : Picture A) → Whole K S.width (height_of S) p → OriginsHold K S p S.step M → (pixels : List A) → (S.step < height_of S → pixels ≡ get_or p S.step [])
      → OriginsAdvanced K S M pixels out M₁ out₁ a₁ S₁ → OriginsAdvanced K S M pixels out M₂ out₂ a₂ S₂
      → SameStep K S M₁.cells M₂.cells out₁.pixels out₂.pixels a₁ a₂ S₁ S₂ × SamePast K S M₁.cells M₂.cells → SameOrigins K S M₁ M₂ out₁ out₂ a₁ a₂ S₁ S₂
  steps_same p whole held pixels given h k (plain, past) =
      let D = plan_ahead S.plan in
      let (a, b) : (out₁.rows ≡ out₂.rows) × (out₁.columns ≡ out₂.columns) =
      split (leb D S.step)
      (λ d.
      let l = leb-true D S.step d in
      (h.rows_told p whole held.0 given l ∙ sym (k.rows_told p whole held.0 given l), (h.told p whole held given).1 l ∙ sym ((k.told p whole held given).1 l)))
      (λ d. let l = leb-false D S.step d in ((h.early l).0 ∙ sym (k.early l).0, (h.early l).1 ∙ sym (k.early l).1)) in
      let c : M₁.columns ≡ M₂.columns =
      split (leb (height_of S) S.step)
      (λ d. let l = leb-true (height_of S) S.step d in h.columns_stay l ∙ sym (k.columns_stay l))
      (λ d.
      let l = leb-false (height_of S) S.step d in
      let good : Each (λ a. K.good a ≡ true) pixels = rw (given l) (each_get_d _ p S.step [] whole.good (omega (arith, whole.high))) in
      h.columns_put_holds l good ∙ sym (k.columns_put_holds l good)) in
      record { plain = plain; past = past; rows = a; columns = b; columns_lent = c }

  -- such a picture goes on with the row that is offered
  pub origins_row_unique : (pixels : List A) → OriginRowStep K kind S M pixels out M₁ out₁ a₁ S₁ → OriginRowStep K kind S M pixels out M₂ out₂ a₂ S₂ → origin_row_number K kind S M pixels out ≡ 0
      → (p : Picture A) → Whole K S.width (height_of S) p → OriginsHold K S p S.step M → SameOrigins K S M₁ M₂ out₁ out₂ a₁ a₂ S₁ S₂
  origins_row_unique pixels h k n p whole held =
      let m = origin_row_plain K kind S M pixels out n in
      let o = row_offered K kind S M.cells pixels out.pixels m in
      let new = map K.taken pixels in
      let q = set p S.step new in
      let w : Whole K S.width (height_of S) q = record {
        wide = each_set _ p S.step new whole.wide o.wide;
        high = length-set p S.step new ∙ whole.high;
        good = each_set _ p S.step new whole.good o.good;
      } in
      let g = holds_rests K S.width (used S.plan) p q S.step M.cells (sym (length-set p S.step new)) (sym (take-set-le S.step p S.step new (omega arith))) held.0 in
      let e : new ≡ get_or q S.step [] = sym (get_or-set_same p S.step new [] (omega (arith, o.within, whole.high))) in
      let F = only_filter K S in
      let kept : ColumnsKept F (size_of (only_stage S)) S.width q S.step M.columns =
      λ r x y z. held.1 r x (rw (length-set p S.step new) at y) z ∙ ap (positions_line F.order F.back F.ahead) (sym (get_or-set_other p S.step r new [] (λ v. omega arith))) in
      steps_same q w (g, kept) new (λ _. e) (h.accepted n) (k.accepted n)
      (row_unique K S kind M.cells M₁.cells M₂.cells out.pixels out₁.pixels out₂.pixels a₁ a₂ S₁ S₂ pixels
      (record { refusal = λ z. absurd (z m); accepted = λ _. (h.accepted n).plain }) (record { refusal = λ z. absurd (z m); accepted = λ _. (k.accepted n).plain }) m p whole held.0)

  pub origins_drain_unique : OriginDrainStep K kind S M out M₁ out₁ a₁ S₁ → OriginDrainStep K kind S M out M₂ out₂ a₂ S₂ → origin_drain_number kind S M out ≡ 0
      → (p : Picture A) → Whole K S.width (height_of S) p → OriginsHold K S p S.step M → SameOrigins K S M₁ M₂ out₁ out₂ a₁ a₂ S₁ S₂
  origins_drain_unique h k n p whole held =
      let m = origin_drain_plain kind S M out n in
      let d = drain_accepted kind S (length M.cells.values) (length M.cells.positions) M.cells.starts M.cells.lengths (length out.pixels) m in
      steps_same p whole held [] (λ (b : S.step < height_of S). absurd (omega (arith, d.read))) (h.accepted n) (k.accepted n)
      (drain_unique K S kind M.cells M₁.cells M₂.cells out.pixels out₁.pixels out₂.pixels a₁ a₂ S₁ S₂
      (record { refusal = λ z. absurd (z m); accepted = λ _. (h.accepted n).plain }) (record { refusal = λ z. absurd (z m); accepted = λ _. (k.accepted n).plain }) m p whole held.0)

-- ---- the same on a memory that a run left, with no picture to be named

module _ {A : Type 0} (K : Samples A) (kind : ℕ) (first S : State) (M : OriginMemory A) (read : Picture A) (said : List RowSaid) (came : List (Option (OriginRows A))) (r : OriginRun K kind first S M read said came) where
  module _ (M₁ M₂ : OriginMemory A) (out out₁ out₂ : OriginRows A) (a₁ a₂ : Answer) (S₁ S₂ : State) where
    pub run_row_unique : (pixels : List A) → OriginRowStep K kind S M pixels out M₁ out₁ a₁ S₁ → OriginRowStep K kind S M pixels out M₂ out₂ a₂ S₂ → origin_row_number K kind S M pixels out ≡ 0
        → SameOrigins K S M₁ M₂ out₁ out₂ a₁ a₂ S₁ S₂
    run_row_unique pixels h k n =
        let g = going K kind first r in
        let m = origin_row_plain K kind S M pixels out n in
        let o = row_offered K kind S M.cells pixels out.pixels m in
        let new = map K.taken pixels in
        let more = read ++ (new ∷ []) in
        let left = height_of S - length more in
        let rest : Picture A = tabulate left (λ _. new) in
        let p = more ++ rest in
        let (l, _) = reads_on K kind first S M read said came g o.within in
        let whole : Whole K S.width (height_of S) p = record {
          wide = each_append _ more rest (each_append _ read (new ∷ []) g.wide (o.wide, tt)) (each_tabulate _ left (λ _. new) (λ _ _. o.wide));
          high = length-append more rest ∙ ap (λ i. length more + i) (length_tabulate left (λ _. new)) ∙ omega (arith, length-append read (new ∷ []), o.within);
          good = each_append _ more rest (each_append _ read (new ∷ []) g.good (o.good, tt)) (each_tabulate _ left (λ _. new) (λ _ _. o.good));
        } in
        let (u, _) = now_row K kind first S M read said came g new o.within p whole (take-append_seam more rest) in
        origins_row_unique K kind S M M₁ M₂ out out₁ out₂ a₁ a₂ S₁ S₂ pixels h k n p whole u.held

    pub run_drain_unique : OriginDrainStep K kind S M out M₁ out₁ a₁ S₁ → OriginDrainStep K kind S M out M₂ out₂ a₂ S₂ → origin_drain_number kind S M out ≡ 0 → SameOrigins K S M₁ M₂ out₁ out₂ a₁ a₂ S₁ S₂
    run_drain_unique h k n =
        let g = going K kind first r in
        let m = origin_drain_plain kind S M out n in
        let d = drain_accepted kind S (length M.cells.values) (length M.cells.positions) M.cells.starts M.cells.lengths (length out.pixels) m in
        let whole = all_read K kind first S M read said came g d.closed d.read in
        let u = now_drain K kind first S M read said came g d.closed read whole (take-length read) in
        origins_drain_unique K kind S M M₁ M₂ out out₁ out₂ a₁ a₂ S₁ S₂ h k n read whole u.held

-- ---- a refused call, of any state and memory

module _ {A : Type 0} (K : Samples A) (kind : ℕ) (S : State) (M M₁ M₂ : OriginMemory A) (out out₁ out₂ : OriginRows A) (a₁ a₂ : Answer) (S₁ S₂ : State) where
  unchanged_equal : (n c : ℕ) → OriginsUnchanged K n c S M out M₁ out₁ a₁ S₁ → OriginsUnchanged K n c S M out M₂ out₂ a₂ S₂ → EqualOrigins M₁ M₂ out₁ out₂ a₁ a₂ S₁ S₂
  unchanged_equal n c h k = record {
    answer = answer_same a₁ a₂ (h.plain.said ∙ sym k.plain.said);
    state = h.plain.state ∙ sym k.plain.state;
    output = rows_same out₁ out₂ (h.plain.output ∙ sym k.plain.output) (h.rows ∙ sym k.rows) (h.origin_columns ∙ sym k.origin_columns);
    memory = memory_same M₁ M₂ (h.plain.memory ∙ sym k.plain.memory) (h.columns ∙ sym k.columns);
  }

  pub origins_row_refusal_unique : (pixels : List A) → OriginRowStep K kind S M pixels out M₁ out₁ a₁ S₁ → OriginRowStep K kind S M pixels out M₂ out₂ a₂ S₂ → (origin_row_number K kind S M pixels out ≡ 0 → ⊥)
      → EqualOrigins M₁ M₂ out₁ out₂ a₁ a₂ S₁ S₂
  origins_row_refusal_unique pixels h k n = unchanged_equal _ _ (h.refusal n) (k.refusal n)

  pub origins_drain_refusal_unique : OriginDrainStep K kind S M out M₁ out₁ a₁ S₁ → OriginDrainStep K kind S M out M₂ out₂ a₂ S₂ → (origin_drain_number kind S M out ≡ 0 → ⊥) → EqualOrigins M₁ M₂ out₁ out₂ a₁ a₂ S₁ S₂
  origins_drain_refusal_unique h k n = unchanged_equal _ _ (h.refusal n) (k.refusal n)
