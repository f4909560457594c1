-- From the stage's own step on the front of the memory to the step that tells origins. By which idea: a plan of one stage is that stage, and of the columns lent it keeps no more than the cells needed.
use mathlib.Core.Path.{◌≡◌, refl, sym, ap, ◌∙◌}
use mathlib.Core.Bool.{true}
use mathlib.Core.List.{List, [], ◌++◌}
use Prim.Native.Nat.{ℕ, ◌+◌, ◌-◌, ◌%◌, ◌≤◌, ◌<◌}
use native.Mathlib.Nat.{mod-lt}
use native.Mathlib.Omega.{arith}
use borrow.Author.Tests.{le-leb, lt-leb}
use lib.ListN.{length, get_or, take, drop, take-append-drop}
use Rattle.morph.specs.Lists.{Each}
use Rattle.morph.specs.Picture.{Picture}
use Rattle.sample.specs.Samples.{Samples}
use Rattle.plan_record.specs.declared.Stage.{Stage}
use Rattle.plan_record.specs.Plan.{used, size_of, below_of, cells_needed, plan_ahead}
use Rattle.memory.specs.Memory.{Memory, front_in, Whole, StageHolds, Holds}
use Rattle.stage.specs.Inner.{StageStep}
use Rattle.stage.proofs.Stage.{early_step, due_step}
use Rattle.chain.specs.Inner.{Fronted}
use Rattle.origin.specs.Kept.{ColumnsKept, columns_put}
use Rattle.origin.proofs.Ring.{put_back}
use Rattle.origin.proofs.Told.{kept_cut, cut_kept, fronts_rows, fronts_columns}
use Rattle.picture_state.specs.declared.State.{State}
use Rattle.picture_state.specs.declared.Answer.{Answer}
use Rattle.picture_state.specs.Numbers.{height_of}
use Rattle.picture_state.specs.Inner.{Fit}
use Rattle.picture_state.specs.Step.{row, is_not_yet, row_said_of, next_state}
use Rattle.picture_origin.specs.Numbers.{OriginMemory, OriginRows}
use Rattle.picture_origin.specs.Step.{only_stage, only_filter, across_columns, OriginsHold, OriginsAdvanced}
use Rattle.picture_origin.specs.Inner.{only_cells, OriginsFronted, FrontsBrought}
use Rattle.picture_origin.proofs.One.{parts_long, ahead_one, cells_one, one_advanced}

module _ {A : Type 0} (K : Samples A) (S : State) (M : OriginMemory A) (pixels : List A) (M' : OriginMemory A) (pixels' : List A) (c : ℕ) (fit : Fit S M.cells) (count : S.plan.count ≡ 1)
    (wide : length pixels ≡ S.width) (within : S.step < height_of S + plan_ahead S.plan) (f : OriginsFronted K S M pixels M' pixels' c) (lent : cells_needed S.plan S.width ≤ length M.columns) where
  abbrev s : Stage
  s = only_stage S

  -- the stage's part of the memory
  abbrev part : OriginMemory A → Memory A
  part N = front_in (only_cells S) S.width N.cells

  fronted : (row'' : List A) → StageStep K s (height_of S) S.step (part M) pixels (part M') row'' c → Fronted K s (height_of S) S.step M.cells pixels M'.cells row'' c
  fronted row'' g = record { stepped = rw wide g; rest = rw wide f.rest }

  -- the columns lent are as many as they were, and those past the need are not written
  columns_kept : (length M'.columns ≡ length M.columns) × (drop (cells_needed S.plan S.width) M'.columns ≡ drop (cells_needed S.plan S.width) M.columns)
  columns_kept = (parts_long (only_cells S) M'.columns M.columns f.moved.columns_long f.columns_rest, rw (cells_one K S s f.one count) f.columns_rest)

  -- the columns lent are put together again of those needed and those past the need
  together : M'.columns ≡ take (only_cells S) M'.columns ++ drop (only_cells S) M.columns
  together = sym (take-append-drop (only_cells S) M'.columns) ∙ ap (λ l. take (only_cells S) M'.columns ++ l) f.columns_rest

  columns_new : S.step < height_of S → Each (λ a. K.good a ≡ true) pixels → M'.columns ≡ columns_put S.width (S.step % size_of s) (across_columns K S pixels) M.columns
  columns_new l good =
      together ∙ ap (λ k. k ++ drop (only_cells S) M.columns) (rw wide at (f.moved.put l good))
      ∙ put_back S.width (size_of s) (S.step % size_of s) (across_columns K S pixels) M.columns (mod-lt S.step (omega arith)) (omega (arith, cells_one K S s f.one count))

  columns_old : height_of S ≤ S.step → M'.columns ≡ M.columns
  columns_old l = together ∙ ap (λ k. k ++ drop (only_cells S) M.columns) (f.moved.stay l) ∙ take-append-drop (only_cells S) M.columns

  -- for a picture whose first steps could have left the memory and the columns, both are those after one step more
  module _ (p : Picture A) (whole : Whole K S.width (height_of S) p) (given : S.step < height_of S → pixels ≡ get_or p S.step []) where
    moved_holds : Holds K (used S.plan) S.width p S.step M.cells → StageHolds K s S.width p (S.step + 1) (part M')
    unfolding Holds
    moved_holds holds =
        let k = rw f.one at holds in
        rw wide at (f.moved.plain.told p (rw wide whole) (rw wide k.0) given).0

    moved_kept : OriginsHold K S p S.step M → ColumnsKept (only_filter K S) (size_of s) S.width p (S.step + 1) (take (only_cells S) M'.columns)
    moved_kept holds =
        rw wide at (f.moved.keeps p (rw wide whole) given (rw wide (kept_cut (only_filter K S) (size_of s) S.width p S.step M.columns (omega arith) holds.1)))

    next_holds : OriginsHold K S p S.step M → OriginsHold K S p (S.step + 1) M'
    unfolding Holds
    next_holds holds = (rw f.one (moved_holds holds.0, tt), cut_kept (only_filter K S) (size_of s) S.width p (S.step + 1) M'.columns (omega arith) (moved_kept holds))

  module _ (answer : Answer) (S' : State) (next : S' ≡ next_state S) (out : OriginRows A) (L : ℕ) (ahead : L ≡ plan_ahead S.plan) where
    -- no row is due yet
    pub origins_early : S.step < L → row_said_of answer ≡ is_not_yet c → OriginsAdvanced K S M pixels out M' out answer S'
    origins_early l said =
        let b : S.step < plan_ahead S.plan = omega arith in
        let d : S.step < below_of s = omega (arith, ahead_one K S s f.one count) in
        record {
          plain =
              one_advanced K S s f.one count M.cells fit pixels wide M'.cells pixels' c (fronted pixels' (early_step K s (height_of S) S.step _ pixels _ pixels' c f.moved.plain d)) answer S' next within out.pixels out.pixels
              (rw (lt-leb (plan_ahead S.plan) S.step b) said) (λ _. refl) (λ k. absurd (omega arith));
          columns_long = columns_kept.0;
          columns_past = columns_kept.1;
          columns_put_holds = columns_new;
          columns_stay = columns_old;
          early = λ _. (refl, refl);
          rows_told = λ p whole holds given k. absurd (omega arith);
          told = λ p whole holds given. (next_holds p whole given holds, λ k. absurd (omega arith));
        }

    -- the fronts are the row that is due and its origins
    module _ (out' : OriginRows A) (g : FrontsBrought K S M'.cells.values M'.cells.positions M'.columns M'.cells.starts out') (l : L ≤ S.step) where
      step_due : StageStep K s (height_of S) S.step (part M) pixels (part M') out'.pixels c
      step_due =
          let w : length pixels' ≡ S.width = f.moved.plain.row_long ∙ wide in
          due_step K s (height_of S) S.step _ pixels _ pixels' c f.moved.plain out'.pixels (rw w g.pixels)

      pub origins_due : row_said_of answer ≡ row (S.step - L) c → OriginsAdvanced K S M pixels out M' out' answer S'
      origins_due said =
          let d = ahead_one K S s f.one count in
          let below : (x : ℕ) → x < S.width → get_or (take S.width M'.cells.starts) x 0 < size_of s = rw wide at f.moved.plain.lent.sound.below in
          record {
            plain =
                one_advanced K S s f.one count M.cells fit pixels wide M'.cells out'.pixels c (fronted out'.pixels step_due) answer S' next within out.pixels out'.pixels
                (rw (le-leb (plan_ahead S.plan) S.step (omega arith), ← ahead) said) (λ b. absurd (omega arith)) (λ _. refl);
            columns_long = columns_kept.0;
            columns_past = columns_kept.1;
            columns_put_holds = columns_new;
            columns_stay = columns_old;
            early = λ b. absurd (omega arith);
            rows_told = λ p whole holds given _.
                rw d (fronts_rows K s S.width (height_of S) p whole S.step (omega arith) (omega arith) (part M') (moved_holds p whole given holds) below (take (only_cells S) M'.columns) out'.pixels out'.rows out'.columns g);
            told = λ p whole holds given. (
              next_holds p whole given holds,
              λ _. rw d (fronts_columns K s S.width (height_of S) p whole S.step (omega arith) (omega arith) (part M') (moved_holds p whole given holds.0) below (take (only_cells S) M'.columns) out'.pixels out'.rows out'.columns g (moved_kept p whole given holds)),
            );
          }
