-- The two ways to filter agree: a call on a whole picture leaves the rows that come out of a finished run of the picture filter, of the same plan over the same pixels.
use mathlib.Core.Path.{◌≡◌, sym, ap, ◌∙◌}
use mathlib.Core.List.{List, map, flatten}
use mathlib.Core.Option.{Option}
use Prim.Native.Nat.{ℕ, ◌+◌}
use Rattle.morph.specs.Picture.{Picture, apply_plan}
use Rattle.sample.specs.Samples.{Samples}
use Rattle.plan_record.specs.Plan.{stages_of, plan_ahead}
use Rattle.memory.specs.Memory.{Memory}
use Rattle.picture_state.specs.declared.State.{State}
use Rattle.picture_state.specs.Step.{RowSaid}
use Rattle.picture.specs.Runs.{PictureRun, rows_of}
use Rattle.picture.proofs.Runs.{run_filtered}
use Rattle.passes.specs.Flat.{flat_rows}
use Rattle.whole_judge.specs.declared.Filtered.{Filtered}
use Rattle.whole_judge.specs.Whole.{FiltersWhole}

pub ways_agree : {A : Type 0} (K : Samples A) (kind : ℕ) (first S : State) (M : Memory A) (read : Picture A) (said : List RowSaid) (came : List (Option (List A)))
    → PictureRun K kind first S M read said came → S.step ≡ S.rows + plan_ahead S.plan
    → (picture row picture' row' : List A) (plan : ℕ) (r : Filtered) → read ≡ flat_rows S.width S.rows (map K.taken picture)
    → FiltersWhole K (stages_of K.order S.plan) S.width S.rows picture row picture' row' plan r → r.number ≡ 0
    → picture' ≡ flatten (rows_of came)
ways_agree K kind first S M read said came run all picture row picture' row' plan r e h z =
    (h.filters z).filtered ∙ ap flatten (ap (apply_plan (stages_of K.order S.plan)) (sym e) ∙ sym (run_filtered K kind first S M read said came run all))
