-- A plan that comes as stages is refused as such, or is a plan record that is judged 0.
use mathlib.Core.Path.{◌≡◌, sym, ap, ◌∙◌, subst}
use mathlib.Core.Logic.{◌≢◌}
use mathlib.Core.List.{List}
use Prim.Native.Nat.{ℕ}
use lib.ListN.{length}
use Rattle.sample.specs.Samples.{Samples}
use Rattle.plan_record.specs.declared.Plan.{Plan}
use Rattle.plan_record.specs.declared.Reading.{Reading}
use Rattle.plan_record.specs.Plan.{plan_of, stages_of, stages_given, given_number, plan_given, record_number}
use Rattle.plan_record.proofs.Named.{accepted_plan, judged_given}
use Rattle.whole_judge.specs.declared.Filtered.{Filtered}
use Rattle.whole_judge.specs.Whole.{FiltersWhole}
use Rattle.whole_judge.proofs.Judging.{judge_plan_law, whole_refused}
use Rattle.firmware.specs.Picture.{FiltersStages}

module _ {A : Type 0} (K : Samples A) (stages : List (List ℕ)) (width rows : ℕ) (picture row : List A) {reading : Reading} (e : reading ≡ plan_given stages) where
  number_given : reading.number ≡ given_number stages
  unfolding plan_given
  number_given = ap (λ (r : Reading). r.number) e

  pub stages_refused : {r : Filtered} → reading.number ≢ 0 → r ≡ record { number = reading.number; row = 0; column = 0 } → FiltersStages K stages width rows picture row picture row r
  stages_refused h f =
      whole_refused K (stages_of K.order (plan_of (stages_given stages))) (given_number stages) width rows picture row
      (number_given ∙ judge_plan_law (given_number stages) width rows (length picture) (length row) (rw (← number_given) h)) h f

  pub stages_taken : {r : Filtered} (picture' row' : List A) → reading.number ≡ 0
      → FiltersWhole K (stages_of K.order reading.plan) width rows picture row picture' row' (record_number reading.plan) r → FiltersStages K stages width rows picture row picture' row' r
  unfolding plan_given
  stages_taken {r} picture' row' z h =
      let (p, g) = accepted_plan (given_number stages) (plan_of (stages_given stages)) e z in
      let n : record_number reading.plan ≡ given_number stages = ap record_number p ∙ judged_given stages g ∙ sym g in
      subst (λ (plan : Plan). FiltersWhole K (stages_of K.order plan) width rows picture row picture' row' (given_number stages) r) p
      (subst (λ (m : ℕ). FiltersWhole K (stages_of K.order reading.plan) width rows picture row picture' row' m r) n h)
