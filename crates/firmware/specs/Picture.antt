-- What the calls on whole pictures promise from C: a plan comes as stages of five numbers each, "kind, left, right, up, down". So 2 is told there too, before that stage's 3.
use Rattle.std.specs.Prelude.{List, ℕ}
use Rattle.sample.specs.Samples.{Samples}
use Rattle.plan_record.specs.Plan.{plan_of, stages_of, stages_given, given_number}
use Rattle.whole_judge.specs.declared.Filtered.{Filtered}
use Rattle.whole_judge.specs.Whole.{FiltersWhole}

abbrev pub FiltersStages : {A : Type 0} → Samples A → List (List ℕ) → ℕ → ℕ → List A → List A → List A → List A → Filtered → Type 0
FiltersStages K stages width rows picture row picture' row' r =
    FiltersWhole K (stages_of K.order (plan_of (stages_given stages))) width rows picture row picture' row' (given_number stages) r
