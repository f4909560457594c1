-- The laws of a start that asks for origins: its number is the plan's with 20, and then the start's.
use mathlib.Core.Path.{◌≡◌, refl, sym, ap, ◌∙◌, subst}
use mathlib.Core.List.{List, [], ◌∷◌}
use Prim.Native.Nat.{ℕ, zero, suc, ◌*◌}
use Rattle.morph.specs.Numbers.{first_of}
use Rattle.morph.proofs.Lists.{length_tabulate}
use Rattle.morph.proofs.Numbers.{first_one, first_skip, first_found}
use Rattle.plan_record.specs.declared.Plan.{Plan}
use Rattle.plan_record.specs.declared.Reading.{Reading}
use Rattle.plan_record.specs.Plan.{record_number, records_needed, plan_of, stage_out_of, stages_from, plan_number, plan_read}
use Rattle.plan_record.proofs.Named.{judged_reading}
use Rattle.picture_state.specs.declared.State.{State}
use Rattle.picture_start.specs.declared.Started.{Started}
use Rattle.picture_start.specs.Start.{state_of_none, start_number, numbers_number, PictureStart}
use Rattle.picture_start.proofs.Starting.{start_refused, numbers_rest, read_number, read_plan}
use Rattle.picture_origin.specs.Numbers.{several_number, origins_number, origins_numbers_number}

-- the plan's own number, and 20
abbrev planned : Plan → ℕ
planned plan = first_of (record_number plan ∷ several_number plan.count ∷ [])

-- two rules and one more
first_two : (a b c : ℕ) → first_of (a ∷ b ∷ c ∷ []) ≡ first_of (first_of (a ∷ b ∷ []) ∷ c ∷ [])
first_two zero zero c = refl
first_two zero (suc b) c = refl
first_two (suc a) b c = refl

module _ (plan : Plan) (sample width rows cells records : ℕ) where
  abbrev start_number_law : ℕ
  start_number_law = start_number plan sample width rows cells records

  abbrev asked_number_law : ℕ
  asked_number_law = origins_number plan sample width rows cells records

  asked_first : asked_number_law ≡ first_of (planned plan ∷ start_number_law ∷ [])
  unfolding origins_number
  asked_first = first_two (record_number plan) (several_number plan.count) start_number_law

  asked_rest : planned plan ≡ 0 → start_number_law ≡ asked_number_law
  asked_rest z = sym (asked_first ∙ first_skip (planned plan) (start_number_law ∷ []) z ∙ first_one start_number_law)

  module _ (needed : ℕ) (first : State) (starts lengths : List ℕ) where
    pub origins_refused : (n : ℕ) (r : Started) → n ≡ planned plan → (n ≡ 0 → ⊥) → r.number ≡ n → r.state ≡ state_of_none → PictureStart asked_number_law first needed starts lengths starts lengths r
    origins_refused n r e h q s = start_refused asked_number_law needed starts lengths first n r (e ∙ sym (asked_first ∙ first_found (planned plan) (start_number_law ∷ []) (λ z. h (e ∙ z)))) h q s

    pub origins_went : (n : ℕ) (starts' lengths' : List ℕ) (r : Started) → n ≡ planned plan → n ≡ 0 → PictureStart start_number_law first needed starts lengths starts' lengths' r
        → PictureStart asked_number_law first needed starts lengths starts' lengths' r
    origins_went n starts' lengths' r e z h = subst (λ (m : ℕ). PictureStart m first needed starts lengths starts' lengths' r) (asked_rest (sym e ∙ z)) h

-- ---- of a plan in numbers

module _ (count : ℕ) (bytes : List ℕ) (sample width rows cells records : ℕ) where
  abbrev plan_of_law : Plan
  plan_of_law = plan_of (stages_from count bytes)

  abbrev asked_numbers : ℕ
  asked_numbers = origins_numbers_number count bytes sample width rows cells records

  count_of : plan_of_law.count ≡ count
  unfolding stages_from
  count_of = length_tabulate count (λ i. stage_out_of bytes (i * 5))

  -- what is left to judge after the plan
  abbrev after_plan : List ℕ
  after_plan = several_number count ∷ numbers_number count bytes sample width rows cells records ∷ []

  asked_plan : (plan_number count bytes ≡ 0 → ⊥) → plan_number count bytes ≡ asked_numbers
  unfolding origins_numbers_number
  asked_plan h = sym (first_found (plan_number count bytes) after_plan h)

  asked_same : plan_number count bytes ≡ 0 → origins_number plan_of_law sample width rows cells records ≡ asked_numbers
  unfolding origins_number origins_numbers_number
  asked_same e =
      first_skip (record_number plan_of_law) (several_number plan_of_law.count ∷ start_number plan_of_law sample width rows cells records ∷ []) (judged_reading count bytes e)
      ∙ ap (λ (n : ℕ). first_of (several_number n ∷ start_number plan_of_law sample width rows cells records ∷ [])) count_of
      ∙ ap (λ (n : ℕ). first_of (several_number count ∷ n ∷ [])) (numbers_rest count bytes sample width rows cells records e)
      ∙ sym (first_skip (plan_number count bytes) after_plan e)

  module _ (R : Reading) (e : R ≡ plan_read count bytes) where
    abbrev told : R.number ≡ plan_number count bytes
    told = read_number count bytes sample width rows cells records R e

    pub origins_numbers_refused : (needed : ℕ) (first : State) (starts lengths : List ℕ) (r : Started) → (R.number ≡ 0 → ⊥) → r.number ≡ R.number → r.state ≡ state_of_none
        → PictureStart asked_numbers first needed starts lengths starts lengths r
    origins_numbers_refused needed first starts lengths r h q s =
        start_refused asked_numbers needed starts lengths first R.number r (told ∙ asked_plan (λ z. h (told ∙ z))) h q s

    -- a start of the plan read, in a state that rests on it, is that of the numbers
    pub origins_numbers_went : (first : Plan → State) (starts lengths starts' lengths' : List ℕ) (r : Started) → R.number ≡ 0
        → PictureStart (origins_number R.plan sample width rows cells records) (first R.plan) (records_needed R.plan width) starts lengths starts' lengths' r
        → PictureStart asked_numbers (first plan_of_law) (records_needed plan_of_law width) starts lengths starts' lengths' r
    origins_numbers_went first starts lengths starts' lengths' r z h =
        let m = sym told ∙ z in
        let g = subst (λ (p : Plan). PictureStart (origins_number p sample width rows cells records) (first p) (records_needed p width) starts lengths starts' lengths' r) (read_plan count bytes sample width rows cells records R e m) h in
        subst (λ (n : ℕ). PictureStart n (first plan_of_law) (records_needed plan_of_law width) starts lengths starts' lengths' r) (asked_same m) g
