-- What the records mean to the definitions of a picture: the named plans are morph's, the look-ahead is morph's, and an accepted plan is one
-- that is judged 0.
use Rattle.std.proofs.Common.{◌≡◌, refl, sym, ap, ◌∙◌, List, [], ◌∷◌, ◌++◌, map, append_assoc, ℕ, zero, suc, ◌-◌, ◌*◌, ◌≤◌, ◌<◌, arith, le-ltb, eq-eqb, ne_eqb, length, get_or, replicate, get_or-take, length-take-le}
use Rattle.std.proofs.Math.ListN.{get_or-append}
use Rattle.morph.specs.declared.Kind.{Kind}
use Rattle.morph.specs.declared.Kind.TheVariants.{Erosion, Dilation}
use Rattle.morph.specs.Order.{Order}
use Rattle.morph.specs.Picture.{Stage as Filter, look_ahead_of, opening, closing, alternating}
use Rattle.morph.proofs.Lists.{length_tabulate, get_d_tabulate}
use Rattle.morph.proofs.Numbers.{first_one, first_zero, all_zero, none_refused, given_zero, inside, extents_fit}
use Rattle.morph.specs.Lists.{tabulate}
use Rattle.morph.specs.Numbers.{first_of, outside, kind_number_of, extent_number}
use Rattle.plan_record.specs.declared.Stage.{Stage}
use Rattle.plan_record.specs.declared.Plan.{Plan}
use Rattle.plan_record.specs.declared.Reading.{Reading}
use Rattle.plan_record.specs.Plan.{unused, plan_of, used, filter_of, stages_of, below_of, total, plan_ahead, count_number, order_number, record_stage_number, record_stages_number, record_number, stage_number, stage_out_of, stages_from, stages_number, plan_number, reading_of, pair_stages, opening_stages, closing_stages, sequence_stages, alternating_stages, stages_given, given_number}
use Rattle.plan_record.specs.Inner.{Small}
use Rattle.plan_record.proofs.Laws.{used_plan, count_accepted, count_zero}

-- ---- what an accepted plan has

pub small : (s : Stage) → record_stage_number s ≡ 0 → Small s
small s h =
    let e = extents_fit (s.left ∷ s.right ∷ s.up ∷ s.down ∷ []) (given_zero 2 _ h) in
    record { left = e.0; right = e.1.0; up = e.1.1.0; down = e.1.1.1.0 }

pub counted : (count : ℕ) → count_number count ≡ 0 → (1 ≤ count) × (count ≤ 16)
counted count h = inside 16 count (given_zero 0 (outside 16 count) h)

pub judged_count : (plan : Plan) → record_number plan ≡ 0 → (1 ≤ plan.count) × (plan.count ≤ 16)
unfolding record_number
judged_count plan h = counted plan.count (count_zero plan.count (record_stages_number plan) h).0

pub judged_stage : (plan : Plan) → record_number plan ≡ 0 → (i : ℕ) → i < plan.count → Small (get_or plan.stages i unused)
unfolding record_number record_stages_number
judged_stage plan h i k =
    let z = all_zero plan.count (λ i. record_stage_number (get_or plan.stages i unused)) (count_zero plan.count (record_stages_number plan) h).1 i k in
    small (get_or plan.stages i unused) z

-- ---- named plans

module _ {A : Type 0} (O : Order A) where
  pub stages_plan : (ss : List Stage) → stages_of O (plan_of ss) ≡ map (filter_of O) ss
  stages_plan ss = ap (map (filter_of O)) (used_plan ss)

  pub opening_stages_law : (a b c d : ℕ) → stages_of O (plan_of (opening_stages a b c d)) ≡ opening O a b c d
  opening_stages_law a b c d = refl

  pub closing_stages_law : (a b c d : ℕ) → stages_of O (plan_of (closing_stages a b c d)) ≡ closing O a b c d
  closing_stages_law a b c d = refl

  map_append : (ss ts : List Stage) → map (filter_of O) (ss ++ ts) ≡ map (filter_of O) ss ++ map (filter_of O) ts
  map_append [] ts = refl
  map_append (s ∷ ss) ts = rw (map_append ss ts)

  filters_alternating : (n : ℕ) → map (filter_of O) (alternating_stages n) ≡ alternating O n
  unfolding alternating_stages alternating
  filters_alternating zero = refl
  filters_alternating (suc n) =
      rw (map_append (alternating_stages n) (sequence_stages (suc n)), filters_alternating n)
      (sym (append_assoc (alternating O n) (opening O (suc n) (suc n) (suc n) (suc n)) (closing O (suc n) (suc n) (suc n) (suc n))))

  pub alternating_stages_law : (n : ℕ) → stages_of O (plan_of (alternating_stages n)) ≡ alternating O n
  alternating_stages_law n = stages_plan (alternating_stages n) ∙ filters_alternating n

  ahead_map : (ss : List Stage) → look_ahead_of (map (filter_of O) ss) ≡ total below_of ss
  unfolding look_ahead_of
  ahead_map [] = refl
  ahead_map (s ∷ ss) = rw (ahead_map ss)

  -- the plan's look-ahead is that of its stages, in every order
  pub look_ahead_plan : (plan : Plan) → look_ahead_of (stages_of O plan) ≡ plan_ahead plan
  look_ahead_plan plan = ahead_map (used plan)

extents_zero : (bytes : List ℕ) (at : ℕ) → stage_number bytes at ≡ 0 → record_stage_number (stage_out_of bytes at) ≡ 0
extents_zero bytes at h =
    let e = record_stage_number (stage_out_of bytes at) in
    sym (first_one e) ∙ (first_zero (kind_number_of (get_or bytes at 0)) (e ∷ []) h).1

-- ---- an accepted reading is judged 0 as a record too

module _ (ss : List Stage) (few : length ss ≤ 16) (some : 1 ≤ length ss) (each : (i : ℕ) → i < length ss → record_stage_number (get_or ss i unused) ≡ 0) where
  pub judged_plan : record_number (plan_of ss) ≡ 0
  unfolding record_number record_stages_number
  judged_plan =
      let some : 0 ≡ count_number (length ss) = simp (ne_eqb (length ss) 0 (λ e. omega arith), le-ltb 16 (length ss) few) in
      let all : record_stages_number (plan_of ss) ≡ 0 = none_refused (length ss) (λ i. record_stage_number (get_or (ss ++ replicate (16 - length ss) unused) i unused)) (λ i k. ap record_stage_number (get_or-append ss (replicate (16 - length ss) unused) unused i k) ∙ each i k) in
      sym (count_accepted (length ss) (record_stages_number (plan_of ss)) some refl (sym all))

-- a plan that is judged 0 is so with its unused places cleared
pub judged_used : (plan : Plan) → plan.count ≤ length plan.stages → record_number plan ≡ 0 → record_number (plan_of (used plan)) ≡ 0
unfolding record_number record_stages_number
judged_used plan long h =
    let z = count_zero plan.count (record_stages_number plan) h in
    let n = counted plan.count z.0 in
    let l : length (used plan) ≡ plan.count = length-take-le plan.count plan.stages long in
    judged_plan (used plan) (omega arith) (omega arith)
    (λ i k.
    let m : i < plan.count = omega arith in
    ap record_stage_number (get_or-take plan.count plan.stages i unused m) ∙ all_zero plan.count (λ i. record_stage_number (get_or plan.stages i unused)) z.1 i m)

pub judged_reading : (count : ℕ) (bytes : List ℕ) → plan_number count bytes ≡ 0 → record_number (plan_of (stages_from count bytes)) ≡ 0
unfolding plan_number stages_from stages_number
judged_reading count bytes h =
    let z = count_zero count (stages_number count bytes) h in
    let n = counted count z.0 in
    let l : length (stages_from count bytes) ≡ count = length_tabulate count (λ i. stage_out_of bytes (i * 5)) in
    judged_plan (stages_from count bytes) (omega arith) (omega arith)
    (λ i k.
    let m : i < count = omega arith in
    let s = all_zero count (λ i. stage_number bytes (i * 5)) z.1 i m in
    ap record_stage_number (get_d_tabulate count (λ i. stage_out_of bytes (i * 5)) i unused m) ∙ extents_zero bytes (i * 5) s)

pub judged_given : (stages : List (List ℕ)) → given_number stages ≡ 0 → record_number (plan_of (stages_given stages)) ≡ 0
unfolding given_number stages_given
judged_given stages h =
    let stage : ℕ → Stage = λ i. stage_out_of (get_or stages i []) 0 in
    let number : ℕ → ℕ = λ i. stage_number (get_or stages i []) 0 in
    let z = count_zero (length stages) (first_of (tabulate (length stages) number)) h in
    let n = counted (length stages) z.0 in
    let l : length (tabulate (length stages) stage) ≡ length stages = length_tabulate (length stages) stage in
    judged_plan (tabulate (length stages) stage) (omega arith) (omega arith)
    (λ i k.
    let m : i < length stages = omega arith in
    let s = all_zero (length stages) number z.1 i m in
    ap record_stage_number (get_d_tabulate (length stages) stage i unused m) ∙ extents_zero (get_or stages i []) 0 s)

-- ---- the named plans, said of their calls' promises

pub accepted_plan : {r : Reading} (n : ℕ) (plan : Plan) → r ≡ reading_of n plan → r.number ≡ 0 → (r.plan ≡ plan) × (n ≡ 0)
accepted_plan n plan e z =
    let m : n ≡ 0 = sym (ap (λ r. r.number) e) ∙ z in
    (ap (λ r. r.plan) e ∙ simp (eq-eqb n 0 m), m)

each_of_two : (first second : Kind) (a b c d : ℕ) → extent_number (a ∷ b ∷ c ∷ d ∷ []) ≡ 0 → record_number (plan_of (pair_stages first second a b c d)) ≡ 0
each_of_two first second a b c d e = judged_plan (pair_stages first second a b c d) (omega arith) (omega arith) each
  where
    each : (i : ℕ) → i < 2 → record_stage_number (get_or (pair_stages first second a b c d) i unused) ≡ 0
    each zero h = e
    each (suc zero) h = e
    each (suc (suc i)) h = absurd (omega arith)

ordered : (n : ℕ) → order_number n ≡ 0 → record_number (plan_of (alternating_stages n)) ≡ 0
unfolding record_number record_stages_number alternating_stages
ordered zero e = absurd (omega arith)
ordered (suc zero) e = refl
ordered (suc (suc zero)) e = refl
ordered (suc (suc (suc zero))) e = refl
ordered (suc (suc (suc (suc zero)))) e = refl
ordered (suc (suc (suc (suc (suc n))))) e = absurd (let (_, m) = inside 4 (suc (suc (suc (suc (suc n))))) (given_zero 16 _ e) in omega arith)

-- An accepted answer is a plan that is judged 0, and in every order it goes through the stages that the name means.
pub record Means (r : Reading) (named : (A : Type 0) → Order A → List (Filter A)) : Type 1 where
  pub judged : record_number r.plan ≡ 0
  pub stages : (A : Type 0) (O : Order A) → stages_of O r.plan ≡ named A O

module _ {r : Reading} (accepted : r.number ≡ 0) where
  pub opening_means : (a b c d : ℕ) → r ≡ reading_of (extent_number (a ∷ b ∷ c ∷ d ∷ [])) (plan_of (opening_stages a b c d)) → Means r (λ A O. opening O a b c d)
  opening_means a b c d e =
      let p = accepted_plan (extent_number (a ∷ b ∷ c ∷ d ∷ [])) (plan_of (opening_stages a b c d)) e accepted in
      record { judged = ap record_number p.0 ∙ each_of_two Erosion Dilation a b c d p.1; stages = λ A O. ap (stages_of O) p.0 ∙ opening_stages_law O a b c d }

  pub closing_means : (a b c d : ℕ) → r ≡ reading_of (extent_number (a ∷ b ∷ c ∷ d ∷ [])) (plan_of (closing_stages a b c d)) → Means r (λ A O. closing O a b c d)
  closing_means a b c d e =
      let p = accepted_plan (extent_number (a ∷ b ∷ c ∷ d ∷ [])) (plan_of (closing_stages a b c d)) e accepted in
      record { judged = ap record_number p.0 ∙ each_of_two Dilation Erosion a b c d p.1; stages = λ A O. ap (stages_of O) p.0 ∙ closing_stages_law O a b c d }

  pub alternating_means : (n : ℕ) → r ≡ reading_of (order_number n) (plan_of (alternating_stages n)) → Means r (λ A O. alternating O n)
  alternating_means n e =
      let p = accepted_plan (order_number n) (plan_of (alternating_stages n)) e accepted in
      record { judged = ap record_number p.0 ∙ ordered n p.1; stages = λ A O. ap (stages_of O) p.0 ∙ alternating_stages_law O n }
