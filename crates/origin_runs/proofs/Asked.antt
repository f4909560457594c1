-- What the calls that ask are of the calls that do not ask. A start that asks and is taken is a start that does not ask, of a plan of one stage; and what came with an answer has the pixels that came with it.
use mathlib.Core.Path.{◌≡◌, refl, sym, ap, ◌∙◌, subst}
use mathlib.Core.List.{List, [], ◌∷◌, ◌++◌, map}
use mathlib.Core.Option
use mathlib.Core.Option.{Option}
use Prim.Native.Nat.{ℕ, ◌*◌, ◌≤◌, ◌<◌, min}
use native.Mathlib.Omega.{arith}
use borrow.Author.Tests.{ltb-false}
use lib.ListN.{length, get_or, take}
use Rattle.morph.specs.Picture.{Picture, apply_stage, apply_plan}
use Rattle.morph.proofs.Lists.{length_tabulate}
use Rattle.morph.proofs.Numbers.{first_zero, given_zero}
use Rattle.sample.specs.Samples.{Samples}
use Rattle.plan_record.specs.declared.Plan.{Plan}
use Rattle.plan_record.specs.Plan.{unused, used, filter_of, stages_of, plan_of, stage_out_of, stages_from, record_number, plan_number, total, below_of, records_needed, plan_ahead}
use Rattle.picture_state.specs.declared.State.{State}
use Rattle.picture_state.specs.Step.{RowSaid, row, is_not_yet, refused}
use Rattle.picture_state.proofs.Numbers.{plan_accepted}
use Rattle.picture_start.specs.declared.Started.{Started}
use Rattle.picture_start.specs.Start.{start_number, numbers_number, PictureStart}
use Rattle.picture_start.proofs.Starting.{start_accepted, numbers_start}
use Rattle.picture_origin.specs.Numbers.{several_number, origins_number, origins_numbers_number, OriginMemory, OriginRows}
use Rattle.picture_origin.specs.Step.{only_filter}
use Rattle.picture.specs.Runs.{came_with}
use Rattle.origin_runs.specs.OriginRuns.{origins_with, pixels_came}

-- ---- memories and rows

module _ {A : Type 0} where
  pub memory_same : (M N : OriginMemory A) → M.cells ≡ N.cells → M.columns ≡ N.columns → M ≡ N
  memory_same M N e f = ap (λ m. record { cells = m; columns = M.columns }) e ∙ ap (λ l. record { cells = N.cells; columns = l }) f

  pixels_with : (s : RowSaid) (out : OriginRows A) → Option.map (λ (o : OriginRows A). o.pixels) (origins_with s out) ≡ came_with s out.pixels
  pixels_with (row n c) out = refl
  pixels_with (is_not_yet c) out = refl
  pixels_with (refused n c) out = refl

  pub pixels_more : (came : List (Option (OriginRows A))) (s : RowSaid) (out : OriginRows A) → pixels_came came ++ (came_with s out.pixels ∷ []) ≡ pixels_came (came ++ (origins_with s out ∷ []))
  pixels_more [] s out = ap (λ o. o ∷ []) (sym (pixels_with s out))
  pixels_more (o ∷ came) s out = ap (λ l. Option.map (λ (o : OriginRows A). o.pixels) o ∷ l) (pixels_more came s out)

-- ---- a plan of one stage

pub record One (plan : Plan) : Type 0 where
  pub count : plan.count ≡ 1
  pub some : 0 < length plan.stages

take_one : {B : Type 0} (l : List B) (d : B) → 0 < length l → take 1 l ≡ get_or l 0 d ∷ []
take_one [] d h = absurd (omega arith)
take_one (b ∷ l) d h = refl

one_used : (plan : Plan) → One plan → used plan ≡ get_or plan.stages 0 unused ∷ []
one_used plan o = ap (λ n. take n plan.stages) o.count ∙ take_one plan.stages unused o.some

module _ {A : Type 0} (K : Samples A) (S : State) (o : One S.plan) where
  pub one_stage : stages_of K.order S.plan ≡ only_filter K S ∷ []
  one_stage = ap (map (filter_of K.order)) (one_used S.plan o)

  pub one_ahead : (only_filter K S).below ≡ plan_ahead S.plan
  one_ahead = let e = ap (total below_of) (one_used S.plan o) in omega arith

  pub one_row_law : (p : Picture A) (k : ℕ) → get_or (apply_plan (stages_of K.order S.plan) p) k [] ≡ get_or (apply_stage (only_filter K S) p) k []
  unfolding apply_plan
  one_row_law p k = ap (λ Ss. get_or (apply_plan Ss p) k []) one_stage

-- ---- the starts

asked_plain : (plan : Plan) (sample width rows cells records : ℕ) → origins_number plan sample width rows cells records ≡ 0 → (start_number plan sample width rows cells records ≡ 0) × (plan.count ≡ 1)
unfolding origins_number
asked_plain plan sample width rows cells records e =
    let n = start_number plan sample width rows cells records in
    let (a, b) = first_zero (record_number plan) (several_number plan.count ∷ n ∷ []) e in
    let (c, d) = first_zero (several_number plan.count) (n ∷ []) b in
    ((first_zero n [] d).0, omega (arith, (plan_accepted plan a).some, ltb-false 1 plan.count (given_zero 19 _ c)))

numbers_plain : (count : ℕ) (bytes : List ℕ) (sample width rows cells records : ℕ) → origins_numbers_number count bytes sample width rows cells records ≡ 0
    → (numbers_number count bytes sample width rows cells records ≡ 0) × (count ≤ 1)
unfolding origins_numbers_number
numbers_plain count bytes sample width rows cells records e =
    let n = numbers_number count bytes sample width rows cells records in
    let (a, b) = first_zero (plan_number count bytes) (several_number count ∷ n ∷ []) e in
    let (c, d) = first_zero (several_number count) (n ∷ []) b in
    ((first_zero n [] d).0, ltb-false 1 count (given_zero 19 _ c))

numbers_long : (count : ℕ) (bytes : List ℕ) → length (stages_from count bytes) ≡ count
unfolding stages_from
numbers_long count bytes = length_tabulate count (λ i. stage_out_of bytes (i * 5))

module _ (sample width rows cells : ℕ) (first : State) (starts lengths starts' lengths' : List ℕ) (r : Started) (z : r.number ≡ 0) where
  -- a start that is judged so
  abbrev Starts : ℕ → ℕ → Type 0
  Starts number needed = PictureStart number first needed starts lengths starts' lengths' r

  abbrev records : ℕ
  records = min (length starts) (length lengths)

  starts_as : (m n needed : ℕ) → n ≡ 0 → Starts m needed → Starts n needed
  starts_as m n needed e h = subst (λ k. Starts k needed) (sym h.told ∙ z ∙ sym e) h

  pub asked_start : (plan : Plan) → Starts (origins_number plan sample width rows cells records) (records_needed plan width)
      → Starts (start_number plan sample width rows cells records) (records_needed plan width) × (plan.count ≡ 1)
  asked_start plan h =
      let (e, one) = asked_plain plan sample width rows cells records (sym h.told ∙ z) in
      (starts_as (origins_number plan sample width rows cells records) (start_number plan sample width rows cells records) (records_needed plan width) e h, one)

  module _ (count : ℕ) (bytes : List ℕ) where
    abbrev plan_of_law : Plan
    plan_of_law = plan_of (stages_from count bytes)

    pub asked_numbers : Starts (origins_numbers_number count bytes sample width rows cells records) (records_needed plan_of_law width)
        → Starts (numbers_number count bytes sample width rows cells records) (records_needed plan_of_law width) × Starts (start_number plan_of_law sample width rows cells records) (records_needed plan_of_law width) × (plan_of_law.count ≡ 1)
    asked_numbers h =
        let (e, few) = numbers_plain count bytes sample width rows cells records (sym h.told ∙ z) in
        let k = starts_as (origins_numbers_number count bytes sample width rows cells records) (numbers_number count bytes sample width rows cells records) (records_needed plan_of_law width) e h in
        let s = numbers_start count bytes sample width rows cells first starts lengths starts' lengths' r k z in
        let (a, _, _, _) = start_accepted plan_of_law sample width rows cells records (sym s.told ∙ z) in
        (k, s, omega (arith, (plan_accepted plan_of_law a).some, numbers_long count bytes))
