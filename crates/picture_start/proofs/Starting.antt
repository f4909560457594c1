-- The laws of a start: its number, the records that it clears, and that the state and the memory afterwards are those before the first step of any picture.
use mathlib.Core.Path.{◌≡◌, refl, sym, ap, ◌∙◌, subst}
use mathlib.Core.Bool.{Bool, true, false, not, ◌||◌}
use mathlib.Core.List.{List, [], ◌∷◌}
use Prim.Native.Nat.{ℕ, zero, suc, ◌+◌, ◌-◌, ◌*◌, ◌≤◌, ◌<◌, min}
use native.Mathlib.Nat.{mul-le-mul_right}
use native.Mathlib.Omega.{arith}
use borrow.Author.Tests.{le-ltb, eq-eqb}
use lib.Dec.{eqb}
use lib.ListN.{length, get_or, take, drop, replicate, length-append, length-take, length-drop, length-replicate, get_or-replicate, get_or-append, length-map}
use lib.Seq.{get_or-take, get_or-drop, length-take-le}
use Rattle.morph.specs.Picture.{Picture, apply_stage}
use Rattle.morph.specs.Plan.{column_queue}
use Rattle.morph.proofs.Line.{queue_start}
use Rattle.morph.specs.Numbers.{given}
use Rattle.morph.proofs.Numbers.{first_one, first_skip, first_found, first_zero, skip}
use Rattle.sample.specs.Samples.{Samples}
use Rattle.morph.specs.Cell.{read_at}
use Rattle.memory.specs.Memory.{column_at, Memory, memory, front_in, behind, sound_records, all_sound, StageHolds, Holds}
use Rattle.columns.proofs.Column.{column_length}
use Rattle.memory.proofs.Records.{sound_test}
use Rattle.plan_record.specs.declared.Stage.{Stage}
use Rattle.plan_record.specs.declared.Plan.{Plan}
use Rattle.plan_record.specs.Numbers.{sample_number, size_number}
use Rattle.plan_record.specs.Plan.{used, size_of, cells_of, below_of, filter_of, record_number, records_needed, plan_ahead, plan_of, stages_from, plan_number, plan_read}
use Rattle.plan_record.specs.declared.Reading.{Reading}
use Rattle.plan_record.proofs.Laws.{used_plan}
use Rattle.plan_record.proofs.Named.{judged_used, judged_reading}
use Rattle.plan_record.proofs.Numbers.{size_accepted}
use Rattle.picture_state.specs.declared.State.{State}
use Rattle.picture_state.specs.declared.Ending.{Ending}
use Rattle.picture_state.specs.declared.Ending.TheVariants.{Fixed, Open}
use Rattle.picture_state.specs.Numbers.{size_in, is_step_off, memory_number, state_number}
use Rattle.picture_state.proofs.Numbers.{plan_accepted, memory_accepted}
use Rattle.picture_start.specs.declared.Started.{Started}
use Rattle.picture_start.specs.Start.{state_from, state_of_none, cleared, start_number, numbers_number, PictureStart}
use Rattle.picture_start.specs.Inner.{Emptied}

-- ---- the number

module _ (plan : Plan) (sample width rows cells records : ℕ) where
  abbrev number : ℕ
  number = start_number plan sample width rows cells records

  -- what is left to judge after the size, the sample kind and the plan
  abbrev after_size : List ℕ
  after_size = memory_number plan width cells records ∷ []

  abbrev after_sample : List ℕ
  after_sample = size_number width rows ∷ after_size

  abbrev after_plan : List ℕ
  after_plan = sample_number sample ∷ after_sample

  module _ (a : record_number plan ≡ 0) where
    module _ (b : sample_number sample ≡ 0) where
      pub start_memory : size_number width rows ≡ 0 → (n : ℕ) → n ≡ memory_number plan width cells records → n ≡ number
      unfolding start_number
      start_memory c n e =
          skip (record_number plan) after_plan a
          (skip (sample_number sample) after_sample b (skip (size_number width rows) after_size c (e ∙ sym (first_one (memory_number plan width cells records)))))

  -- nothing is wrong: what that says
  pub start_accepted : number ≡ 0 → (record_number plan ≡ 0) × (sample_number sample ≡ 0) × (size_number width rows ≡ 0) × (memory_number plan width cells records ≡ 0)
  unfolding start_number
  start_accepted e =
      let (a, f) = first_zero (record_number plan) after_plan e in
      let (b, g) = first_zero (sample_number sample) after_sample f in
      let (c, h) = first_zero (size_number width rows) after_size g in
      let (d, _) = first_zero (memory_number plan width cells records) [] h in
      (a, b, c, d)

-- ---- clearing

pub cleared_at : (n : ℕ) (l : List ℕ) (i : ℕ) → i < n → get_or (cleared n l) i 0 ≡ 0
unfolding cleared
cleared_at n l i h = get_or-append (replicate n 0) (drop n l) 0 i (rw length-replicate h) ∙ get_or-replicate n i 0 0 h

pub cleared_long : (n : ℕ) (l : List ℕ) → n ≤ length l → length (cleared n l) ≡ length l
unfolding cleared
cleared_long n l h = rw (length-append, length-replicate, length-drop) (omega arith)

-- ---- the answer

-- what an accepted start may rely on
pub start_fits : (plan : Plan) (sample width rows cells records : ℕ) → start_number plan sample width rows cells records ≡ 0 → (plan.count ≤ 16) × (width ≤ 4096) × (records_needed plan width ≤ records)
start_fits plan sample width rows cells records e =
    let (a, _, c, d) = start_accepted plan sample width rows cells records e in
    let (_, w, _, _) = size_accepted width rows c in
    let (_, m) = memory_accepted plan width cells records d in
    ((plan_accepted plan a).few, w, m)

module _ (number needed : ℕ) (starts lengths : List ℕ) where
  pub empties_refused : (n : ℕ) → n ≡ number → (n ≡ 0 → ⊥) → Emptied number needed starts lengths starts lengths n
  empties_refused n e h = record { told = e; refusal = λ _. (refl, refl); accepted = λ z. absurd (h (e ∙ z)) }

  pub empties_went : (n : ℕ) (starts' lengths' : List ℕ) → number ≡ 0 → n ≡ needed → starts' ≡ cleared n starts → lengths' ≡ cleared n lengths
      → Emptied number needed starts lengths starts' lengths' 0
  empties_went n starts' lengths' z e a b =
      record { told = sym z; refusal = λ k. absurd (k z); accepted = λ _. (a ∙ ap (λ m. cleared m starts) e, b ∙ ap (λ m. cleared m lengths) e) }

  module _ (first : State) where
    pub start_refused : (n : ℕ) (r : Started) → n ≡ number → (n ≡ 0 → ⊥) → r.number ≡ n → r.state ≡ state_of_none → PictureStart number first needed starts lengths starts lengths r
    start_refused n r e h q s = record { told = q ∙ e; refusal = λ _. (s, refl, refl); accepted = λ z. absurd (h (e ∙ z)) }

-- "the answer, the state and all lent cells afterwards follow from its inputs alone"
abbrev started : ℕ → State → Started
started number state = record { number = number; state = state }

started_same : (r q : Started) → r.number ≡ q.number → r.state ≡ q.state → r ≡ q
started_same r q a b = ap (λ n. started n r.state) a ∙ ap (λ s. started q.number s) b

pub start_unique : (number needed : ℕ) (first : State) (starts lengths a b c d : List ℕ) (r q : Started)
    → PictureStart number first needed starts lengths a b r → PictureStart number first needed starts lengths c d q → (r ≡ q) × (a ≡ c) × (b ≡ d)
start_unique zero needed first starts lengths a b c d r q h k =
    let (x, y, z) = h.accepted refl in
    let (u, v, w) = k.accepted refl in
    (started_same r q (h.told ∙ sym k.told) (x ∙ sym u), y ∙ sym v, z ∙ sym w)
start_unique (suc n) needed first starts lengths a b c d r q h k =
    let (x, y, z) = h.refusal (λ (e : suc n ≡ 0). omega arith) in
    let (u, v, w) = k.refusal (λ (e : suc n ≡ 0). omega arith) in
    (started_same r q (h.told ∙ sym k.told) (x ∙ sym u), y ∙ sym v, z ∙ sym w)

-- ---- before the first step: all queues are empty, whatever the cells hold

none : {A : Type 0} (l : List A) → length l ≡ 0 → l ≡ []
none [] e = refl
none (a ∷ l) e = absurd (omega arith)

-- the first n of a list are 0
abbrev Zeros : ℕ → List ℕ → Type 0
Zeros n l = (i : ℕ) → i < n → get_or l i 0 ≡ 0

module _ {A : Type 0} (K : Samples A) where
  stage_first : (s : Stage) (W : ℕ) (p : Picture A) (t : ℕ) → t ≡ 0 → (M : Memory A) → Zeros W M.lengths → StageHolds K s W p t (front_in (cells_of W s) W M)
  unfolding column_queue
  stage_first s W p t e M h x k =
      none _
      (length-map (column_at K (size_of s) (take (cells_of W s) M.values) (take (cells_of W s) M.positions) (take W M.starts) (take W M.lengths) x) (read_at (min t (length p + below_of s))) ∙ column_length K (size_of s) x (take (cells_of W s) M.values) (take (cells_of W s) M.positions) (take W M.starts) (take W M.lengths) ∙ get_or-take W M.lengths x 0 k ∙ h x k)
      ∙ sym (queue_start _ _ _ (min t (length p + below_of s)) (omega arith))

  pub holds_first : (ss : List Stage) (W : ℕ) (p : Picture A) (t : ℕ) → t ≡ 0 → (M : Memory A) → Zeros (length ss * W) M.lengths → Holds K ss W p t M
  unfolding Holds
  holds_first [] W p t e M h = tt
  holds_first (s ∷ ss) W p t e M h = (
    stage_first s W p t e M (λ i k. h i (omega arith)),
    holds_first ss W (apply_stage (filter_of K.order s) p) (t - below_of s) (omega arith) (behind (cells_of W s) W M) (λ i k. get_or-drop W M.lengths i 0 ∙ h (W + i) (omega arith)),
  )

pub sound_zeros : (ss : List Stage) (W : ℕ) (starts lengths : List ℕ) → Zeros (length ss * W) starts → Zeros (length ss * W) lengths
    → length ss * W ≤ length starts → length ss * W ≤ length lengths → all_sound W ss starts lengths ≡ true
unfolding all_sound
sound_zeros [] W starts lengths a b m n = refl
sound_zeros (s ∷ ss) W starts lengths a b m n =
    let here : sound_records (size_of s) (take W starts) (take W lengths) ≡ true =
    sound_test (size_of s) W (take W starts) (take W lengths) (length-take-le W starts (omega arith)) (length-take-le W lengths (omega arith))
    (record {
      below = λ x k. omega (arith, get_or-take W starts x 0 k, a x (omega arith));
      fits = λ x k. omega (arith, get_or-take W lengths x 0 k, b x (omega arith));
    }) in
    let rest : all_sound W ss (drop W starts) (drop W lengths) ≡ true =
    sound_zeros ss W (drop W starts) (drop W lengths) (λ i k. get_or-drop W starts i 0 ∙ a (W + i) (omega arith)) (λ i k. get_or-drop W lengths i 0 ∙ b (W + i) (omega arith))
    (rw length-drop (omega arith)) (rw length-drop (omega arith)) in
    rw (here, rest)

state_none : (m n k : ℕ) (b : Bool) → m ≡ 0 → n ≡ 0 → k ≡ 0 → b ≡ false → given 12 (not (eqb m 0) || not (eqb n 0) || not (eqb k 0) || b) ≡ 0
state_none m n k b e f g h = rw (e, f, g, h)

-- A state that begins so breaks no rule, where its size and its step count, 0, do not; a start judges the size as that of a picture of `judged` rows.
pub record Begins (ending : Ending) (rows judged : ℕ) : Type 0 where
  pub size : (width : ℕ) → size_number width judged ≡ 0 → size_in ending width rows ≡ 0
  pub step : (D : ℕ) → is_step_off ending rows D 0 ≡ false

pub begins_fixed : (rows : ℕ) → Begins Fixed rows rows
begins_fixed rows = record { size = λ width z. z; step = λ D. le-ltb (rows + D) 0 (omega arith) }

pub begins_open : Begins Open 0 1
begins_open = record { size = λ width z. z; step = λ D. le-ltb 4294967296 0 (omega arith) }

state_first : (plan : Plan) (sample width : ℕ) (ending : Ending) (rows judged : ℕ) → Begins ending rows judged → plan.count ≤ length plan.stages
    → record_number plan ≡ 0 → sample_number sample ≡ 0 → size_number width judged ≡ 0 → state_number (state_from plan sample width ending rows) ≡ 0
unfolding state_number
state_first plan sample width ending rows judged begins long a b c =
    let kept = plan_of (used plan) in
    state_none (record_number kept) (sample_number sample) (size_in ending width rows) (is_step_off ending rows (plan_ahead kept) 0) (judged_used plan long a) b (begins.size width c) (begins.step (plan_ahead kept))

-- After an accepted start the state breaks no rule and has the plan's stages, the records are sound, and for every picture the memory holds what no step leaves, whatever its cells hold.
pub record First {A : Type 0} (K : Samples A) (plan : Plan) (width : ℕ) (starts lengths : List ℕ) (S : State) : Type 0 where
  pub judged : state_number S ≡ 0
  pub stages : used S.plan ≡ used plan
  pub sound : all_sound width (used plan) starts lengths ≡ true
  pub holds : (values : List A) (positions : List ℕ) (p : Picture A) → Holds K (used plan) width p 0 (memory values positions starts lengths)

pub start_first : {A : Type 0} (K : Samples A) (plan : Plan) (sample width : ℕ) (ending : Ending) (rows judged : ℕ) → Begins ending rows judged
    → (cells : ℕ) (starts lengths starts' lengths' : List ℕ) (r : Started) → plan.count ≤ length plan.stages
    → PictureStart (start_number plan sample width judged cells (min (length starts) (length lengths))) (state_from plan sample width ending rows) (records_needed plan width) starts lengths starts' lengths' r
    → r.number ≡ 0 → First K plan width starts' lengths' r.state
start_first K plan sample width ending rows judged begins cells starts lengths starts' lengths' r long h z =
    let e = sym h.told ∙ z in
    let (a, b, c, d) = start_accepted plan sample width judged cells (min (length starts) (length lengths)) e in
    let (_, m) = memory_accepted plan width cells (min (length starts) (length lengths)) d in
    let (s, f, g) = h.accepted e in
    let n : length (used plan) ≤ plan.count = rw length-take (omega arith) in
    let few : length (used plan) * width ≤ records_needed plan width = mul-le-mul_right width n in
    let zs : Zeros (length (used plan) * width) starts' = λ i k. ap (λ l. get_or l i 0) f ∙ cleared_at (records_needed plan width) starts i (omega arith) in
    let zl : Zeros (length (used plan) * width) lengths' = λ i k. ap (λ l. get_or l i 0) g ∙ cleared_at (records_needed plan width) lengths i (omega arith) in
    let ls : length starts' ≡ length starts = ap length f ∙ cleared_long (records_needed plan width) starts (omega arith) in
    let ll : length lengths' ≡ length lengths = ap length g ∙ cleared_long (records_needed plan width) lengths (omega arith) in
    record {
      judged = ap state_number s ∙ state_first plan sample width ending rows judged begins long a b c;
      stages = ap (λ S. used S.plan) s ∙ used_plan (used plan);
      sound = sound_zeros (used plan) width starts' lengths' zs zl (omega arith) (omega arith);
      holds = λ values positions p. holds_first K (used plan) width p 0 refl (memory values positions starts' lengths') zl;
    }

-- ---- a start of a plan in numbers

module _ (count : ℕ) (bytes : List ℕ) (sample width rows cells records : ℕ) where
  abbrev plan_of_law : Plan
  plan_of_law = plan_of (stages_from count bytes)

  abbrev numbered : ℕ
  numbered = numbers_number count bytes sample width rows cells records

  numbers_plan : (plan_number count bytes ≡ 0 → ⊥) → plan_number count bytes ≡ numbered
  unfolding numbers_number
  numbers_plan h = sym (first_found (plan_number count bytes) (after_plan plan_of_law sample width rows cells records) h)

  numbers_read : numbered ≡ 0 → plan_number count bytes ≡ 0
  unfolding numbers_number
  numbers_read e = (first_zero (plan_number count bytes) (after_plan plan_of_law sample width rows cells records) e).0

  pub numbers_rest : plan_number count bytes ≡ 0 → start_number plan_of_law sample width rows cells records ≡ numbered
  unfolding start_number numbers_number
  numbers_rest e =
      first_skip (record_number plan_of_law) (after_plan plan_of_law sample width rows cells records) (judged_reading count bytes e)
      ∙ sym (first_skip (plan_number count bytes) (after_plan plan_of_law sample width rows cells records) e)

  module _ (R : Reading) (e : R ≡ plan_read count bytes) where
    pub read_number : R.number ≡ plan_number count bytes
    unfolding plan_read
    read_number = ap (λ r. r.number) e

    pub read_plan : plan_number count bytes ≡ 0 → R.plan ≡ plan_of_law
    unfolding plan_read
    read_plan m = ap (λ r. r.plan) e ∙ simp (eq-eqb (plan_number count bytes) 0 m)

    pub numbers_refused : (needed : ℕ) (first : State) (starts lengths : List ℕ) (r : Started) → (R.number ≡ 0 → ⊥) → r.number ≡ R.number → r.state ≡ state_of_none
        → PictureStart numbered first needed starts lengths starts lengths r
    numbers_refused needed first starts lengths r h q s =
        start_refused numbered needed starts lengths first R.number r (read_number ∙ numbers_plan (λ z. h (read_number ∙ z))) h q s

    -- a start of the plan read, in a state that rests on it, is that of the numbers
    pub numbers_went : (first : Plan → State) (starts lengths starts' lengths' : List ℕ) (r : Started) → R.number ≡ 0
        → PictureStart (start_number R.plan sample width rows cells records) (first R.plan) (records_needed R.plan width) starts lengths starts' lengths' r
        → PictureStart numbered (first plan_of_law) (records_needed plan_of_law width) starts lengths starts' lengths' r
    numbers_went first starts lengths starts' lengths' r z h =
        let m = sym read_number ∙ z in
        let g = subst (λ (p : Plan). PictureStart (start_number p sample width rows cells records) (first p) (records_needed p width) starts lengths starts' lengths' r) (read_plan m) h in
        subst (λ (n : ℕ). PictureStart n (first plan_of_law) (records_needed plan_of_law width) starts lengths starts' lengths' r) (numbers_rest m) g

-- a start of a plan in numbers that is taken is a start of the plan that they say
pub numbers_start : (count : ℕ) (bytes : List ℕ) (sample width rows cells : ℕ) (first : State) (starts lengths starts' lengths' : List ℕ) (r : Started)
    → PictureStart (numbers_number count bytes sample width rows cells (min (length starts) (length lengths))) first (records_needed (plan_of (stages_from count bytes)) width) starts lengths starts' lengths' r
    → r.number ≡ 0
    → PictureStart (start_number (plan_of (stages_from count bytes)) sample width rows cells (min (length starts) (length lengths))) first (records_needed (plan_of (stages_from count bytes)) width) starts lengths starts' lengths' r
numbers_start count bytes sample width rows cells first starts lengths starts' lengths' r h z =
    let e = numbers_rest count bytes sample width rows cells (min (length starts) (length lengths)) (numbers_read count bytes sample width rows cells (min (length starts) (length lengths)) (sym h.told ∙ z)) in
    subst (λ (n : ℕ). PictureStart n first (records_needed (plan_of (stages_from count bytes)) width) starts lengths starts' lengths' r) (sym e) h

-- and so is what comes of it
pub numbers_first : {A : Type 0} (K : Samples A) (count : ℕ) (bytes : List ℕ) (sample width : ℕ) (ending : Ending) (rows judged : ℕ) → Begins ending rows judged
    → (cells : ℕ) (starts lengths starts' lengths' : List ℕ) (r : Started)
    → PictureStart (numbers_number count bytes sample width judged cells (min (length starts) (length lengths))) (state_from (plan_of (stages_from count bytes)) sample width ending rows)
    (records_needed (plan_of (stages_from count bytes)) width) starts lengths starts' lengths' r
    → r.number ≡ 0 → First K (plan_of (stages_from count bytes)) width starts' lengths' r.state
numbers_first K count bytes sample width ending rows judged begins cells starts lengths starts' lengths' r h z =
    let plan = plan_of (stages_from count bytes) in
    let long : plan.count ≤ length plan.stages = rw length-append (omega arith) in
    start_first K plan sample width ending rows judged begins cells starts lengths starts' lengths' r long
    (numbers_start count bytes sample width judged cells (state_from plan sample width ending rows) starts lengths starts' lengths' r h z) z
