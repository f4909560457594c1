-- From the chain's step on the cut memory to the whole step's promise. By which idea: the stages look at no more than they need, so cutting the memory changes nothing.
use mathlib.Core.Path.{◌≡◌, refl, sym, ap, ◌∙◌, subst}
use mathlib.Core.Bool.{Bool, true, false, not, ◌||◌}
use mathlib.Core.List.{List, [], ◌∷◌, map}
use Prim.Native.Nat.{ℕ, zero, suc, ◌+◌, ◌-◌, ◌*◌, ◌≤◌, ◌<◌, min}
use native.Mathlib.Nat.{zero-add, suc-add}
use native.Mathlib.Omega.{arith}
use borrow.Author.Tests.{leb-true, leb-false, ltb-false, le-ltb, eq-eqb, ne_eqb}
use lib.Dec.{eqb, ltb, leb}
use lib.ListN.{length, take, drop, length-take}
use lib.Seq.{take-nil, length-take-le, take-take}
use Rattle.morph.specs.Lists.{all}
use Rattle.morph.specs.Picture.{Picture, apply_stage}
use Rattle.morph.specs.Numbers.{given}
use Rattle.morph.proofs.Lists.{neither}
use Rattle.morph.proofs.Numbers.{first_one, first_skip, first_found, given_zero}
use Rattle.sample.specs.Samples.{Samples, first_bad}
use Rattle.plan_record.specs.declared.Stage.{Stage}
use Rattle.plan_record.specs.declared.Plan.{Plan}
use Rattle.plan_record.specs.Numbers.{sample_number}
use Rattle.plan_record.specs.Plan.{record_number, used, filter_of, below_of, cells_of, total, cells_needed, records_needed, plan_ahead}
use Rattle.memory.specs.Memory.{Memory, front_in, behind, all_sound, StageHolds, Holds}
use Rattle.chain.specs.Inner.{Ready, PlanStep}
use Rattle.chain.proofs.Memory.{AtLeast, Sized, AsLong, append, append_front, append_behind, append_long}
use Rattle.picture_state.specs.declared.State.{State}
use Rattle.picture_state.specs.declared.Ending.{Ending}
use Rattle.picture_state.specs.declared.Ending.TheVariants.{Fixed, Open, Stopped}
use Rattle.picture_state.specs.declared.Answer.{Answer}
use Rattle.picture_state.specs.Step.{RowSaid, row, is_not_yet, refused, row_said_of, row_said_at, next_state, Advanced, RowStep, DrainStep}
use Rattle.picture_state.proofs.Numbers.{shared_accepted, used_small, offer_accepted, drain_accepted}
use Rattle.picture_state.specs.Inner.{StateSound, Fit}
use Rattle.picture_state.specs.Numbers.{height_in, height_of, size_in, is_step_off, state_number, memory_judged, offer_number, row_number, drain_judged}

-- ---- cutting

drop_take : {B : Type 0} (n m : ℕ) (l : List B) → drop n (take (n + m) l) ≡ take m (drop n l)
drop_take zero m l = rw zero-add
drop_take (suc n) m [] = rw (suc-add, take-nil)
drop_take (suc n) m (a ∷ l) = rw suc-add (drop_take n m l)

sound_cut : (W : ℕ) (ss : List Stage) (starts lengths : List ℕ) → all_sound W ss (take (length ss * W) starts) (take (length ss * W) lengths) ≡ all_sound W ss starts lengths
unfolding all_sound
sound_cut W [] starts lengths = refl
sound_cut W (s ∷ ss) starts lengths =
    let e : suc (length ss) * W ≡ W + length ss * W = omega arith in
    rw (e, take-take W (W + length ss * W) starts (omega arith), take-take W (W + length ss * W) lengths (omega arith), drop_take W (length ss * W) starts, drop_take W (length ss * W) lengths, sound_cut W ss (drop W starts) (drop W lengths))

module _ {A : Type 0} (c C W R R' : ℕ) (e : R' ≡ W + R) (M : Memory A) where
  cut_front : front_in c W (front_in (c + C) R' M) ≡ front_in c W M
  cut_front = rw (take-take c (c + C) M.values (omega arith), take-take c (c + C) M.positions (omega arith), take-take W R' M.starts (omega arith), take-take W R' M.lengths (omega arith))

  cut_behind : behind c W (front_in (c + C) R' M) ≡ front_in C R (behind c W M)
  cut_behind = rw (e, drop_take c C M.values, drop_take c C M.positions, drop_take W R M.starts, drop_take W R M.lengths)

-- the memory that the stages need
module _ {A : Type 0} (K : Samples A) where
  holds_cut : (ss : List Stage) (W : ℕ) (p : Picture A) (t : ℕ) (M : Memory A) → Holds K ss W p t M → Holds K ss W p t (front_in (total (cells_of W) ss) (length ss * W) M)
  unfolding Holds
  holds_cut [] W p t M h = tt
  holds_cut (s ∷ ss) W p t M h =
      let e : suc (length ss) * W ≡ W + length ss * W = omega arith in
      let P = apply_stage (filter_of K.order s) p in (
        subst (StageHolds K s W p t) (sym (cut_front (cells_of W s) (total (cells_of W) ss) W (length ss * W) (suc (length ss) * W) e M)) h.0,
        subst (Holds K ss W P (t - below_of s)) (sym (cut_behind (cells_of W s) (total (cells_of W) ss) W (length ss * W) (suc (length ss) * W) e M)) (holds_cut ss W P (t - below_of s) (behind (cells_of W s) W M) h.1),
      )

  holds_whole : (ss : List Stage) (W : ℕ) (p : Picture A) (t : ℕ) (M : Memory A) → Holds K ss W p t (front_in (total (cells_of W) ss) (length ss * W) M) → Holds K ss W p t M
  unfolding Holds
  holds_whole [] W p t M h = tt
  holds_whole (s ∷ ss) W p t M h =
      let e : suc (length ss) * W ≡ W + length ss * W = omega arith in
      let P = apply_stage (filter_of K.order s) p in (
        subst (StageHolds K s W p t) (cut_front (cells_of W s) (total (cells_of W) ss) W (length ss * W) (suc (length ss) * W) e M) h.0,
        holds_whole ss W P (t - below_of s) (behind (cells_of W s) W M) (subst (Holds K ss W P (t - below_of s)) (cut_behind (cells_of W s) (total (cells_of W) ss) W (length ss * W) (suc (length ss) * W) e M) h.1),
      )

-- ---- the chain's step on what is needed, as a step of the whole

pub judged_fit : {A : Type 0} (kind : ℕ) (S : State) (M : Memory A) → memory_judged kind S M ≡ 0 → Fit S M
judged_fit kind S M e =
    let h = shared_accepted kind S (min (length M.values) (length M.positions)) (min (length M.starts) (length M.lengths)) M.starts M.lengths e in
    let a = h.cells_lent in
    let b = h.records_lent in
    record { run = h.run; values_lent = omega arith; positions_lent = omega arith; starts_lent = omega arith; lengths_lent = omega arith; sound = h.sound }

-- ---- the state after a step

step_more : (e : Ending) (rows D step : ℕ) → is_step_off e rows D step ≡ false → step < height_in e rows step + D → height_in e rows step ≤ 4294967296 → is_step_off e rows D (step + 1) ≡ false
step_more Fixed rows D step o l h = le-ltb (rows + D) (step + 1) (omega arith)
step_more Open rows D step o l h = le-ltb 4294967296 (step + 1) h
step_more Stopped rows D step o l h =
    let (a, _) = neither (ltb step rows) _ o in
    let b = ltb-false step rows a in
    rw (le-ltb (step + 1) rows (omega arith), le-ltb (rows + D) (step + 1) (omega arith))

pub state_next : (S : State) → state_number S ≡ 0 → S.step < height_of S + plan_ahead S.plan → height_of S ≤ 4294967296 → state_number (next_state S) ≡ 0
unfolding state_number
state_next S e l h =
    let (a, b) = neither (not (eqb (record_number S.plan) 0) || not (eqb (sample_number S.sample) 0) || not (eqb (size_in S.ending S.width S.rows) 0)) _ (given_zero 11 _ e) in
    rw (a, step_more S.ending S.rows (plan_ahead S.plan) S.step b l h)

-- what a step that is accepted may rely on: the memory fits, one more step is within the picture's, whose rows have numbers, and the rows are as long as the width
pub record Taken {A : Type 0} (S : State) (M : Memory A) (out : List A) : Type 0 where
  pub fit : Fit S M
  pub within : S.step < height_of S + plan_ahead S.plan
  pub low : height_of S ≤ 4294967296
  pub out_wide : length out ≡ S.width

module _ {A : Type 0} (kind : ℕ) (S : State) (M : Memory A) where
  pub offer_taken : (pixels out : List A) → offer_number kind S (length pixels) (length out) (length M.values) (length M.positions) M.starts M.lengths ≡ 0
      → Taken S M out × (length pixels ≡ S.width)
  offer_taken pixels out e =
      let t = offer_accepted kind S (length M.values) (length M.positions) M.starts M.lengths (length pixels) (length out) e in
      (record { fit = judged_fit kind S M t.judged; within = omega (arith, t.within); low = t.low; out_wide = t.out_wide }, t.wide)

  pub drain_taken : (out : List A) → drain_judged kind S M out ≡ 0 → Taken S M out
  drain_taken out e =
      let t = drain_accepted kind S (length M.values) (length M.positions) M.starts M.lengths (length out) e in
      record { fit = judged_fit kind S M t.judged; within = t.within; low = t.low; out_wide = t.out_wide }

module _ {A : Type 0} (K : Samples A) (S : State) (M : Memory A) (long : length S.plan.stages ≡ 16) where
  abbrev C : ℕ
  C = cells_needed S.plan S.width

  abbrev R : ℕ
  R = records_needed S.plan S.width

  abbrev D : ℕ
  D = plan_ahead S.plan

  used_long : StateSound S → length (used S.plan) ≡ S.plan.count
  used_long r = rw length-take (omega (arith, r.plan.few))

  pub fit_ready : Fit S M → Ready (used S.plan) S.width (front_in C R M)
  fit_ready h =
      let n = used_long h.run in
      let e : length (used S.plan) * S.width ≡ R = rw n in
      record {
        narrow = h.run.narrow;
        short = omega (arith, h.run.plan.few);
        small = used_small S.plan h.run.plan;
        values_long = length-take-le C M.values h.values_lent;
        positions_long = length-take-le C M.positions h.positions_lent;
        starts_long = length-take-le R M.starts h.starts_lent ∙ sym e;
        lengths_long = length-take-le R M.lengths h.lengths_lent ∙ sym e;
        sound = rw (← e) (sound_cut S.width (used S.plan) M.starts M.lengths ∙ h.sound);
      }

  -- what is needed comes back as F, before what is past the need
  abbrev backed : Memory A → Memory A
  backed F = append F (behind C R M)

  module _ (h : Fit S M) (row : List A) (wide : length row ≡ S.width) (F : Memory A) (row' : List A) (c : ℕ) (due : Bool)
      (g : PlanStep K (used S.plan) (height_of S) S.step (front_in C R M) row F row' c due) where
    ready' : Ready (used S.plan) S.width F
    ready' = rw wide at g.ready

    e : length (used S.plan) * S.width ≡ R
    e = rw (used_long h.run)

    sized : Sized C R F
    sized = record {
      values_long = ready'.values_long;
      positions_long = ready'.positions_long;
      starts_long = ready'.starts_long ∙ e;
      lengths_long = ready'.lengths_long ∙ e;
    }

    backed_long : AsLong (backed F) M
    backed_long =
        let r = fit_ready h in
        append_long C R M F
        (record {
          values_long = ready'.values_long ∙ sym r.values_long;
          positions_long = ready'.positions_long ∙ sym r.positions_long;
          starts_long = ready'.starts_long ∙ sym r.starts_long;
          lengths_long = ready'.lengths_long ∙ sym r.lengths_long;
        })

    backed_front : front_in C R (backed F) ≡ F
    backed_front = append_front C R F (behind C R M) sized

    backed_sound : all_sound S.width (used S.plan) (backed F).starts (backed F).lengths ≡ true
    backed_sound =
        sym (sound_cut S.width (used S.plan) (backed F).starts (backed F).lengths)
        ∙ rw e (ap (λ (m : Memory A). all_sound S.width (used S.plan) m.starts m.lengths) backed_front ∙ ready'.sound)

    holds_back : (q : Picture A) (t : ℕ) → Holds K (used S.plan) S.width q t F → Holds K (used S.plan) S.width q t (backed F)
    holds_back q t k =
        holds_whole K (used S.plan) S.width q t (backed F) (rw (e, backed_front) k)

    -- the step's promise, whatever the answer says of the row
    module _ (out out' : List A) (answer : Answer) (S' : State) (next : S' ≡ next_state S) (within : S.step < height_of S + D) where
      advanced : row_said_of answer ≡ row_said_at (leb D S.step) (S.step - D) c → (S.step < D → out' ≡ out) → (D ≤ S.step → out' ≡ row') → Advanced K S M row out (backed F) out' answer S'
      advanced said early late = record {
        comparisons = c;
        said = said;
        state = next;
        values_long = backed_long.values_long;
        positions_long = backed_long.positions_long;
        starts_long = backed_long.starts_long;
        lengths_long = backed_long.lengths_long;
        past = append_behind C R F (behind C R M) sized;
        sound = backed_sound;
        early = early;
        told = λ q whole holds given.
            let k = holds_cut K (used S.plan) S.width q S.step M holds in
            let (x, y, z) = g.told q (rw wide whole) (rw wide (rw e at k)) given in
            (holds_back q (S.step + 1) (rw wide at x), rw wide at y, λ a. late a ∙ z a within);
      }

-- ---- what the answer says, by whether a row is due

module _ (D t : ℕ) (due : Bool) (w : due ≡ leb D t) where
  pub due_late : due ≡ true → D ≤ t
  due_late d = leb-true D t (sym w ∙ d)

  pub due_early : due ≡ false → t < D
  due_early d = leb-false D t (sym w ∙ d)

  pub late_not_early : due ≡ true → t < D → ⊥
  late_not_early d h = omega (arith, due_late d)

  pub early_not_late : due ≡ false → D ≤ t → ⊥
  early_not_late d h = omega (arith, due_early d)

  pub due_said : (L c : ℕ) (s : RowSaid) → due ≡ true → L ≡ D → s ≡ row (t - L) c → s ≡ row_said_at (leb D t) (t - D) c
  due_said L c s d e h = rw (← w, d, ← e) h

  pub early_said : (c : ℕ) (s : RowSaid) → due ≡ false → s ≡ is_not_yet c → s ≡ row_said_at (leb D t) (t - D) c
  early_said c s d h = rw (← w, d) h

-- ---- the same of the plan, the cells and the records as the code has them

module _ {A : Type 0} (K : Samples A) (S : State) (M : Memory A) (plan : Plan) (cells records : ℕ) (same : (plan ≡ S.plan) × (length S.plan.stages ≡ 16))
    (c : cells ≡ cells_needed plan S.width) (r : records ≡ records_needed plan S.width) (h : Fit S M) where
  pub fit_lent : AtLeast cells records M
  fit_lent = rw (c, r, same.0) (record { values_long = h.values_lent; positions_long = h.positions_lent; starts_long = h.starts_lent; lengths_long = h.lengths_lent })

  pub run_ready : (pixels : List A) → length pixels ≡ S.width → Ready (used plan) (length pixels) (front_in cells records M)
  run_ready pixels wide = rw (wide, c, r, same.0) (fit_ready K S M same.1 h)

-- the stages of the state's plan have run on what is needed of the memory, and F and pixels' came back
pub record Went {A : Type 0} (K : Samples A) (S : State) (M : Memory A) (pixels : List A) (plan : Plan) (cells records : ℕ) (F : Memory A) (pixels' : List A) (n : ℕ) (due : Bool) : Type 0 where
  pub same : (plan ≡ S.plan) × (length S.plan.stages ≡ 16)
  pub cells_are : cells ≡ cells_needed plan S.width
  pub records_are : records ≡ records_needed plan S.width
  pub fit : Fit S M
  pub wide : length pixels ≡ S.width
  pub step : PlanStep K (used plan) (height_of S) S.step (front_in cells records M) pixels F pixels' n due

module _ {A : Type 0} {K : Samples A} {S : State} {M : Memory A} {pixels : List A} {plan : Plan} {cells records : ℕ} {F : Memory A} {pixels' : List A} {n : ℕ} {due : Bool}
    (g : Went K S M pixels plan cells records F pixels' n due) where
  when : due ≡ leb (plan_ahead S.plan) S.step
  when = g.step.when ∙ ap (λ (p : Plan). leb (plan_ahead p) S.step) g.same.0

  pub ran_late : {L : ℕ} → due ≡ true → L ≡ plan_ahead plan → L ≤ S.step
  ran_late d e = rw (e, g.same.0) (due_late (plan_ahead S.plan) S.step due when d)

  module _ (answer : Answer) (S' : State) (next : S' ≡ next_state S) (within : S.step < height_of S + plan_ahead S.plan) (out : List A) where
    stepped : (out' : List A) → row_said_of answer ≡ row_said_at (leb (plan_ahead S.plan) S.step) (S.step - plan_ahead S.plan) n → (S.step < plan_ahead S.plan → out' ≡ out)
        → (plan_ahead S.plan ≤ S.step → out' ≡ pixels') → Advanced K S M pixels out (append F (behind cells records M)) out' answer S'
    stepped out' said early late =
        rw (g.cells_are, g.records_are, g.same.0)
        (advanced K S M g.same.1 g.fit pixels g.wide F pixels' n due (rw (g.cells_are, g.records_are, g.same.0) at g.step) out out' answer S' next within said early late)

    pub ran_due : {L : ℕ} (out' : List A) → due ≡ true → L ≡ plan_ahead plan → row_said_of answer ≡ row (S.step - L) n → out' ≡ pixels' → Advanced K S M pixels out (append F (behind cells records M)) out' answer S'
    ran_due {L} out' d e s q =
        stepped out' (due_said (plan_ahead S.plan) S.step due when L n (row_said_of answer) d (e ∙ ap plan_ahead g.same.0) s)
        (λ k. absurd (late_not_early (plan_ahead S.plan) S.step due when d k)) (λ _. q)

    pub ran_early : due ≡ false → row_said_of answer ≡ is_not_yet n → Advanced K S M pixels out (append F (behind cells records M)) out answer S'
    ran_early d s =
        stepped out (early_said (plan_ahead S.plan) S.step due when n (row_said_of answer) d s) (λ _. refl)
        (λ k. absurd (early_not_late (plan_ahead S.plan) S.step due when d k))

-- ---- the two steps' promises, put together

module _ {A : Type 0} (K : Samples A) (kind : ℕ) (S : State) (M : Memory A) where
  module _ (pixels out : List A) where
    abbrev offer : ℕ
    offer = offer_number kind S (length pixels) (length out) (length M.values) (length M.positions) M.starts M.lengths

    abbrev eight : ℕ
    eight = given 8 (not (all K.good pixels))

    row_found : (offer ≡ 0 → ⊥) → row_number K kind S M pixels out ≡ offer
    unfolding row_number
    row_found h = first_found offer (eight ∷ []) h

    row_past : offer ≡ 0 → row_number K kind S M pixels out ≡ eight
    unfolding row_number
    row_past z = first_skip offer (eight ∷ []) z ∙ first_one eight

    pub refuses_row : (n : ℕ) (answer : Answer) (S' : State) → n ≡ offer → (n ≡ 0 → ⊥) → row_said_of answer ≡ refused n 0 → S' ≡ S → RowStep K kind S M pixels out M out answer S'
    refuses_row n answer S' e h s q =
        let z : offer ≡ 0 → ⊥ = λ k. h (e ∙ k) in
        record {
          refusal = λ _. record { said = s ∙ rw (row_found z, ne_eqb offer 0 z, e); state = q; memory = refl; output = refl };
          accepted = λ k. absurd (z (sym (row_found z) ∙ k));
        }

    pub bad_row : (answer : Answer) (S' : State) → offer ≡ 0 → all K.good pixels ≡ false → row_said_of answer ≡ refused 8 (first_bad K pixels) → S' ≡ S → RowStep K kind S M pixels out M out answer S'
    bad_row answer S' z b s q =
        let e : row_number K kind S M pixels out ≡ 8 = row_past z ∙ rw b in
        record {
          refusal = λ _. record { said = s ∙ rw (e, eq-eqb offer 0 z); state = q; memory = refl; output = refl };
          accepted = λ k. absurd (omega (arith, e));
        }

    pub accepts_row : (M' : Memory A) (out' : List A) (answer : Answer) (S' : State) → offer ≡ 0 → all K.good pixels ≡ true → Advanced K S M (map K.taken pixels) out M' out' answer S'
        → RowStep K kind S M pixels out M' out' answer S'
    accepts_row M' out' answer S' z b h =
        let e : row_number K kind S M pixels out ≡ 0 = row_past z ∙ rw b in record { refusal = λ k. absurd (k e); accepted = λ _. h }

  module _ (out : List A) where
    pub refuses_drain : (n : ℕ) (answer : Answer) (S' : State) → n ≡ drain_judged kind S M out → (n ≡ 0 → ⊥) → row_said_of answer ≡ refused n 0 → S' ≡ S → DrainStep K kind S M out M out answer S'
    refuses_drain n answer S' e h s q = record { refusal = λ _. record { said = rw (← e) s; state = q; memory = refl; output = refl }; accepted = λ k. absurd (h (e ∙ k)) }

    -- the row that the stages worked on is none of the picture's
    pub accepts_drain : (work : List A) (M' : Memory A) (out' : List A) (answer : Answer) (S' : State) → drain_judged kind S M out ≡ 0 → Advanced K S M work out M' out' answer S'
        → DrainStep K kind S M out M' out' answer S'
    accepts_drain work M' out' answer S' z h =
        let a = (drain_accepted kind S (length M.values) (length M.positions) M.starts M.lengths (length out) z).read in
        record {
          refusal = λ k. absurd (k z);
          accepted = λ _. record {
            comparisons = h.comparisons;
            said = h.said;
            state = h.state;
            values_long = h.values_long;
            positions_long = h.positions_long;
            starts_long = h.starts_long;
            lengths_long = h.lengths_long;
            past = h.past;
            sound = h.sound;
            early = h.early;
            told = λ p whole holds _. h.told p whole holds (λ k. absurd (omega arith));
          };
        }

-- a step over a copy of the row is a step over the row
pub advanced_as : {A : Type 0} (K : Samples A) (S : State) (M : Memory A) (work pixels out : List A) (M' : Memory A) (out' : List A) (answer : Answer) (S' : State) → work ≡ pixels
    → Advanced K S M work out M' out' answer S' → Advanced K S M pixels out M' out' answer S'
advanced_as K S M work pixels out M' out' answer S' e h = subst (λ w. Advanced K S M w out M' out' answer S') e h
