-- A plan of one stage: its step is the stage's own. By which idea: the stage owns the front of the memory, and no other stage is behind it.
use mathlib.Core.Path.{◌≡◌, refl, sym, ap, ◌∙◌}
use mathlib.Core.Bool.{Bool, true, false, cond}
use mathlib.Core.List.{List, [], ◌∷◌, map}
use Prim.Native.Nat.{ℕ, ◌+◌, ◌-◌, ◌≤◌, ◌<◌}
use native.Mathlib.Nat.{add-zero}
use native.Mathlib.Omega.{arith}
use lib.Dec.{leb}
use lib.ListN.{length, get_or, take, drop, length-append, take-append-drop}
use lib.Seq.{length-take-le}
use Rattle.morph.specs.Picture.{Picture, apply_plan}
use Rattle.morph.specs.Plan.{plan_cost}
use Rattle.sample.specs.Samples.{Samples}
use Rattle.plan_record.specs.declared.Stage.{Stage}
use Rattle.plan_record.specs.Plan.{used, filter_of, total, size_of, below_of, cells_of, cells_needed, records_needed, plan_ahead}
use Rattle.memory.specs.Memory.{Memory, front_in, behind, sound_records, all_sound, Whole, StageHolds, Holds}
use Rattle.memory.proofs.Records.{sound_test}
use Rattle.chain.specs.Inner.{Fronted}
use Rattle.picture_state.specs.declared.State.{State}
use Rattle.picture_state.specs.declared.Answer.{Answer}
use Rattle.picture_state.specs.Numbers.{height_of}
use Rattle.picture_state.specs.Inner.{Fit}
use Rattle.picture_state.specs.Step.{row_said_of, row_said_at, next_state, Advanced}

-- a list whose front comes back as long, and whose rest stays, is as long
pub parts_long : {B : Type 0} (n : ℕ) (l m : List B) → length (take n l) ≡ length (take n m) → drop n l ≡ drop n m → length l ≡ length m
parts_long n l m e f =
    ap length (sym (take-append-drop n l)) ∙ length-append (take n l) (drop n l)
    ∙ rw (e, f) (sym (length-append (take n m) (drop n m)) ∙ ap length (take-append-drop n m))

-- no stage behind costs anything
none_more : (b : Bool) → ◌≡◌ {A = ℕ} (cond b 0 0) 0
none_more true = refl
none_more false = refl

-- ---- a plan of one stage

module _ {A : Type 0} (K : Samples A) (S : State) (s : Stage) (one : used S.plan ≡ s ∷ []) (count : S.plan.count ≡ 1) where
  pub ahead_one : plan_ahead S.plan ≡ below_of s
  ahead_one = rw one (add-zero (below_of s))

  pub cells_one : cells_needed S.plan S.width ≡ cells_of S.width s
  cells_one = rw one (add-zero (cells_of S.width s))

  pub records_one : records_needed S.plan S.width ≡ S.width
  records_one = rw count (omega arith)

  module _ (M : Memory A) (fit : Fit S M) (pixels : List A) (wide : length pixels ≡ S.width) (M' : Memory A) (pixels' : List A) (c : ℕ) (f : Fronted K s (height_of S) S.step M pixels M' pixels' c) where
    sound_one : all_sound S.width (used S.plan) M'.starts M'.lengths ≡ true
    unfolding all_sound
    sound_one =
        let l = f.stepped.moved.lent in
        let r : sound_records (size_of s) (take S.width M'.starts) (take S.width M'.lengths) ≡ true = rw wide at (sound_test (size_of s) (length pixels) _ _ l.starts_long l.lengths_long l.sound) in
        rw (one, r)

    -- what was lent is as long as the stage's part of what comes back
    lent_front : {B : Type 0} (n need : ℕ) (l m : List B) → need ≡ n → need ≤ length m → length (take n l) ≡ n → drop n l ≡ drop n m → length l ≡ length m
    lent_front n need l m e h k r = parts_long n l m (k ∙ sym (length-take-le n m (omega arith))) r

    module _ (out' : List A) (late : below_of s ≤ S.step → out' ≡ pixels') (within : S.step < height_of S + below_of s) where
      one_told : (ss : List Stage) → ss ≡ s ∷ [] → (p : Picture A) → Whole K S.width (height_of S) p → Holds K ss S.width p S.step M → (S.step < height_of S → pixels ≡ get_or p S.step [])
          → Holds K ss S.width p (S.step + 1) M'
          × (c ≡ plan_cost (map (filter_of K.order) ss) S.width p S.step)
          × (total below_of ss ≤ S.step → out' ≡ get_or (apply_plan (map (filter_of K.order) ss) p) (S.step - total below_of ss) [])
      unfolding Holds plan_cost apply_plan
      one_told ss e p whole holds given =
          let h = rw e at holds in
          let F = filter_of K.order s in
          let w : Whole K (length pixels) (height_of S) p = rw wide whole in
          let k : StageHolds K s (length pixels) p S.step (front_in (cells_of (length pixels) s) (length pixels) M) = rw wide h.0 in
          let (a, b) = f.stepped.moved.told p w k given in
          let o = f.stepped.comes p w k given in
          let z = none_more (leb (below_of s) S.step) in
          let n : below_of s + 0 ≡ below_of s = add-zero (below_of s) in
          rw (e, n) ((rw wide at a, tt), rw z ((rw wide at b) ∙ sym (add-zero _)), λ l. late l ∙ o l within)

    -- the stage's own step on the front of the memory is the plan's
    pub one_advanced : (answer : Answer) (S' : State) → S' ≡ next_state S → S.step < height_of S + plan_ahead S.plan → (out out' : List A)
        → row_said_of answer ≡ row_said_at (leb (plan_ahead S.plan) S.step) (S.step - plan_ahead S.plan) c → (S.step < plan_ahead S.plan → out' ≡ out)
        → (plan_ahead S.plan ≤ S.step → out' ≡ pixels') → Advanced K S M pixels out M' out' answer S'
    one_advanced answer S' next within out out' said early late =
        let m = f.stepped.moved in
        let past : behind (cells_of S.width s) S.width M' ≡ behind (cells_of S.width s) S.width M = rw wide at f.rest in
        record {
          comparisons = c;
          said = said;
          state = next;
          values_long = parts_long (cells_of (length pixels) s) M'.values M.values m.values_long (ap (λ (n : Memory A). n.values) f.rest);
          positions_long = lent_front (cells_of (length pixels) s) _ M'.positions M.positions (cells_one ∙ ap (λ n. cells_of n s) (sym wide)) fit.positions_lent m.lent.positions_long (ap (λ (n : Memory A). n.positions) f.rest);
          starts_long = lent_front (length pixels) _ M'.starts M.starts (records_one ∙ sym wide) fit.starts_lent m.lent.starts_long (ap (λ (n : Memory A). n.starts) f.rest);
          lengths_long = lent_front (length pixels) _ M'.lengths M.lengths (records_one ∙ sym wide) fit.lengths_lent m.lent.lengths_long (ap (λ (n : Memory A). n.lengths) f.rest);
          past = rw (cells_one, records_one) past;
          sound = sound_one;
          early = early;
          told = one_told out' (λ l. late (rw ahead_one l)) (rw ahead_one at within) (used S.plan) one;
        }
