-- What a read-out shows where the state and the memory are in order. By which idea: 11 is all that is left to judge, and a stage that is not there has an empty queue.
use mathlib.Core.Path.{◌≡◌, refl, ap, ◌∙◌}
use mathlib.Core.Bool.{Bool, true, false, cond, ◌||◌}
use mathlib.Core.List.{List, [], ◌∷◌, map}
use Prim.Native.Nat.{ℕ, zero, suc, ◌≤◌, ◌<◌}
use native.Mathlib.Omega.{arith}
use borrow.Author.Tests.{leb-true, leb-false, le-leb, lt-leb}
use lib.Dec.{leb}
use lib.ListN.{length, get_or, length-take}
use Rattle.morph.specs.Line.{Entry, Shown, found, refused}
use Rattle.morph.proofs.Lists.{split}
use Rattle.sample.specs.Samples.{Samples}
use Rattle.plan_record.specs.declared.Stage.{Stage}
use Rattle.morph.specs.Numbers.{given}
use Rattle.plan_record.specs.Plan.{used, cells_of}
use Rattle.morph.proofs.Numbers.{first_one, first_skip}
use Rattle.morph.specs.Cell.{read_at}
use Rattle.memory.specs.Memory.{Memory, behind, stage_steps, kept_at, queue_at}
use Rattle.picture_state.specs.declared.State.{State}
use Rattle.picture_state.specs.Numbers.{height_of, memory_judged}
use Rattle.picture_state.specs.ReadOut.{queue_in, read_out_number, Shows}

module _ {A : Type 0} (K : Samples A) where
  kept_none : (ss : List Stage) (W : ℕ) (M : Memory A) (i x : ℕ) → length ss ≤ i → kept_at K ss W M i x ≡ []
  unfolding kept_at
  kept_none [] W M i x h = refl
  kept_none (s ∷ ss) W M zero x h = absurd (omega arith)
  kept_none (s ∷ ss) W M (suc i) x h = kept_none ss W (behind (cells_of W s) W M) i x (omega arith)

  queue_none : (S : State) (M : Memory A) (i x : ℕ) → length (used S.plan) ≤ i → queue_in K S M i x ≡ []
  unfolding queue_at
  queue_none S M i x h = ap (map (read_at (stage_steps (used S.plan) (height_of S) S.step i))) (kept_none (used S.plan) S.width M i x h)

-- an answer that is refused or found by one test
told : {A : Type 0} (b : Bool) (n : ℕ) (s f : Shown A) → n ≡ given 11 b → ((n ≡ 0 → ⊥) → s ≡ refused n) → (n ≡ 0 → s ≡ f) → s ≡ cond b (refused 11) f
told true n s f e h k = h (λ (z : n ≡ 0). omega arith) ∙ ap refused e
told false n s f e h k = k e

or_last : (a b : Bool) → (a || b || true) ≡ true
or_last true b = refl
or_last false true = refl
or_last false false = refl

or_middle : (a c : Bool) → (a || true || c) ≡ true
or_middle true c = refl
or_middle false c = refl

module _ {A : Type 0} (K : Samples A) (kind : ℕ) (S : State) (M : Memory A) (stage column place : ℕ) where
  abbrev held : List (Entry A)
  held = queue_in K S M stage column

  abbrev place_of : List (Entry A) → Shown A
  place_of q = found (get_or q place (record { value = K.order.blank; position = 0 }))

  -- the stage, the column or the place is not there
  abbrev lacks : ℕ → List (Entry A) → Bool
  lacks count q = leb count stage || leb S.width column || leb (length q) place

  number_left : memory_judged kind S M ≡ 0 → read_out_number K kind S M stage column place ≡ given 11 (lacks S.plan.count held)
  unfolding read_out_number
  number_left z = first_skip (memory_judged kind S M) (given 11 (lacks S.plan.count held) ∷ []) z ∙ first_one (given 11 (lacks S.plan.count held))

  pub shows_queue : (answer : Shown A) (q : List (Entry A)) → memory_judged kind S M ≡ 0 → Shows K kind S M stage column place answer → (stage < length (used S.plan) → column < S.width → held ≡ q)
      → answer ≡ cond (leb (length (used S.plan)) stage || leb S.width column || leb (length q) place) (refused 11) (place_of q)
  shows_queue answer q z h e =
      let n = length (used S.plan) in
      let t = told (lacks S.plan.count held) (read_out_number K kind S M stage column place) answer (place_of held) (number_left z) h.refusal h.accepted in
      split (leb (length (used S.plan)) stage)
      (λ a.
      let d : held ≡ [] = queue_none K S M stage column (leb-true n stage a) in
      let l : leb (length held) place ≡ true = ap (λ (r : List (Entry A)). leb (length r) place) d ∙ le-leb 0 place (omega arith) in
      let b : lacks S.plan.count held ≡ true = rw l (or_last (leb S.plan.count stage) (leb S.width column)) in
      t ∙ rw (b, a))
      (λ a.
      split (leb S.width column)
      (λ c.
      let b : lacks S.plan.count held ≡ true = rw c (or_middle (leb S.plan.count stage) (leb (length held) place)) in
      let f : (leb n stage || leb S.width column || leb (length q) place) ≡ true = rw c (or_middle (leb n stage) (leb (length q) place)) in
      t ∙ rw (b, f))
      (λ c.
      let m : leb S.plan.count stage ≡ false = lt-leb S.plan.count stage (omega (arith, leb-false n stage a, length-take S.plan.count S.plan.stages)) in
      let f : held ≡ q = e (leb-false n stage a) (leb-false S.width column c) in
      t ∙ rw (f, m, a)))
