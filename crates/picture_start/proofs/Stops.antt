-- The laws of a stop: its number way by way, that its state breaks no rule, and that its answer is one.
use mathlib.Core.Path.{◌≡◌, refl, sym, ap, ◌∙◌}
use mathlib.Core.Bool.{false, not, ◌||◌, false≢true}
use mathlib.Core.List.{List, [], ◌∷◌}
use Prim.Native.Nat.{ℕ, zero, suc, ◌+◌, ◌<◌}
use native.Mathlib.Omega.{arith}
use borrow.Author.Tests.{eqb-true, ne_eqb, eqb-false, ltb-false, le-ltb, not-false}
use lib.Dec.{eqb}
use Rattle.morph.specs.Numbers.{given}
use Rattle.morph.proofs.Lists.{neither}
use Rattle.morph.proofs.Numbers.{first_zero, given_zero, skip}
use Rattle.plan_record.specs.Numbers.{sample_number}
use Rattle.plan_record.specs.Plan.{record_number, plan_ahead}
use Rattle.picture_state.specs.declared.State.{State}
use Rattle.picture_state.specs.declared.Ending.{Ending}
use Rattle.picture_state.specs.declared.Ending.TheVariants.{Fixed, Open, Stopped}
use Rattle.picture_state.specs.Numbers.{size_in, is_step_off, state_number, is_not_open}
use Rattle.picture_state.proofs.Numbers.{read_all}
use Rattle.picture_start.specs.declared.Stopping.{Stopping}
use Rattle.picture_start.specs.Stop.{stop_number, stopped_state, PictureStop}

-- a run that is open and has read a row has a size and a step count that are right after its stop
stopped_size : (e : Ending) (width rows D step : ℕ) → is_not_open e ≡ false → 0 < step → size_in e width rows ≡ 0 → is_step_off e rows D step ≡ false
    → (size_in Stopped width step ≡ 0) × (is_step_off Stopped step D step ≡ false)
stopped_size Fixed width rows D step o l z f = absurd (false≢true (sym o))
stopped_size Open width rows D step o l z f =
    (sym (read_all width step z (λ (e : step ≡ 0). omega arith) (ltb-false 4294967296 step f)), rw (le-ltb step step (omega arith), le-ltb (step + D) step (omega arith)))
stopped_size Stopped width rows D step o l z f = absurd (false≢true (sym o))

module _ (S : State) where
  -- what is left to judge after the state's own fields and 9
  abbrev after_nine : List ℕ
  after_nine = given 4 (eqb S.step 0) ∷ []

  abbrev after_state : List ℕ
  after_state = given 9 (is_not_open S.ending) ∷ after_nine

  module _ (a : state_number S ≡ 0) where
    module _ (b : is_not_open S.ending ≡ false) where
      pub stop_all : (S.step ≡ 0 → ⊥) → 0 ≡ stop_number S
      unfolding stop_number
      stop_all c = skip (state_number S) after_state a (rw (b, ne_eqb S.step 0 c))

  -- nothing is wrong: the run is open, and has read a row
  pub stop_accepted : stop_number S ≡ 0 → (state_number S ≡ 0) × (is_not_open S.ending ≡ false) × (0 < S.step)
  unfolding stop_number
  stop_accepted e =
      let (a, b) = first_zero (state_number S) after_state e in
      let (c, d) = first_zero (given 9 (is_not_open S.ending)) after_nine b in
      let (f, _) = first_zero (given 4 (eqb S.step 0)) [] d in
      let g = eqb-false S.step 0 (given_zero 3 _ f) in
      (a, given_zero 8 _ c, omega (arith, g))

  -- and the state that it leaves breaks no rule
  pub stop_sound : stop_number S ≡ 0 → state_number (stopped_state S) ≡ 0
  unfolding state_number
  stop_sound e =
      let (z, o, l) = stop_accepted e in
      let (a, b) = neither (not (eqb (record_number S.plan) 0) || not (eqb (sample_number S.sample) 0) || not (eqb (size_in S.ending S.width S.rows) 0)) _ (given_zero 11 _ z) in
      let (c, d) = neither (not (eqb (record_number S.plan) 0) || not (eqb (sample_number S.sample) 0)) _ a in
      let f = eqb-true (size_in S.ending S.width S.rows) 0 (not-false _ d) in
      let (x, y) = stopped_size S.ending S.width S.rows (plan_ahead S.plan) S.step o l f b in
      rw (c, x, y)

  -- "the answer, the state .. afterwards follow from its inputs alone"
  stop_same : (r q : Stopping) → r.number ≡ q.number → r.state ≡ q.state → r ≡ q
  stop_same r q a b = ap (λ n. record { number = n; state = r.state }) a ∙ ap (λ s. record { number = q.number; state = s }) b

  pub stop_unique : (r q : Stopping) → PictureStop S r → PictureStop S q → r ≡ q
  stop_unique r q h k = go (stop_number S) refl
    where
      go : (n : ℕ) → stop_number S ≡ n → r ≡ q
      go zero e = stop_same r q (h.told ∙ sym k.told) (h.accepted e ∙ sym (k.accepted e))
      go (suc n) e =
          let z : stop_number S ≡ 0 → ⊥ = λ (y : stop_number S ≡ 0). omega arith in
          stop_same r q (h.told ∙ sym k.told) (h.refusal z ∙ sym (k.refusal z))
