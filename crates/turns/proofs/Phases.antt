-- The machine by its phase: what it wants at the rows, whether it is on, and the two bytes of an end.
use mathlib.Core.Path.{◌≡◌, refl, sym, ◌∙◌}
use mathlib.Core.Bool.{Bool, true, false, true≢false}
use mathlib.Core.List.{List, [], ◌∷◌}
use Prim.Native.Nat.{ℕ, zero, suc, ◌+◌, ◌*◌, ◌≤◌, ◌<◌}
use native.Mathlib.Nat.{mul-le-mul_right}
use native.Mathlib.Omega.{arith}
use borrow.Author.Tests.{lt-ltb, le-ltb}
use lib.ListN.{length, take, set}
use Rattle.plan_record.specs.Plan.{plan_ahead}
use Rattle.picture_state.specs.declared.State.{State}
use Rattle.job_read.specs.Layout.{sample_bytes_of}
use Rattle.turns.specs.Inner.{row_size_of, wants_of}

pub two_set : (l : List ℕ) (n : ℕ) → 2 ≤ length l → take 2 (set (set l 0 0) 1 n) ≡ 0 ∷ n ∷ []
two_set [] n h = absurd (omega arith)
two_set (a ∷ []) n h = absurd (omega arith)
two_set (a ∷ b ∷ l) n h = refl

-- ---- what is wanted

sample_few : (sample : ℕ) → sample_bytes_of sample ≤ 4
sample_few zero = omega arith
sample_few (suc n) = omega arith

pub row_few : (width size : ℕ) → width ≤ 4096 → size ≤ 4 → width * size ≤ 16384
row_few width size w s = let a = mul-le-mul_right size w in omega arith

pub size_few : (S : State) → S.width ≤ 4096 → row_size_of S ≤ 16384
size_few S h = row_few S.width (sample_bytes_of S.sample) h (sample_few S.sample)

module _ (S : State) where
  pub wants_row : S.step < S.rows → row_size_of S ≡ wants_of S
  unfolding wants_of
  wants_row h = rw (lt-ltb S.step S.rows h)

  pub wants_drain : S.rows ≤ S.step → S.step < S.rows + plan_ahead S.plan → 0 ≡ wants_of S
  unfolding wants_of
  wants_drain h k = rw (le-ltb S.step S.rows h, lt-ltb S.step (S.rows + plan_ahead S.plan) k)

  pub wants_tail : S.rows + plan_ahead S.plan ≤ S.step → 1 ≡ wants_of S
  unfolding wants_of
  wants_tail k = rw (le-ltb S.step S.rows (omega arith), le-ltb S.step (S.rows + plan_ahead S.plan) k)

-- ---- whether there are turns to take

pub told_on : {b o : Bool} → b ≡ true → o ≡ false → (b ≡ true → o ≡ false) × (b ≡ false → o ≡ true)
told_on e q = (λ _. q, λ f. absurd (true≢false (sym e ∙ f)))

pub told_over : {b o : Bool} → b ≡ false → o ≡ true → (b ≡ true → o ≡ false) × (b ≡ false → o ≡ true)
told_over e q = (λ f. absurd (true≢false (sym f ∙ e)), λ _. q)
