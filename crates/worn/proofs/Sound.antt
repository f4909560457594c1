-- A question that breaks no rule: what holds of it.
use mathlib.Core.Path.{◌≡◌, refl, sym, ◌∙◌}
use mathlib.Core.Bool.{Bool, true, false, not, ◌||◌, false≢true}
use Prim.Native.Nat.{ℕ, ◌+◌, ◌*◌, ◌≤◌, ◌<◌}
use native.Mathlib.Nat.{mul-le-mul_right}
use native.Mathlib.Omega.{arith}
use borrow.Author.Tests.{ltb-false, lt-ltb, le-ltb, eqb-true, eq-eqb, ne_eqb, not-false}
use lib.Dec.{eqb, ltb}
use Rattle.std.specs.Prelude.{Result, Ok, Err}
use Rattle.std.specs.Result.{is_err}
use Rattle.morph.specs.declared.refusal.Refusal.{Refusal}
use Rattle.morph.specs.Refusals.{said}
use Rattle.morph.proofs.Lists.{neither}
use Rattle.plan_record.proofs.Exits.{refused_some}
use Rattle.residue.specs.Residue.{closing_number}
use Rattle.residue.specs.Inner.{band_number}
use Rattle.residue.proofs.Numbers.{within, closing_band}
use Rattle.worn.specs.declared.Question.{Question}
use Rattle.worn.specs.Worn.{is_broken_of}

-- a judgement that is a refusal has a number, and one that is none has none
pub erred : {A : Type 0} (r : Result A Refusal) → is_err r ≡ true → said r ≡ 0 → ⊥
erred (Ok _) h z = absurd (false≢true h)
erred (Err why) h z = refused_some why z

pub passed : {A : Type 0} (r : Result A Refusal) → is_err r ≡ false → said r ≡ 0
passed (Ok _) h = refl
passed (Err why) h = absurd (false≢true (sym h))

-- the largest sum that a question may have
pub most_fits : (width row : ℕ) → width ≤ 4096 → row ≤ 65535 → 255 * width * row ≤ 68449996800
most_fits width row w r =
    let h : 255 * width ≤ 1044480 = omega arith in
    let i = mul-le-mul_right row h in
    omega (arith, i)

module _ (Q : Question) where
  abbrev closing : ℕ
  closing = closing_number Q.left Q.right Q.up Q.down Q.width Q.rows

  pub record Sound : Type 0 where
    pub taken : closing ≡ 0
    pub there : Q.row ≤ Q.rows
    pub small : Q.sum ≤ 255 * Q.width * Q.row

  pub sound : is_broken_of Q ≡ false → Sound
  unfolding is_broken_of
  sound e =
      let (l, s) = neither (not (eqb closing 0) || ltb Q.rows Q.row) (ltb (255 * Q.width * Q.row) Q.sum) e in
      let (n, r) = neither (not (eqb closing 0)) (ltb Q.rows Q.row) l in
      record { taken = eqb-true closing 0 (not-false _ n); there = ltb-false Q.rows Q.row r; small = ltb-false (255 * Q.width * Q.row) Q.sum s }

  pub unbroken : Sound → is_broken_of Q ≡ false
  unfolding is_broken_of
  unbroken h = rw (eq-eqb closing 0 h.taken, le-ltb Q.rows Q.row h.there, le-ltb (255 * Q.width * Q.row) Q.sum h.small)

  -- its size
  pub sized : {n : ℕ} → n ≡ closing → n ≡ 0 → (Q.width ≤ 4096) × (Q.rows ≤ 65535)
  sized e z =
      let w = within Q.left Q.right Q.up Q.down 0 Q.rows Q.width Q.width (sym (closing_band Q.left Q.right Q.up Q.down 0 Q.rows Q.width (λ h. h)) ∙ sym e ∙ z) in
      (w.width_fits.1, w.rows_fit.1)

  -- there is room for a row of bytes more
  pub room : Sound → Q.row < Q.rows → {s : ℕ} → s ≤ Q.width * 255 → (Q.row < 65535) × (Q.sum + s < 18446744073709551616)
  room h l k =
      let (w, r) = sized refl h.taken in
      (omega (arith, r), omega (arith, most_fits Q.width Q.row w (omega (arith, r)), w, h.small))

  -- ---- each way out of the test

  module _ {n : ℕ} (e : n ≡ closing) where
    pub broken_rule : (n ≡ 0 → ⊥) → true ≡ is_broken_of Q
    unfolding is_broken_of
    broken_rule h = rw (ne_eqb closing 0 (λ z. h (e ∙ z)))

    module _ (z : n ≡ 0) where
      pub broken_row : Q.rows < Q.row → true ≡ is_broken_of Q
      unfolding is_broken_of
      broken_row l = rw (eq-eqb closing 0 (sym e ∙ z), lt-ltb Q.rows Q.row l)

      pub broken_sum : {b : Bool} → Q.row ≤ Q.rows → b ≡ ltb (255 * Q.width * Q.row) Q.sum → b ≡ is_broken_of Q
      unfolding is_broken_of
      broken_sum l q = rw (eq-eqb closing 0 (sym e ∙ z), le-ltb Q.rows Q.row l) q

  -- a row of the width that is still to come is refused none of 3, 4, 7 and 21
  pub row_taken : Sound → Q.row < Q.rows → band_number Q.left Q.right Q.up Q.down Q.row Q.rows Q.width Q.width ≡ 0
  row_taken h l = sym (closing_band Q.left Q.right Q.up Q.down Q.row Q.rows Q.width (λ _. l)) ∙ h.taken
