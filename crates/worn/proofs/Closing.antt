-- A closing's own rows all pass: once its start is taken, no pair of the picture and its closing is refused.
use mathlib.Core.Path.{◌≡◌}
use mathlib.Core.List.{List, [], ◌∷◌}
use Prim.Native.Nat.{ℕ, zero, suc, ◌+◌, ◌<◌}
use native.Mathlib.Omega.{arith}
use lib.ListN.{get_or}
use Rattle.morph.specs.Lists.{Each}
use Rattle.morph.specs.Numbers.{given, extent_number}
use Rattle.morph.specs.Grey.{grey}
use Rattle.morph.specs.Picture.{Picture, apply_plan, closing}
use Rattle.morph.proofs.Picture.{plan_each}
use Rattle.morph.proofs.Numbers.{first_zero, given_zero}
use Rattle.plan_record.specs.Numbers.{size_number}
use Rattle.laws.specs.Laws.{Sized}
use Rattle.laws.proofs.Stage.{row_wide, sized_plan}
use Rattle.residue.specs.Residue.{empty_band, closing_number}
use Rattle.residue.proofs.Laws.{rows_taken}
use Rattle.residue.proofs.Closing.{closing_answered}
use Rattle.worn.specs.Runs.{Bytes, AllPass}

-- what holds of each of a list, and of what stands for those past its end
each_or : {A : Type 0} (P : A → Type 0) (l : List A) (i : ℕ) (d : A) → P d → Each P l → P (get_or l i d)
each_or P [] i d k h = k
each_or P (a ∷ l) zero d k h = h.0
each_or P (a ∷ l) (suc i) d k h = each_or P l i d k h.1

module _ (W H a b c d limit : ℕ) (p : Picture ℕ) (z : Sized W H p) where
  abbrev closed : Picture ℕ
  closed = apply_plan (closing grey a b c d) p

  abbrev empty : ℕ
  empty = given 21 (empty_band (a + b) (c + d) W H)

  -- a closing of bytes is of bytes
  closing_bytes : Each (Each (λ v. v < 256)) p → (y : ℕ) → Bytes (get_or closed y [])
  closing_bytes h y x =
      each_or (λ v. v < 256) (get_or closed y []) x 0 (omega arith) (each_or (Each (λ v. v < 256)) closed y [] tt (plan_each (closing grey a b c d) W p z.wide (λ v. v < 256) h))

  pub closing_passes : closing_number a b c d W H ≡ 0 → Each (Each (λ v. v < 256)) p → AllPass a b c d W H limit closed p
  unfolding closing_number
  closing_passes taken bytes =
      let (e, r) = first_zero (extent_number (a ∷ b ∷ c ∷ d ∷ [])) (size_number W H ∷ empty ∷ []) taken in
      let (s, q) = first_zero (size_number W H) (empty ∷ []) r in
      let (m, _) = first_zero empty [] q in
      let answered = closing_answered a b c d W H p z e s (given_zero 20 _ m) in
      let sized = sized_plan W H (closing grey a b c d) p z in
      record {
        some = rw sized.high at answered.some;
        wide = λ y l. row_wide W H closed sized y l;
        bytes = closing_bytes bytes;
        pass = λ y l. rw sized.high at (rows_taken a b c d closed p _ answered y (rw sized.high l));
      }
