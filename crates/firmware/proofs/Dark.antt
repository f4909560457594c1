-- The residue's answer in the words of the promise from C, and that the promise leaves no choice.
use mathlib.Core.Path.{◌≡◌, refl, sym, ◌∙◌}
use mathlib.Core.List.{List}
use Prim.Native.Nat.{ℕ}
use borrow.Author.Tests.{eqb-true, eqb-false}
use lib.Dec.{eqb}
use Rattle.morph.proofs.Lists.{split}
use Rattle.residue.specs.declared.Residue.TheVariants.{Sum, Refused}
use Rattle.residue.specs.Residue.{residue_number, Answered}
use Rattle.residue.proofs.Laws.{row_sum, refused_number}
use Rattle.firmware.specs.Dark.{TellsDark}

module _ (a b c d row rows : ℕ) (closed input : List ℕ) (sum : ℕ) where
  pub dark_sum : {s : ℕ} → Answered a b c d row rows closed input (Sum s) → TellsDark a b c d row rows closed input sum s 0
  dark_sum h = record { told = h.number; refuses = λ z. absurd (z (sym h.number)); sums = λ _. row_sum a b c d row rows closed input h }

  pub dark_refused : {n : ℕ} → Answered a b c d row rows closed input (Refused n) → TellsDark a b c d row rows closed input sum sum n
  dark_refused h = record {
    told = h.number;
    refuses = λ _. refl;
    sums = λ z. absurd (refused_number a b c d row rows closed input h (h.number ∙ z));
  }

  -- the answer and what stands at the caller's place afterwards follow from what the call is given alone
  pub dark_unique : (sum₁ sum₂ r₁ r₂ : ℕ) → TellsDark a b c d row rows closed input sum sum₁ r₁ → TellsDark a b c d row rows closed input sum sum₂ r₂ → (r₁ ≡ r₂) × (sum₁ ≡ sum₂)
  dark_unique sum₁ sum₂ r₁ r₂ h k = (
    h.told ∙ sym k.told,
    split (eqb (residue_number a b c d row rows closed input) 0)
        (λ z. h.sums (eqb-true _ 0 z) ∙ sym (k.sums (eqb-true _ 0 z)))
        (λ z. h.refuses (eqb-false _ 0 z) ∙ sym (k.refuses (eqb-false _ 0 z))),
  )
