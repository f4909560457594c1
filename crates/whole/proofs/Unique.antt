-- The answer and the picture follow from the inputs alone, and so does the lent row but for its front; where the call is refused, that too.
use mathlib.Core.Path.{◌≡◌, refl, sym, ◌∙◌}
use mathlib.Core.Logic.{◌≢◌}
use mathlib.Core.List.{List}
use Prim.Native.Nat.{ℕ}
use lib.Dec.{eqb}
use borrow.Author.Tests.{eqb-true, eqb-false}
use Rattle.morph.specs.Picture.{Stage}
use Rattle.morph.proofs.Lists.{split}
use Rattle.sample.specs.Samples.{Samples}
use Rattle.whole_judge.specs.declared.Filtered.{Filtered}
use Rattle.whole_judge.specs.Whole.{FiltersWhole}
use Rattle.whole.specs.Same.{SameWhole}

module _ {A : Type 0} (K : Samples A) (Ss : List (Stage A)) (width rows plan : ℕ) (picture row picture₁ picture₂ row₁ row₂ : List A) (r₁ r₂ : Filtered)
    (h : FiltersWhole K Ss width rows picture row picture₁ row₁ plan r₁) (k : FiltersWhole K Ss width rows picture row picture₂ row₂ plan r₂) where
  answers : r₁ ≡ r₂
  answers = h.told ∙ sym k.told

  pub whole_refusal_unique : r₁.number ≢ 0 → (r₁ ≡ r₂) × (picture₁ ≡ picture₂) × (row₁ ≡ row₂)
  whole_refusal_unique n =
      let (p, q) = h.refuses n in
      let (u, v) = k.refuses (rw (← answers) n) in
      (answers, p ∙ sym u, q ∙ sym v)

  pub whole_unique : SameWhole width picture₁ picture₂ row₁ row₂ r₁ r₂
  whole_unique =
      split (eqb r₁.number 0)
      (λ t. let a = h.filters (eqb-true r₁.number 0 t) in
      let b = k.filters (rw (← answers) (eqb-true r₁.number 0 t)) in
      record { answer = answers; picture = a.filtered ∙ sym b.filtered; long = a.used.long ∙ sym b.used.long; past = a.used.past ∙ sym b.used.past })
      (λ t. let (e, p, q) = whole_refusal_unique (eqb-false r₁.number 0 t) in record { answer = e; picture = p; long = rw q refl; past = rw q refl })
