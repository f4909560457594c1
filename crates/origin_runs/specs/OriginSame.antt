-- What a caller of a step that asks cannot tell apart: two outcomes of it. As in a step that does not ask, where a queue starts in its ring and what stands in the cells outside a queue are not looked at.
use Rattle.std.specs.Prelude.{◌≡◌}
use Rattle.sample.specs.Samples.{Samples}
use Rattle.picture_state.specs.declared.State.{State}
use Rattle.picture_state.specs.declared.Answer.{Answer}
use Rattle.picture_origin.specs.Numbers.{OriginMemory, OriginRows}
use Rattle.picture.specs.Same.{SameStep, SamePast}

-- two outcomes of a refused call: equal in everything
pub record EqualOrigins {A : Type 0} (M₁ M₂ : OriginMemory A) (out₁ out₂ : OriginRows A) (a₁ a₂ : Answer) (S₁ S₂ : State) : Type 0 where
  pub answer : a₁ ≡ a₂
  pub state : S₁ ≡ S₂
  pub output : out₁ ≡ out₂
  pub memory : M₁ ≡ M₂

-- Two outcomes of an accepted step: the same in all that a step tells and leaves that does not ask (`plain`, `past`), the same rows of origins, and the same columns lent, every one.
pub record SameOrigins {A : Type 0} (K : Samples A) (S : State) (M₁ M₂ : OriginMemory A) (out₁ out₂ : OriginRows A) (a₁ a₂ : Answer) (S₁ S₂ : State) : Type 0 where
  pub plain : SameStep K S M₁.cells M₂.cells out₁.pixels out₂.pixels a₁ a₂ S₁ S₂
  pub past : SamePast K S M₁.cells M₂.cells
  pub rows : out₁.rows ≡ out₂.rows
  pub columns : out₁.columns ≡ out₂.columns
  pub columns_lent : M₁.columns ≡ M₂.columns
