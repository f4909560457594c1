-- What a caller cannot tell apart: memories that hold the same queues, and two outcomes of a call. Where a queue starts in its ring and what stands in the cells outside a queue, which document 01 excepts, are not looked at.
use Rattle.std.specs.Prelude.{◌≡◌, List, ℕ, ◌<◌, length}
use Rattle.sample.specs.Samples.{Samples}
use Rattle.plan_record.specs.Plan.{used, cells_needed, records_needed}
use Rattle.memory.specs.Memory.{Memory, behind, kept_at}
use Rattle.picture_state.specs.declared.State.{State}
use Rattle.picture_state.specs.declared.Answer.{Answer}

-- two outcomes of a refused call: equal in everything
pub record Equal {A : Type 0} (M₁ M₂ : Memory A) (out₁ out₂ : List A) (a₁ a₂ : Answer) (S₁ S₂ : State) : Type 0 where
  pub answer : a₁ ≡ a₂
  pub state : S₁ ≡ S₂
  pub output : out₁ ≡ out₂
  pub memory : M₁ ≡ M₂

module _ {A : Type 0} (K : Samples A) (S : State) where
  -- every queue of every stage's columns is the same, cell by cell as they stand
  abbrev pub SameQueues : Memory A → Memory A → Type 0
  SameQueues M N = (stage column : ℕ) → stage < length (used S.plan) → column < S.width → kept_at K (used S.plan) S.width M stage column ≡ kept_at K (used S.plan) S.width N stage column

  -- two outcomes of an accepted step
  pub record SameStep (M₁ M₂ : Memory A) (out₁ out₂ : List A) (a₁ a₂ : Answer) (S₁ S₂ : State) : Type 0 where
    pub answer : a₁ ≡ a₂
    pub state : S₁ ≡ S₂
    pub output : out₁ ≡ out₂
    pub queues : SameQueues M₁ M₂

  -- "Lent cells and records past the number needed": they are the same in both
  abbrev pub SamePast : Memory A → Memory A → Type 0
  SamePast M N = behind (cells_needed S.plan S.width) (records_needed S.plan S.width) M ≡ behind (cells_needed S.plan S.width) (records_needed S.plan S.width) N
