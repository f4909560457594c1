-- `place` meets its contract, by the refusal.
use mathlib.Core.Path.{◌≡◌, refl}
use Prim.Native.Nat.{ℕ}
use Rattle.morph.specs.declared.refusal.Refusal.{Refusal}
use Rattle.morph.specs.declared.refusal.Refusal.TheVariants.{StageCount, StageKind, Extent, Size, SampleKind, Memory, RowLength, NotFinite, AllRead, NoDrain, NotThere, State, EndsEarly, BytesAfter, Cells, Negative, FilterOrder, OverOneStage, EmptyBand, LastNumber}
use Rattle.morph.specs.Refusals.{refusal_number}
use Rattle.line_judge.specs.Numbers.{place_of}
use Rattle.line_judge.proofs.Shape.place.Goals as goal

-- only a pixel that is not finite has a position
no_place : (refusal : Refusal) (step : ℕ) → (refusal ≡ NotFinite → ⊥) → 0 ≡ place_of (refusal_number refusal) step
unfolding place_of
no_place StageCount step h = refl
no_place StageKind step h = refl
no_place Extent step h = refl
no_place Size step h = refl
no_place SampleKind step h = refl
no_place Memory step h = refl
no_place RowLength step h = refl
no_place NotFinite step h = absurd (h refl)
no_place AllRead step h = refl
no_place NoDrain step h = refl
no_place NotThere step h = refl
no_place State step h = refl
no_place EndsEarly step h = refl
no_place BytesAfter step h = refl
no_place Cells step h = refl
no_place Negative step h = refl
no_place FilterOrder step h = refl
no_place OverOneStage step h = refl
no_place EmptyBand step h = refl
no_place LastNumber step h = refl

pub returns-in-NotFinite : goal.returns-in-NotFinite
unfolding place_of
returns-in-NotFinite c = rw c.in-NotFinite.is refl

pub returns-in_default : goal.returns-in_default
returns-in_default c = no_place c.args.refusal c.args.self.step c.in_default.not-NotFinite
