-- The exits of a judge: what a `?` hands up is the number that the rule gave, and it is the first that is not 0.
use mathlib.Core.Path.{◌≡◌, refl, sym, ap, ◌∙◌}
use mathlib.Core.Bool.{false, false≢true}
use mathlib.Core.List.{List, [], ◌∷◌}
use Prim.Native.Nat.{ℕ}
use lib.ListN.{get_or}
use Rattle.std.specs.Prelude.{Result, Ok, Err}
use Rattle.std.specs.Result.{IsErrAnd, is_err}
use Rattle.morph.specs.declared.refusal.Refusal.{Refusal}
use Rattle.morph.specs.declared.refusal.Refusal.TheVariants.{StageCount, StageKind, Extent, Size, SampleKind, Memory, RowLength, NotFinite, AllRead, NoDrain, NotThere, State, EndsEarly, BytesAfter, Cells, Negative, FilterOrder, OverOneStage, EmptyBand, LastNumber}
use Rattle.morph.specs.Refusals.{refusal_number, said}
use Rattle.morph.specs.Numbers.{first_of}
use Rattle.morph.proofs.Numbers.{found}

-- no refusal's number is 0
pub refused_some : (refusal : Refusal) → refusal_number refusal ≡ 0 → ⊥
refused_some StageCount e = cc
refused_some StageKind e = cc
refused_some Extent e = cc
refused_some Size e = cc
refused_some SampleKind e = cc
refused_some Memory e = cc
refused_some RowLength e = cc
refused_some NotFinite e = cc
refused_some AllRead e = cc
refused_some NoDrain e = cc
refused_some NotThere e = cc
refused_some State e = cc
refused_some EndsEarly e = cc
refused_some BytesAfter e = cc
refused_some Cells e = cc
refused_some Negative e = cc
refused_some FilterOrder e = cc
refused_some OverOneStage e = cc
refused_some EmptyBand e = cc
refused_some LastNumber e = cc

module _ {A : Type 0} (refusal : Refusal) where
  -- a refusal's number, handed up
  pub said_up : (r : Result A Refusal) {n : ℕ} → IsErrAnd r (λ e. e ≡ refusal) → refusal_number refusal ≡ n → said r ≡ n
  said_up (Ok _) h e = absurd h
  said_up (Err _) h e = cc

  -- the same where it is the first rule's of several
  pub first_up : (r : Result A Refusal) (a : ℕ) (l : List ℕ) → IsErrAnd r (λ e. e ≡ refusal) → refusal_number refusal ≡ a → said r ≡ first_of (a ∷ l)
  first_up r a l h e = said_up r h e ∙ found a l refl (λ z. refused_some refusal (e ∙ z))

-- a judge that refuses nothing has the number 0
pub said_ok : {A : Type 0} (r : Result A Refusal) → is_err r ≡ false → said r ≡ 0
said_ok (Ok _) e = refl
said_ok (Err _) e = absurd (false≢true (sym e))

-- ---- two refusals of one number are one

-- each refusal at its number; no refusal has the number 0, 18, 19, or 22 to 27
numbered : List Refusal
numbered =
    State ∷ StageCount ∷ StageKind ∷ Extent ∷ Size ∷ SampleKind ∷ Memory ∷ RowLength ∷ NotFinite ∷ AllRead ∷ NoDrain ∷ NotThere ∷ State ∷ EndsEarly ∷ BytesAfter ∷ Cells ∷ Negative ∷ FilterOrder ∷ State ∷ State
    ∷ OverOneStage ∷ EmptyBand ∷ State ∷ State ∷ State ∷ State ∷ State ∷ State ∷ LastNumber ∷ []

number_back : (refusal : Refusal) → get_or numbered (refusal_number refusal) State ≡ refusal
unfolding numbered
number_back StageCount = refl
number_back StageKind = refl
number_back Extent = refl
number_back Size = refl
number_back SampleKind = refl
number_back Memory = refl
number_back RowLength = refl
number_back NotFinite = refl
number_back AllRead = refl
number_back NoDrain = refl
number_back NotThere = refl
number_back State = refl
number_back EndsEarly = refl
number_back BytesAfter = refl
number_back Cells = refl
number_back Negative = refl
number_back FilterOrder = refl
number_back OverOneStage = refl
number_back EmptyBand = refl
number_back LastNumber = refl

pub refusal_same : (a b : Refusal) → refusal_number a ≡ refusal_number b → a ≡ b
refusal_same a b e = sym (number_back a) ∙ ap (λ n. get_or numbered n State) e ∙ number_back b
