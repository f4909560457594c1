-- The number that says a refusal, and the number of an answer: 0 where nothing is refused.
-- "whatever is wrong gets its number from document 01's list"
use Rattle.std.specs.Prelude.{◌≡◌, Result, Ok, Err, ℕ}
use Rattle.morph.specs.declared.Kind.{Kind}
use Rattle.morph.specs.declared.refusal.Refusal.{Refusal}
use Rattle.morph.specs.declared.refusal.Refusal.TheVariants.{StageCount, StageKind, Extent, Size, SampleKind, Memory, RowLength, NotFinite, AllRead, NoDrain, NotThere, State, EndsEarly, BytesAfter, Cells, Negative, FilterOrder, OverOneStage, EmptyBand, LastNumber}
use Rattle.morph.specs.Order.{kind_of}
use Rattle.morph.specs.Numbers.{kind_number_of}

abbrev pub refusal_number : Refusal → ℕ
refusal_number StageCount = 1
refusal_number StageKind = 2
refusal_number Extent = 3
refusal_number Size = 4
refusal_number SampleKind = 5
refusal_number Memory = 6
refusal_number RowLength = 7
refusal_number NotFinite = 8
refusal_number AllRead = 9
refusal_number NoDrain = 10
refusal_number NotThere = 11
refusal_number State = 12
refusal_number EndsEarly = 13
refusal_number BytesAfter = 14
refusal_number Cells = 15
refusal_number Negative = 16
refusal_number FilterOrder = 17
refusal_number OverOneStage = 20
refusal_number EmptyBand = 21
refusal_number LastNumber = 28

-- the number of a judgement, and of whatever else is refused or comes to a value
abbrev pub said : {A : Type 0} → Result A Refusal → ℕ
said (Ok _) = 0
said (Err refusal) = refusal_number refusal

-- what a kind's number is read as: "2 | a stage kind is not 0 (erosion) or 1 (dilation)", and else that kind
abbrev pub KindOf : ℕ → Result Kind Refusal → Type 0
KindOf number (Ok kind) = (kind ≡ kind_of number) × (kind_number_of number ≡ 0)
KindOf number (Err refusal) = refusal_number refusal ≡ kind_number_of number
