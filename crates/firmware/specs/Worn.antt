-- What a pair of rows comes to from C: a number, the answer as a byte, and the question.
use Rattle.std.specs.Prelude.{◌≡◌, List, ℕ}
use Rattle.worn.specs.declared.Question.{Question}
use Rattle.worn.specs.declared.Worn.{Worn}
use Rattle.worn.specs.declared.Worn.TheVariants.{Yes, No, NotYet, Refused}
use Rattle.worn.specs.declared.Asked.{Asked}
use Rattle.worn.specs.Worn.{worn_said, asked_of, pair_number, question_after}
use Rattle.firmware.specs.declared.WornTold.{WornTold}

-- the byte of each case of the answer; a refusal is neither yes nor no
abbrev pub worn_byte_of : Worn → ℕ
worn_byte_of NotYet = 0
worn_byte_of Yes = 1
worn_byte_of No = 2
worn_byte_of (Refused number) = 0

-- an answer as it is told
abbrev pub worn_told : Asked → WornTold
worn_told asked = record { number = worn_said asked.answer; answer = worn_byte_of asked.answer; question = asked.question }

pub record TellsWorn (Q : Question) (closed input : List ℕ) (r : WornTold) : Type 0 where
  pub exact : r ≡ worn_told (asked_of (pair_number Q closed input) Q (question_after Q closed input))
  pub number : r.number ≡ pair_number Q closed input
