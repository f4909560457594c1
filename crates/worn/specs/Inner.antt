-- What the functions inside a pair's call are held to.
use Rattle.std.specs.Prelude.{Result, Ok, Err, ◌≡◌, false, ◌<◌}
use Rattle.morph.specs.declared.refusal.Refusal.{Refusal}
use Rattle.morph.specs.Refusals.{refusal_number}
use Rattle.worn.specs.declared.Question.{Question}
use Rattle.worn.specs.declared.Worn.TheVariants.{Refused}
use Rattle.worn.specs.declared.Asked.{Asked}
use Rattle.worn.specs.Worn.{over_limit, say_of, is_broken_of}

-- a question that breaks no rule, has not been answered yes and has rows to come
pub record Awaits (Q : Question) : Type 0 where
  pub unbroken : is_broken_of Q ≡ false
  pub unsaid : over_limit Q ≡ false
  pub rest : Q.row < Q.rows

-- the question after a pair, or why it is refused, as the answer that says it
abbrev pub asked_as : Question → Result Question Refusal → Asked
asked_as Q (Ok next) = record { answer = say_of next; question = next }
asked_as Q (Err refusal) = record { answer = Refused (refusal_number refusal); question = Q }
