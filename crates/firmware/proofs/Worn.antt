-- A pair's answer in the words of the promise from C, and that the promise leaves no choice.
use mathlib.Core.Path.{◌≡◌, sym, ap, ◌∙◌}
use mathlib.Core.List.{List}
use Prim.Native.Nat.{ℕ}
use Rattle.worn.specs.declared.Question.{Question}
use Rattle.worn.specs.declared.Asked.{Asked}
use Rattle.worn.specs.Worn.{worn_said, asked_of, pair_number, question_after, WornPair}
use Rattle.worn.proofs.Answers.{pair_exact}
use Rattle.firmware.specs.declared.WornTold.{WornTold}
use Rattle.firmware.specs.Worn.{worn_byte_of, worn_told, TellsWorn}

module _ (Q : Question) (closed input : List ℕ) where
  pub worn_tells : {asked : Asked} {n b : ℕ} → WornPair Q closed input asked → n ≡ worn_said asked.answer → b ≡ worn_byte_of asked.answer
      → TellsWorn Q closed input (record { number = n; answer = b; question = asked.question })
  worn_tells h e f = record { exact = rw (e, f) (ap worn_told h.exact); number = e ∙ h.number }

  -- what is told from C is told of an answer that the question's own call may give
  pub worn_asked : {r : WornTold} → TellsWorn Q closed input r → (asked : Asked) × WornPair Q closed input asked × (r ≡ worn_told asked)
  worn_asked h = (asked_of (pair_number Q closed input) Q (question_after Q closed input), pair_exact Q closed input, h.exact)

  -- the answer and the question after it follow from what the call is given alone
  pub worn_unique : (r s : WornTold) → TellsWorn Q closed input r → TellsWorn Q closed input s → r ≡ s
  worn_unique r s h k = h.exact ∙ sym k.exact
