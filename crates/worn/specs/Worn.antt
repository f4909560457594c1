-- "Too worn" as soon as it is so (02, 9/13): the question, what it is refused with, and what a start and a pair of rows give.
use Rattle.std.specs.Prelude.{◌≡◌, Bool, cond, not, ◌||◌, List, [], ◌∷◌, ℕ, zero, suc, ◌+◌, ◌*◌, eqb, ltb, leb, length}
use Rattle.morph.specs.Numbers.{given, first_of}
use Rattle.residue.specs.Residue.{closing_number, row_residue, negative}
use Rattle.worn.specs.declared.Question.{Question}
use Rattle.worn.specs.declared.Worn.{Worn}
use Rattle.worn.specs.declared.Worn.TheVariants.{Yes, No, NotYet, Refused}
use Rattle.worn.specs.declared.Begun.{Begun}
use Rattle.worn.specs.declared.Asked.{Asked}

-- ---- the question

-- as it is before the first pair
abbrev pub first_question : ℕ → ℕ → ℕ → ℕ → ℕ → ℕ → ℕ → Question
first_question a b c d width rows limit = record { left = a; right = b; up = c; down = d; width = width; rows = rows; limit = limit; row = 0; sum = 0 }

module _ (Q : Question) where
  -- "is the picture's residue over the limit?": of the rows read it is, and rows to come take nothing away. "yes was given" exactly where this holds
  abbrev pub over_limit : Bool
  over_limit = ltb Q.limit Q.sum

  -- "yes is given early; no comes only with the last row"
  unfoldable pub say_of : Worn
  say_of = cond over_limit Yes (cond (ltb Q.row Q.rows) NotYet No)

  -- "12 (rules 3, 4 or 21 broken, row number over the count, sum over 255 × width × row number)"
  unfoldable pub is_broken_of : Bool
  is_broken_of =
      not (eqb (closing_number Q.left Q.right Q.up Q.down Q.width Q.rows) 0)
      || ltb Q.rows Q.row
      || ltb (255 * Q.width * Q.row) Q.sum

  -- with one row more, of that residue
  abbrev pub question_with : ℕ → Question
  question_with residue = record {
    left = Q.left;
    right = Q.right;
    up = Q.up;
    down = Q.down;
    width = Q.width;
    rows = Q.rows;
    limit = Q.limit;
    row = Q.row + 1;
    sum = Q.sum + residue;
  }

-- ---- a pair of rows

-- document 01's number of each case of the answer, 0 where the question is answered or goes on
abbrev pub worn_said : Worn → ℕ
worn_said Yes = 0
worn_said No = 0
worn_said NotYet = 0
worn_said (Refused number) = number

module _ (Q : Question) (closed input : List ℕ) where
  -- "for a pair 12 .., then unless yes was given 9, 7, 16": all rows are read; one of the two is not as long as the width; a counted closed value is below the input's
  unfoldable pub pair_number : ℕ
  pair_number =
      first_of
      (given 12 (is_broken_of Q)
      ∷ cond (over_limit Q) 0 (first_of
      (given 9 (leb Q.rows Q.row)
      ∷ given 7 (not (eqb (length closed) Q.width) || not (eqb (length input) Q.width))
      ∷ given 16 (negative Q.left Q.right Q.up Q.down Q.row Q.rows closed input)
      ∷ []))
      ∷ [])

  -- the question after a pair that is taken: with this row; "After a yes later rows are not looked at"
  unfoldable pub question_after : Question
  question_after = cond (over_limit Q) Q (question_with Q (row_residue Q.left Q.right Q.up Q.down Q.row Q.rows closed input))

-- ---- what the calls give

-- a start's number and question: "a refused start .. hands back all zeros" (01)
abbrev pub begun_of : ℕ → Question → Begun
begun_of zero Q = record { number = 0; question = Q }
begun_of (suc n) Q = record { number = suc n; question = first_question 0 0 0 0 0 0 0 }

-- "Refusals: at the start 3, 4, 21"
pub record WornStart (a b c d width rows limit : ℕ) (r : Begun) : Type 0 where
  pub exact : r ≡ begun_of (closing_number a b c d width rows) (first_question a b c d width rows limit)
  pub number : r.number ≡ closing_number a b c d width rows

-- a pair's answer and question, by its number and the question that it leads to: "a refused row gives its number and leaves the question as it was"
abbrev pub asked_of : ℕ → Question → Question → Asked
asked_of zero Q next = record { answer = say_of next; question = next }
asked_of (suc n) Q next = record { answer = Refused (suc n); question = Q }

pub record WornPair (Q : Question) (closed input : List ℕ) (r : Asked) : Type 0 where
  pub exact : r ≡ asked_of (pair_number Q closed input) Q (question_after Q closed input)
  pub number : worn_said r.answer ≡ pair_number Q closed input
