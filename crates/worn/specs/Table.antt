-- Questions whose answers are worked out by hand, proved over the definitions. The picture has 3 rows of 2 columns and all extents are 0 unless a case says otherwise.
use Rattle.std.specs.Prelude.{◌≡◌, List, [], ◌∷◌, ℕ, replicate}
use Rattle.morph.specs.Picture.{Picture}
use Rattle.residue.specs.Residue.{closing_number}
use Rattle.worn.specs.declared.Question.{Question}
use Rattle.worn.specs.declared.Worn.{Worn}
use Rattle.worn.specs.declared.Worn.TheVariants.{Yes, No, NotYet, Refused}
use Rattle.worn.specs.declared.Begun.{Begun}
use Rattle.worn.specs.declared.Asked.{Asked}
use Rattle.worn.specs.Worn.{first_question, begun_of, asked_of, pair_number, question_after}

-- ---- by the definitions

abbrev pub start_by : ℕ → ℕ → ℕ → ℕ → ℕ → ℕ → ℕ → Begun
start_by a b c d width rows limit = begun_of (closing_number a b c d width rows) (first_question a b c d width rows limit)

abbrev pub ask_by : Question → List ℕ → List ℕ → Asked
ask_by Q closed input = asked_of (pair_number Q closed input) Q (question_after Q closed input)

-- the answers to pairs one after the other, and the question after them
abbrev pub answers_by : Question → Picture ℕ → Picture ℕ → List Worn
answers_by Q [] input = []
answers_by Q (x ∷ closed) [] = []
answers_by Q (x ∷ closed) (y ∷ input) = (ask_by Q x y).answer ∷ answers_by (ask_by Q x y).question closed input

abbrev pub question_by : Question → Picture ℕ → Picture ℕ → Question
question_by Q [] input = Q
question_by Q (x ∷ closed) [] = Q
question_by Q (x ∷ closed) (y ∷ input) = question_by (ask_by Q x y).question closed input

-- ---- the questions and the rows

-- with so many rows read, of that sum
abbrev pub read_of : ℕ → ℕ → ℕ → Question
read_of limit row sum = record { left = 0; right = 0; up = 0; down = 0; width = 2; rows = 3; limit = limit; row = row; sum = sum }

abbrev pub asks_of : ℕ → Question
asks_of limit = read_of limit 0 0

-- a row of two pixels; the residues of the three rows are 7, 6 and 0
abbrev pub two : ℕ → ℕ → List ℕ
two a b = a ∷ b ∷ []

abbrev pub closed_rows : Picture ℕ
closed_rows = two 5 5 ∷ two 4 4 ∷ two 3 3 ∷ []

abbrev pub input_rows : Picture ℕ
input_rows = two 1 2 ∷ two 1 1 ∷ two 3 3 ∷ []

-- and two pairs more, of which the first has no pixel
abbrev pub closed_on : Picture ℕ
closed_on = two 5 5 ∷ two 4 4 ∷ two 3 3 ∷ [] ∷ two 5 5 ∷ []

abbrev pub input_on : Picture ℕ
input_on = two 1 2 ∷ two 1 1 ∷ two 3 3 ∷ [] ∷ two 1 2 ∷ []

-- 5 rows of 7 columns with left 1, right 1, up 1, down 0: 15 in rows 1, 2 and 3
abbrev pub band_of : ℕ → Question
band_of limit = first_question 1 1 1 0 7 5 limit

abbrev pub nine7 : Picture ℕ
nine7 = replicate 5 (replicate 7 9)

abbrev pub rising7 : Picture ℕ
rising7 = replicate 5 (1 ∷ 2 ∷ 3 ∷ 4 ∷ 5 ∷ 6 ∷ 7 ∷ [])

pub record WornCases : Type 0 where
  -- 7, then 13: over 10 with the second row, and so it stays; the question too
  pub over_10 : answers_by (asks_of 10) closed_on input_on ≡ NotYet ∷ Yes ∷ Yes ∷ Yes ∷ Yes ∷ []
  pub after_10 : question_by (asks_of 10) closed_on input_on ≡ read_of 10 2 13
  -- 13 is not over 13: no with the last row; then all are read
  pub not_over_13 : answers_by (asks_of 13) closed_on input_on ≡ NotYet ∷ NotYet ∷ No ∷ Refused 9 ∷ Refused 9 ∷ []
  pub after_13 : question_by (asks_of 13) closed_on input_on ≡ read_of 13 3 13
  pub over_12 : answers_by (asks_of 12) closed_rows input_rows ≡ NotYet ∷ Yes ∷ Yes ∷ []
  pub over_6 : answers_by (asks_of 6) closed_rows input_rows ≡ Yes ∷ Yes ∷ Yes ∷ []
  pub at_7 : answers_by (asks_of 7) closed_rows input_rows ≡ NotYet ∷ Yes ∷ Yes ∷ []
  -- a residue of 0 is over no limit
  pub over_none : answers_by (asks_of 0) input_rows input_rows ≡ NotYet ∷ NotYet ∷ No ∷ []
  -- a refused pair in between: column 0 would be negative; the closed row is too long; the input row is too short
  pub refused_16 : answers_by (asks_of 13) (two 5 5 ∷ two 4 4 ∷ two 4 4 ∷ two 3 3 ∷ []) (two 1 2 ∷ two 5 1 ∷ two 1 1 ∷ two 3 3 ∷ []) ≡ NotYet ∷ Refused 16 ∷ NotYet ∷ No ∷ []
  pub kept_16 : question_by (asks_of 13) (two 5 5 ∷ two 4 4 ∷ []) (two 1 2 ∷ two 5 1 ∷ []) ≡ read_of 13 1 7
  pub refused_7 : answers_by (asks_of 13) ((5 ∷ 5 ∷ 5 ∷ []) ∷ two 5 5 ∷ two 5 5 ∷ []) (two 1 2 ∷ (1 ∷ []) ∷ two 1 2 ∷ []) ≡ Refused 7 ∷ Refused 7 ∷ NotYet ∷ []
  -- 7 before 16, and 9 before 7
  pub length_first : answers_by (asks_of 13) (two 0 0 ∷ []) ((1 ∷ []) ∷ []) ≡ Refused 7 ∷ []
  pub read_first : answers_by (read_of 13 3 13) ([] ∷ []) ([] ∷ []) ≡ Refused 9 ∷ []
  -- 12: row 4 of 3; a sum that no rows have; and the largest that they may have; also where the sum is over the limit
  pub row_4 : ask_by (read_of 13 4 0) (two 5 5) (two 1 2) ≡ record { answer = Refused 12; question = read_of 13 4 0 }
  pub row_3 : ask_by (read_of 13 3 0) (two 5 5) (two 1 2) ≡ record { answer = Refused 9; question = read_of 13 3 0 }
  pub sum_510 : ask_by (read_of 1000 1 510) (two 4 4) (two 1 1) ≡ record { answer = NotYet; question = read_of 1000 2 516 }
  pub sum_511 : ask_by (read_of 1000 1 511) (two 4 4) (two 1 1) ≡ record { answer = Refused 12; question = read_of 1000 1 511 }
  pub sum_1 : answers_by (read_of 13 0 1) closed_rows input_rows ≡ Refused 12 ∷ Refused 12 ∷ Refused 12 ∷ []
  pub over_511 : answers_by (read_of 13 1 511) ([] ∷ []) ([] ∷ []) ≡ Refused 12 ∷ []
  pub over_510 : answers_by (read_of 13 1 510) ([] ∷ []) ([] ∷ []) ≡ Yes ∷ []
  pub zeros : answers_by (first_question 0 0 0 0 0 0 0) (two 5 5 ∷ []) (two 1 2 ∷ []) ≡ Refused 12 ∷ []
  pub empty_band_holds : answers_by (first_question 1 0 0 0 2 3 13) (two 5 5 ∷ []) (two 1 2 ∷ []) ≡ Refused 12 ∷ []
  -- the start: taken; 3, 4, 21; 3 before 4 before 21
  pub start : start_by 0 0 0 0 2 3 13 ≡ record { number = 0; question = asks_of 13 }
  pub start_3 : start_by 0 0 0 32 0 0 13 ≡ record { number = 3; question = first_question 0 0 0 0 0 0 0 }
  pub start_4 : start_by 31 0 0 0 4097 3 13 ≡ record { number = 4; question = first_question 0 0 0 0 0 0 0 }
  pub start_no_rows : start_by 1 0 0 0 2 0 13 ≡ record { number = 4; question = first_question 0 0 0 0 0 0 0 }
  pub start_21 : start_by 1 0 0 0 2 3 13 ≡ record { number = 21; question = first_question 0 0 0 0 0 0 0 }
  pub start_band : start_by 1 1 1 0 7 5 44 ≡ record { number = 0; question = band_of 44 }
  -- a band: 0, 15, 30, 45, 45
  pub band_44 : answers_by (band_of 44) nine7 rising7 ≡ NotYet ∷ NotYet ∷ NotYet ∷ Yes ∷ Yes ∷ []
  pub band_45 : answers_by (band_of 45) nine7 rising7 ≡ NotYet ∷ NotYet ∷ NotYet ∷ NotYet ∷ No ∷ []
  pub band_outside : answers_by (band_of 44) ([] ∷ []) (rising7) ≡ Refused 7 ∷ []
