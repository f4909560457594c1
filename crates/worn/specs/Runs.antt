-- Whole runs of a question about two pictures, the closed one and the input: a start that is taken, then their rows pair by pair, with any refused pairs between them, and after a yes any rows at all. What comes of a run is told by the calls' promises alone.
use Rattle.std.specs.Prelude.{◌≡◌, ◌≢◌, false, cond, List, [], ◌∷◌, ◌++◌, ℕ, zero, suc, ◌-◌, ◌≤◌, ◌<◌, ltb, length, get_or}
use Rattle.morph.specs.Lists.{sum_to, tabulate}
use Rattle.morph.specs.Picture.{Picture}
use Rattle.residue.specs.Residue.{row_residue, residue_number, picture_residue}
use Rattle.worn.specs.declared.Question.{Question}
use Rattle.worn.specs.declared.Worn.{Worn}
use Rattle.worn.specs.declared.Worn.TheVariants.{Yes, No, NotYet}
use Rattle.worn.specs.declared.Begun.{Begun}
use Rattle.worn.specs.declared.Asked.{Asked}
use Rattle.worn.specs.Worn.{WornStart, over_limit, pair_number, WornPair}

-- the row's values are bytes
abbrev pub Bytes : List ℕ → Type 0
Bytes row = (x : ℕ) → get_or row x 0 < 256

-- A question about pictures of this width and so many rows, with this limit.
module _ (a b c d width rows limit : ℕ) (closed input : Picture ℕ) where
  -- the residue of row y
  abbrev pub residue_at : ℕ → ℕ
  residue_at y = row_residue a b c d y rows (get_or closed y []) (get_or input y [])

  -- the answer to pair t, counted from 0: "yes at the first row where that is certain", and "no comes only with the last row"
  abbrev pub answer_for : ℕ → Worn
  answer_for t = cond (ltb limit (sum_to (suc t) residue_at)) Yes (cond (ltb (suc t) rows) NotYet No)

  -- how many of the first t rows are looked at: all, up to the one that takes the sum over the limit
  abbrev pub looked_at : ℕ → ℕ
  looked_at zero = 0
  looked_at (suc t) = cond (ltb limit (sum_to t residue_at)) (looked_at t) (suc t)

  -- the question after t pairs
  abbrev pub question_at : ℕ → Question
  question_at t = record { left = a; right = b; up = c; down = d; width = width; rows = rows; limit = limit; row = looked_at t; sum = sum_to (looked_at t) residue_at }

  -- A run: how many pairs were taken, the question after them and after all that was refused, and the answers to the pairs taken. Before a yes a pair that is taken is the pictures' next one.
  pub data WornRun : ℕ → Question → List Worn → Type 0 where
    begun : (r : Begun) → WornStart a b c d width rows limit r → r.number ≡ 0 → WornRun 0 r.question []
    paired : {t : ℕ} {Q : Question} {said : List Worn} (x y : List ℕ) (r : Asked) → WornRun t Q said
        → (over_limit Q ≡ false → (x ≡ get_or closed t []) × (y ≡ get_or input t []))
        → pair_number Q x y ≡ 0 → WornPair Q x y r → WornRun (suc t) r.question (said ++ (r.answer ∷ []))
    pair_refused : {t : ℕ} {Q : Question} {said : List Worn} (x y : List ℕ) (r : Asked) → WornRun t Q said
        → pair_number Q x y ≢ 0 → WornPair Q x y r → WornRun t r.question said

  -- What document 02 says of a run, whatever was refused in it. The question is `question_at` and each answer `answer_for`. Yes is the answer exactly where the sum over the rows
  -- so far is over the limit: it is given at the first such row, at none before it, and at each one after it. No comes with no row but the last, and the sum over all rows
  -- is not over the limit then. The answer to the last row is the full answer.
  pub record WornRan (t : ℕ) (Q : Question) (said : List Worn) : Type 0 where
    pub question : Q ≡ question_at t
    pub says : said ≡ tabulate t answer_for
    pub yes : (k : ℕ) → k < t → limit < sum_to (suc k) residue_at → get_or said k NotYet ≡ Yes
    pub only : (k : ℕ) → k < t → get_or said k NotYet ≡ Yes → limit < sum_to (suc k) residue_at
    pub same : (k m : ℕ) → k ≤ m → m < t → get_or said k NotYet ≡ Yes → get_or said m NotYet ≡ Yes
    pub no : (k : ℕ) → k < t → get_or said k NotYet ≡ No → (suc k ≡ rows) × (sum_to rows residue_at ≤ limit)
    pub right : t ≡ rows → length closed ≡ rows → get_or said (rows - 1) NotYet ≡ cond (ltb limit (picture_residue a b c d closed input)) Yes No

  -- "every picture whose rows all pass 3, 4, 7, 21 and 16": there are so many rows of this width, of bytes, and the residue refuses none
  pub record AllPass : Type 0 where
    pub some : 0 < rows
    pub wide : (y : ℕ) → y < rows → length (get_or closed y []) ≡ width
    pub bytes : (y : ℕ) → Bytes (get_or closed y [])
    pub pass : (y : ℕ) → y < rows → residue_number a b c d y rows (get_or closed y []) (get_or input y []) ≡ 0

-- "certain": whatever rows are to come
module _ (a b c d width rows limit : ℕ) (closed input : Picture ℕ) where
  -- two pictures of so many rows whose first t rows are those of these
  pub record GoesOn (t : ℕ) (closed' input' : Picture ℕ) : Type 0 where
    pub high : length closed' ≡ rows
    pub closed_same : (y : ℕ) → y < t → get_or closed' y [] ≡ get_or closed y []
    pub input_same : (y : ℕ) → y < t → get_or input' y [] ≡ get_or input y []

  -- the residue is over the limit however the first t rows go on to a picture whose rows all pass
  abbrev pub Certain : ℕ → Type 0
  Certain t = (closed' input' : Picture ℕ) → GoesOn t closed' input' → AllPass a b c d width rows limit closed' input' → limit < picture_residue a b c d closed' input'
