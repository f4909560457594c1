-- The dark residue: which pixels are counted, what a row and a picture have, and what a call answers (01; 02, 3/13).
-- The rectangle of the closing has the extents left a, right b, up c, down d.
use Rattle.std.specs.Prelude.{◌≡◌, Bool, false, cond, not, ◌&&◌, ◌||◌, List, [], ◌∷◌, ℕ, zero, suc, ◌+◌, ◌-◌, ◌*◌, ◌<◌, eqb, ltb, leb, length, get_or}
use Rattle.morph.specs.Lists.{sum_to}
use Rattle.morph.specs.Picture.{Picture}
use Rattle.morph.specs.Numbers.{given, first_of, extent_number}
use Rattle.plan_record.specs.Numbers.{size_number}
use Rattle.residue.specs.declared.Residue.{Residue}
use Rattle.residue.specs.declared.Residue.TheVariants.{Sum, Refused}

-- ---- the band

-- "columns from a+b to W-1-(a+b) and rows from c+d to H-1-(c+d)": of n places, those that have `reach` or more before them and behind them
abbrev pub in_band : ℕ → ℕ → ℕ → Bool
in_band reach n at = leb reach at && ltb (at + reach) n

-- whether the pixel in row y and column x is counted, of a picture of this width and so many rows
abbrev pub counted_at : ℕ → ℕ → ℕ → ℕ → ℕ → ℕ → ℕ → ℕ → Bool
counted_at a b c d width rows y x = in_band (c + d) rows y && in_band (a + b) width x

-- "Where the band has no pixel at all": `band_empty` and `band_some` prove that it is so exactly where no pixel is counted
abbrev pub empty_band : ℕ → ℕ → ℕ → ℕ → Bool
empty_band across down width rows = leb width (2 * across) || leb rows (2 * down)

-- ---- a row, number `row` of `rows`, and its width the closed row's length

-- whether the test holds of some number below n
abbrev pub some_to : ℕ → (ℕ → Bool) → Bool
some_to zero p = false
some_to (suc n) p = p n || some_to n p

-- the closed value is below the input's: "a residue pixel would be negative"
abbrev pub darker : List ℕ → List ℕ → ℕ → Bool
darker closed input x = ltb (get_or closed x 0) (get_or input x 0)

module _ (a b c d row rows : ℕ) (closed input : List ℕ) where
  -- whether the pixel in column x of the row is counted
  abbrev pub counts : ℕ → Bool
  counts = counted_at a b c d (length closed) rows row

  -- the sum of closed value minus input value over the counted columns; "A row outside that band adds 0."
  unfoldable pub row_residue : ℕ
  row_residue = sum_to (length closed) (λ x. cond (counts x) (get_or closed x 0 - get_or input x 0) 0)

  -- "Test 16 looks at counted pixels only."
  unfoldable pub negative : Bool
  negative = some_to (length closed) (λ x. counts x && darker closed input x)

  -- "3 for the extents, then 4 (also for a row number not below the row count), 7, 21 for the empty band, then 16"
  unfoldable pub residue_number : ℕ
  residue_number =
      first_of
      (extent_number (a ∷ b ∷ c ∷ d ∷ [])
      ∷ size_number (length closed) rows
      ∷ given 4 (leb rows row)
      ∷ given 7 (not (eqb (length input) (length closed)))
      ∷ given 21 (empty_band (a + b) (c + d) (length closed) rows)
      ∷ given 16 negative
      ∷ [])

-- "rules 3, 4 or 21": those of them that the extents, the width and the row count break, for every row alike (02, 9/13)
unfoldable pub closing_number : ℕ → ℕ → ℕ → ℕ → ℕ → ℕ → ℕ
closing_number a b c d width rows = first_of (extent_number (a ∷ b ∷ c ∷ d ∷ []) ∷ size_number width rows ∷ given 21 (empty_band (a + b) (c + d) width rows) ∷ [])

-- ---- the answer

-- document 01's number of each case of the answer, 0 where the sum is given
abbrev pub residue_said : Residue → ℕ
residue_said (Sum sum) = 0
residue_said (Refused number) = number

-- the answer of a number and a sum: a refusal where the number is not 0
abbrev pub residue_of : ℕ → ℕ → Residue
residue_of zero sum = Sum sum
residue_of (suc n) sum = Refused (suc n)

pub record Answered (a b c d row rows : ℕ) (closed input : List ℕ) (r : Residue) : Type 0 where
  pub exact : r ≡ residue_of (residue_number a b c d row rows closed input) (row_residue a b c d row rows closed input)
  pub number : residue_said r ≡ residue_number a b c d row rows closed input

-- ---- a picture, its rows and those of the input top to bottom

module _ (a b c d : ℕ) (closed input : Picture ℕ) where
  -- "The picture's residue is the sum over its rows.", of pictures of which no row is refused (`RowsAnswered`)
  unfoldable pub picture_residue : ℕ
  picture_residue = sum_to (length closed) (λ y. row_residue a b c d y (length closed) (get_or closed y []) (get_or input y []))

  -- Two pictures of as many rows, at least one, of which no row is refused: `sums` are the sums that the rows are answered with, top to bottom.
  pub record RowsAnswered (sums : List ℕ) : Type 0 where
    pub some : 0 < length closed
    pub same : length input ≡ length closed
    pub rows : length sums ≡ length closed
    pub each : (y : ℕ) → y < length closed → Answered a b c d y (length closed) (get_or closed y []) (get_or input y []) (Sum (get_or sums y 0))
