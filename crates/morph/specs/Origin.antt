-- Where an answer comes from. "The line filter shall also return the position that gave the value, the latest one in the window where several are equal." (02, 2/13) The pixel that gave a
-- picture's value is its origin, a row and a column.
use Rattle.std.specs.Prelude.{◌≡◌, false, List, [], ◌⊎◌, ℕ, ◌+◌, ◌-◌, ◌≤◌, ◌<◌, length, get_or}
use Rattle.std.proofs.Math.Seq.{slice}
use Rattle.morph.specs.Order.{Order}
use Rattle.morph.specs.Lists.{tabulate}
use Rattle.morph.specs.Line.{Entry, positioned, best, best_at}
use Rattle.morph.specs.Picture.{Picture, pixel_at, Stage, Covers, apply_stage, across, column}

module _ {A : Type 0} (O : Order A) where
  -- entries, compared by their values: of those that are equal the last is the `best`
  abbrev pub by_value : Order (Entry A)
  by_value = record {
    le = λ e r. O.le e.value r.value;
    total = λ e r h. O.total e.value r.value h;
    trans = λ e r s h k. O.trans e.value r.value s.value h k;
    blank = record { value = O.blank; position = 0 };
  }

  -- ---- a line

  -- the answer at x and the position that gave it
  unfoldable pub answer_at : ℕ → ℕ → List A → ℕ → Entry A
  answer_at back ahead xs x = best by_value (positioned (x - back) (slice (x - back) (x + ahead + 1) xs))

  -- the same sentence of one entry, word for word: `answer_latest` proves that the answer is so, `latest_only` that no other entry is
  pub record LatestEntry (back ahead : ℕ) (xs : List A) (x : ℕ) (e : Entry A) : Type 0 where
    pub left : x ≤ e.position + back
    pub right : e.position ≤ x + ahead
    pub there : e.position < length xs
    pub gives : e.value ≡ get_or xs e.position O.blank
    pub value : e.value ≡ best_at O back ahead xs x
    pub last : (r : ℕ) → e.position < r → r ≤ x + ahead → r < length xs → O.le e.value (get_or xs r O.blank) ≡ false

  -- the positions of a whole line
  unfoldable pub positions_line : ℕ → ℕ → List A → List ℕ
  positions_line back ahead xs = tabulate (length xs) (λ x. (answer_at back ahead xs x).position)

-- ---- a picture

module _ {A : Type 0} (S : Stage A) where
  -- "for a picture, the latest row whose across-result has the value"
  unfoldable pub origin_row_of : Picture A → ℕ → ℕ → ℕ
  origin_row_of p y x = (answer_at S.order S.above S.below (column S x (across S p)) y).position

  -- "and in that row the latest column of its window"
  unfoldable pub origin_column : Picture A → ℕ → ℕ → ℕ
  origin_column p y x = (answer_at S.order S.back S.ahead (get_or p (origin_row_of p y x) []) x).position

  -- The last pixel under the rectangle, row by row and each row from left to right, that has the value which comes out: every later one is less. `origin_last` proves that the origin is it, `last_only`
  -- that no other pixel is.
  pub record LastPixel (p : Picture A) (y x r c : ℕ) : Type 0 where
    pub under : Covers S.back S.ahead S.above S.below p x y c r
    pub gives : pixel_at S.order p r c ≡ pixel_at S.order (apply_stage S p) y x
    pub last : (r' c' : ℕ) → Covers S.back S.ahead S.above S.below p x y c' r' → (r < r') ⊎ ((r ≡ r') × (c < c')) → S.order.le (pixel_at S.order p r c) (pixel_at S.order p r' c') ≡ false
