-- What the firmware's one-row filters answer, and what they leave in the output rows.
use Rattle.std.specs.Prelude.{◌≡◌, ◌≢◌, not, List, [], ◌∷◌, ℕ, eqb, length}
use Rattle.morph.specs.Order.{order_of, reach_back, ahead_of, kind_of}
use Rattle.morph.specs.Grey.{grey}
use Rattle.morph.specs.Line.{filter_line}
use Rattle.morph.specs.Origin.{positions_line}
use Rattle.morph.specs.Numbers.{given, first_of}
use Rattle.line_judge.specs.Numbers.{line_start_number}

-- "One-row filter: 2, 3, 4, 7, the input row being a line of N pixels. .. 4 judges the first row and 7 the second against it."
-- So the numbers of a line's start come first, and then 7: "two rows differ in length".
unfoldable pub filter_row_number : ℕ → ℕ → ℕ → ℕ → ℕ → ℕ
filter_row_number kind left right pixels places = first_of (line_start_number kind left right pixels ∷ given 7 (not (eqb pixels places)) ∷ [])

-- "it answers 0 or the number": the output row is the input row filtered, by its kind and its extents across, or as it was
pub record FiltersRow (kind left right : ℕ) (input output output' : List ℕ) (r : ℕ) : Type 0 where
  pub told : r ≡ filter_row_number kind left right (length input) (length output)
  pub refuses : filter_row_number kind left right (length input) (length output) ≢ 0 → output' ≡ output
  pub filters :
      filter_row_number kind left right (length input) (length output) ≡ 0
      → output' ≡ filter_line (order_of (kind_of kind) grey) (reach_back (kind_of kind) left right) (ahead_of (kind_of kind) left right) input

-- ---- with positions

-- 2, 3, 4, and 7 for either output row
unfoldable pub filter_positions_number : ℕ → ℕ → ℕ → ℕ → ℕ → ℕ → ℕ
filter_positions_number kind left right pixels places columns = first_of (filter_row_number kind left right pixels places ∷ filter_row_number kind left right pixels columns ∷ [])

-- "The one-row .. filters pass it on" (02, 2/13): beside the row filtered, the position that gave each pixel of it, "the latest one in the window where several are equal"; or both rows as they were
pub record FiltersRowPositions (kind left right : ℕ) (input output positions output' positions' : List ℕ) (r : ℕ) : Type 0 where
  pub told : r ≡ filter_positions_number kind left right (length input) (length output) (length positions)
  pub refuses : filter_positions_number kind left right (length input) (length output) (length positions) ≢ 0 → (output' ≡ output) × (positions' ≡ positions)
  pub filters :
      filter_positions_number kind left right (length input) (length output) (length positions) ≡ 0
      → output' ≡ filter_line (order_of (kind_of kind) grey) (reach_back (kind_of kind) left right) (ahead_of (kind_of kind) left right) input
  pub locates :
      filter_positions_number kind left right (length input) (length output) (length positions) ≡ 0
      → positions' ≡ positions_line (order_of (kind_of kind) grey) (reach_back (kind_of kind) left right) (ahead_of (kind_of kind) left right) input
