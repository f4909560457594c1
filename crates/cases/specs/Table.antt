-- Document 01's cases that are proved, 1 to 10, over the definitions of crate morph at grey samples; with 1, 2, 8 and 10 where the values come from (02, 2/13).
-- A line's extents are left and right; "after step t" is after t + 1 steps.
use Rattle.std.specs.Prelude.{◌≡◌, true, List, [], ◌∷◌, ◌++◌, ℕ, ◌+◌, leb, length, replicate}
use Rattle.std.proofs.Math.Option.{Option, none, some}
use Rattle.morph.specs.declared.Kind.{Kind}
use Rattle.morph.specs.declared.Kind.TheVariants.{Erosion, Dilation}
use Rattle.morph.specs.Order.{order_of, reach_back, ahead_of}
use Rattle.morph.specs.Grey.{grey}
use Rattle.morph.specs.Lists.{tabulate, all}
use Rattle.morph.specs.Line.{Entry, filter_line, queue, line_cost, line_costs}
use Rattle.morph.specs.Origin.{positions_line, origin_row_of, origin_column}
use Rattle.morph.specs.Picture.{Picture, stage_of, pixels, apply_stage, apply_plan, opening, closing, row_at}

-- a line filtered, the positions that gave its values, the places of its window, its queue after step t, and the comparisons of step t
abbrev pub filtered : Kind → ℕ → ℕ → List ℕ → List ℕ
filtered kind left right xs = filter_line (order_of kind grey) (reach_back kind left right) (ahead_of kind left right) xs

abbrev pub line_positions : Kind → ℕ → ℕ → List ℕ → List ℕ
line_positions kind left right xs = positions_line (order_of kind grey) (reach_back kind left right) (ahead_of kind left right) xs

abbrev pub places : Kind → ℕ → ℕ → ℕ
places kind left right = reach_back kind left right + ahead_of kind left right + 1

abbrev pub queue_after : Kind → ℕ → ℕ → List ℕ → ℕ → List (Entry ℕ)
queue_after kind left right xs t = queue (order_of kind grey) (places kind left right) xs (t + 1)

abbrev pub step_comparisons : Kind → ℕ → ℕ → List ℕ → ℕ → ℕ
step_comparisons kind left right xs t = line_cost (order_of kind grey) (places kind left right) xs t

-- of the first n steps together
abbrev pub line_comparisons : Kind → ℕ → ℕ → List ℕ → ℕ → ℕ
line_comparisons kind left right xs n = line_costs (order_of kind grey) (places kind left right) xs n

abbrev pub at : ℕ → ℕ → Entry ℕ
at value position = record { value = value; position = position }

-- what comes out at each of a one-stage plan's first n steps
abbrev pub rows_out : Kind → ℕ → Picture ℕ → ℕ → List (Option (List ℕ))
rows_out kind extent p n = tabulate n (row_at (stage_of grey kind extent extent extent extent ∷ []) p)

-- the row and the column that each pixel of a picture comes from, by one stage with all extents alike
abbrev pub came_from_rows : Kind → ℕ → Picture ℕ → Picture ℕ
came_from_rows kind extent p = pixels p (origin_row_of (stage_of grey kind extent extent extent extent) p)

abbrev pub came_from_columns : Kind → ℕ → Picture ℕ → Picture ℕ
came_from_columns kind extent p = pixels p (origin_column (stage_of grey kind extent extent extent extent) p)

abbrev pub P : List ℕ
P = 3 ∷ 1 ∷ 4 ∷ 1 ∷ 5 ∷ 9 ∷ 2 ∷ 6 ∷ []

-- a picture of one row, 9 in the middle of 0, 3 × 3 pixels alike, and 2 × 2 with each value in both rows
abbrev pub one_row : List ℕ → Picture ℕ
one_row r = r ∷ []

abbrev pub middle : Picture ℕ
middle = (0 ∷ 0 ∷ 0 ∷ []) ∷ (0 ∷ 9 ∷ 0 ∷ []) ∷ (0 ∷ 0 ∷ 0 ∷ []) ∷ []

abbrev pub alike : ℕ → Picture ℕ
alike v = replicate 3 (replicate 3 v)

abbrev pub crossed : Picture ℕ
crossed = (5 ∷ 9 ∷ []) ∷ (9 ∷ 5 ∷ []) ∷ []

pub record Cases : Type 0 where
  -- 1. P eroded, 2. dilated, 3. opened, 4. closed
  pub case1 : filtered Erosion 1 2 P ≡ 1 ∷ 1 ∷ 1 ∷ 1 ∷ 1 ∷ 2 ∷ 2 ∷ 2 ∷ []
  pub case1_positions : line_positions Erosion 1 2 P ≡ 1 ∷ 3 ∷ 3 ∷ 3 ∷ 3 ∷ 6 ∷ 6 ∷ 6 ∷ []
  pub case2 : filtered Dilation 1 2 P ≡ 3 ∷ 4 ∷ 4 ∷ 5 ∷ 9 ∷ 9 ∷ 9 ∷ 9 ∷ []
  pub case2_positions : line_positions Dilation 1 2 P ≡ 0 ∷ 2 ∷ 2 ∷ 4 ∷ 5 ∷ 5 ∷ 5 ∷ 5 ∷ []
  pub case3 : filtered Dilation 1 2 (filtered Erosion 1 2 P) ≡ 1 ∷ 1 ∷ 1 ∷ 1 ∷ 2 ∷ 2 ∷ 2 ∷ 2 ∷ []
  pub case3_plan : apply_plan (opening grey 1 2 0 0) (one_row P) ≡ one_row (1 ∷ 1 ∷ 1 ∷ 1 ∷ 2 ∷ 2 ∷ 2 ∷ 2 ∷ [])
  pub case4 : filtered Erosion 1 2 (filtered Dilation 1 2 P) ≡ 3 ∷ 3 ∷ 4 ∷ 4 ∷ 5 ∷ 9 ∷ 9 ∷ 9 ∷ []
  pub case4_plan : apply_plan (closing grey 1 2 0 0) (one_row P) ≡ one_row (3 ∷ 3 ∷ 4 ∷ 4 ∷ 5 ∷ 9 ∷ 9 ∷ 9 ∷ [])
  -- 5. Dilating P: the comparisons of steps 0 to 7, together, and of the drain
  pub case5 : tabulate 8 (step_comparisons Dilation 1 2 P) ≡ 0 ∷ 1 ∷ 2 ∷ 1 ∷ 2 ∷ 1 ∷ 1 ∷ 2 ∷ []
  pub case5_together : line_comparisons Dilation 1 2 P 9 ≡ 10
  pub case5_drain : step_comparisons Dilation 1 2 P 8 ≡ 0
  -- 6. After step 7 of that
  pub case6 : queue_after Dilation 1 2 P 7 ≡ at 9 5 ∷ at 6 7 ∷ []
  -- 7. 4 3 2 1 dilated: its values, its comparisons, and never over 2 queued
  pub case7 : filtered Dilation 0 1 (4 ∷ 3 ∷ 2 ∷ 1 ∷ []) ≡ 4 ∷ 4 ∷ 3 ∷ 2 ∷ []
  pub case7_comparisons : line_comparisons Dilation 0 1 (4 ∷ 3 ∷ 2 ∷ 1 ∷ []) 4 ≡ 3
  pub case7_queued : all (λ t. leb (length (queue_after Dilation 0 1 (4 ∷ 3 ∷ 2 ∷ 1 ∷ []) t)) 2) (0 ∷ 1 ∷ 2 ∷ 3 ∷ []) ≡ true
  -- 8. 7 7 7 dilated: its values, the latest positions that have them, the queue after step 2, its comparisons
  pub case8 : filtered Dilation 1 1 (7 ∷ 7 ∷ 7 ∷ []) ≡ 7 ∷ 7 ∷ 7 ∷ []
  pub case8_positions : line_positions Dilation 1 1 (7 ∷ 7 ∷ 7 ∷ []) ≡ 1 ∷ 2 ∷ 2 ∷ []
  pub case8_queue : queue_after Dilation 1 1 (7 ∷ 7 ∷ 7 ∷ []) 2 ≡ at 7 2 ∷ []
  pub case8_comparisons : line_comparisons Dilation 1 1 (7 ∷ 7 ∷ 7 ∷ []) 4 ≡ 2
  -- 9. One pixel, all extents 31, whatever its value: nothing at steps 0 to 30, itself at step 31
  pub case9_dilated : (v : ℕ) → rows_out Dilation 31 (one_row (v ∷ [])) 32 ≡ replicate 31 none ++ (some (v ∷ []) ∷ [])
  pub case9_eroded : (v : ℕ) → rows_out Erosion 31 (one_row (v ∷ [])) 32 ≡ replicate 31 none ++ (some (v ∷ []) ∷ [])
  -- 10. 9 in the middle of 0, all extents 1: dilated, eroded, opened, closed
  pub case10_dilated : apply_stage (stage_of grey Dilation 1 1 1 1) middle ≡ alike 9
  pub case10_eroded : apply_stage (stage_of grey Erosion 1 1 1 1) middle ≡ alike 0
  pub case10_opened : apply_plan (opening grey 1 1 1 1) middle ≡ alike 0
  pub case10_closed : apply_plan (closing grey 1 1 1 1) middle ≡ alike 9
  -- where these come from: the 9 from the middle; a 0 from the latest row under the window that has one, and in it from the latest column
  pub case10_dilated_rows : came_from_rows Dilation 1 middle ≡ alike 1
  pub case10_dilated_columns : came_from_columns Dilation 1 middle ≡ alike 1
  pub case10_eroded_rows : came_from_rows Erosion 1 middle ≡ (1 ∷ 1 ∷ 1 ∷ []) ∷ (2 ∷ 2 ∷ 2 ∷ []) ∷ (2 ∷ 2 ∷ 2 ∷ []) ∷ []
  pub case10_eroded_columns : came_from_columns Erosion 1 middle ≡ (0 ∷ 2 ∷ 2 ∷ []) ∷ (1 ∷ 2 ∷ 2 ∷ []) ∷ (1 ∷ 2 ∷ 2 ∷ []) ∷ []
  -- a later row goes before a later column
  pub crossed_rows : came_from_rows Dilation 1 crossed ≡ (1 ∷ 1 ∷ []) ∷ (1 ∷ 1 ∷ []) ∷ []
  pub crossed_columns : came_from_columns Dilation 1 crossed ≡ (0 ∷ 0 ∷ []) ∷ (0 ∷ 0 ∷ []) ∷ []
