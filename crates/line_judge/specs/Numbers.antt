-- Which of document 01's numbers a call of a line is refused with, test by test in its order; 0 where the call is accepted. On plain numbers, for both kinds of samples.
use Rattle.std.specs.Prelude.{Bool, cond, not, ◌||◌, [], ◌∷◌, ℕ, ◌+◌, ltb, leb, eqb}
use Rattle.morph.specs.declared.Kind.{Kind}
use Rattle.morph.specs.Order.{reach_back, ahead_of}
use Rattle.morph.specs.Numbers.{given, first_of, outside, kind_number_of, is_extent_over, extent_number}

-- "L = B + F + 1"
abbrev pub window_of : Kind → ℕ → ℕ → ℕ
window_of kind left right = reach_back kind left right + ahead_of kind left right + 1

-- "The line's start: 2, 3, 4". "4 | .. a line's N is 0 or over 65,535"
unfoldable pub line_start_number : ℕ → ℕ → ℕ → ℕ → ℕ
line_start_number kind left right pixels = first_of (kind_number_of kind ∷ extent_number (left ∷ right ∷ []) ∷ given 4 (outside 65535 pixels) ∷ [])

-- 12: "the state breaks rules 1 to 5; its step count is over .. (a line's: N + F); or a queue's start is not below its places, or its length over its window
-- (.. 63 places and L in a line)"
unfoldable pub broken : Kind → ℕ → ℕ → ℕ → ℕ → ℕ → ℕ → Bool
broken kind left right pixels step start count =
    is_extent_over (left ∷ right ∷ []) || (outside 65535 pixels || (ltb (pixels + ahead_of kind left right) step || (leb 63 start || ltb (window_of kind left right) count)))

module _ (kind : Kind) (left right pixels step start count : ℕ) where
  -- "its step: 12, 9 or 10, 8": a pixel is offered, which is an accepted one or not. 9: "a .. pixel is offered when all have been read"
  unfoldable pub line_read_number : Bool → ℕ
  line_read_number good = first_of (given 12 (broken kind left right pixels step start count) ∷ given 9 (leb pixels step) ∷ given 8 (not good) ∷ [])

  -- 10: "a drain is asked before all are read, or after the last output"
  unfoldable pub line_drain_number : ℕ
  line_drain_number =
      first_of (given 12 (broken kind left right pixels step start count) ∷ given 10 (ltb step pixels || leb (pixels + ahead_of kind left right) step) ∷ [])

  -- 11: "a read-out names a .. queue place that is not there"
  unfoldable pub line_read_out_number : ℕ → ℕ
  line_read_out_number place = first_of (given 12 (broken kind left right pixels step start count) ∷ given 11 (leb count place) ∷ [])

-- 8: "(in a line's step, its position)": the step is the position of the pixel that it reads. Other refusals name no position.
unfoldable pub place_of : ℕ → ℕ → ℕ
place_of number step = cond (eqb number 8) step 0
