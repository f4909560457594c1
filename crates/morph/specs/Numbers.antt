-- How a refusal's number is said: each rule of document 01 gives its number where it is broken and 0 where it holds, and the answer is the
-- first number, in document 01's order, that is not 0.
use Rattle.std.specs.Prelude.{Bool, false, cond, ◌||◌, List, [], ◌∷◌, ℕ, zero, suc, eqb, ltb}

-- "No. | Given exactly when"
abbrev pub given : ℕ → Bool → ℕ
given number broken = cond broken number 0

abbrev pub first_of : List ℕ → ℕ
first_of [] = 0
first_of (zero ∷ l) = first_of l
first_of (suc n ∷ l) = suc n

-- ---- the rules that several layers judge by

-- "is 0 or over" the most, as 1, 4 and 17 say it
abbrev pub outside : ℕ → ℕ → Bool
outside most n = eqb n 0 || ltb most n

-- "2 | a stage kind is not 0 (erosion) or 1 (dilation)"
abbrev pub kind_number_of : ℕ → ℕ
kind_number_of kind = given 2 (ltb 1 kind)

-- "3 | an extent is over 31": one of a stage's four, or of a line's two
abbrev pub is_extent_over : List ℕ → Bool
is_extent_over [] = false
is_extent_over (extent ∷ l) = ltb 31 extent || is_extent_over l

abbrev pub extent_number : List ℕ → ℕ
extent_number extents = given 3 (is_extent_over extents)
