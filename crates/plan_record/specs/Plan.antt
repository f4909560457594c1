-- The stage and plan records: what they mean, what they need, and the numbers that judge them.
use Rattle.std.specs.Prelude.{cond, List, [], ◌∷◌, ◌++◌, map, ℕ, zero, suc, ◌+◌, ◌-◌, ◌*◌, eqb, length, get_or, take, replicate}
use Rattle.morph.specs.declared.Kind.{Kind}
use Rattle.morph.specs.declared.Kind.TheVariants.{Erosion, Dilation}
use Rattle.morph.specs.Lists.{tabulate}
use Rattle.morph.specs.Order.{Order, kind_of, ahead_of}
use Rattle.morph.specs.Picture.{Stage as Filter, stage_of}
use Rattle.morph.specs.Numbers.{given, first_of, outside, kind_number_of, extent_number}
use Rattle.plan_record.specs.declared.Stage.{Stage}
use Rattle.plan_record.specs.declared.Plan.{Plan}
use Rattle.plan_record.specs.declared.Reading.{Reading}
use Rattle.plan_record.specs.declared.Need.{Need}
use Rattle.plan_record.specs.Numbers.{size_number}

-- ---- the records

-- "all zeros, kind erosion, as unused stage places hold"
abbrev pub unused : Stage
unused = record { kind = Erosion; left = 0; right = 0; up = 0; down = 0 }

-- the record of a plan of these stages, at most 16: the places after them are unused. `plan_of []` is all zeros.
abbrev pub plan_of : List Stage → Plan
plan_of ss = record { count = length ss; stages = ss ++ replicate (16 - length ss) unused }

-- the stages of a plan record: the first `count` places
abbrev pub used : Plan → List Stage
used plan = take plan.count plan.stages

-- ---- what they mean

module _ {A : Type 0} (O : Order A) where
  abbrev pub filter_of : Stage → Filter A
  filter_of s = stage_of O s.kind s.left s.right s.up s.down

  -- a plan record as the list of stages that a picture goes through
  abbrev pub stages_of : Plan → List (Filter A)
  stages_of plan = map filter_of (used plan)

-- ---- what they need

-- the sum of what each of a list of stages needs
abbrev pub total : (Stage → ℕ) → List Stage → ℕ
total f [] = 0
total f (s ∷ ss) = f s + total f ss

-- "c+d+1": the places of a column's queue
abbrev pub size_of : Stage → ℕ
size_of s = s.up + s.down + 1

-- F down: "erosion B = c, F = d; dilation B = d, F = c"
abbrev pub below_of : Stage → ℕ
below_of s = ahead_of s.kind s.up s.down

-- "A stage needs width × (c+d+1) queue cells .."
abbrev pub cells_of : ℕ → Stage → ℕ
cells_of width s = width * size_of s

abbrev pub cells_needed : Plan → ℕ → ℕ
cells_needed plan width = total (cells_of width) (used plan)

-- ".. and one record per column."
abbrev pub records_needed : Plan → ℕ → ℕ
records_needed plan width = plan.count * width

-- "The plan's look-ahead D is the sum of the stages' F down."
abbrev pub plan_ahead : Plan → ℕ
plan_ahead plan = total below_of (used plan)

-- ---- the numbers

-- "1 | stage count is 0 or over 16"
abbrev pub count_number : ℕ → ℕ
count_number count = given 1 (outside 16 count)

-- "17 | filter order is 0 or over 4"
abbrev pub order_number : ℕ → ℕ
order_number order = given 17 (outside 4 order)

-- of a plan record, whose kinds are an enum: 1; then stage by stage 3
abbrev pub record_stage_number : Stage → ℕ
record_stage_number s = extent_number (s.left ∷ s.right ∷ s.up ∷ s.down ∷ [])

unfoldable pub record_stages_number : Plan → ℕ
record_stages_number plan = first_of (tabulate plan.count (λ i. record_stage_number (get_or plan.stages i unused)))

unfoldable pub record_number : Plan → ℕ
record_number plan = first_of (count_number plan.count ∷ record_stages_number plan ∷ [])

-- ---- what to lend

-- of a plan record and a width, in the order of a start: 1, or stage by stage 3; then 4, for the width alone: the row count that stands there is one that is taken
unfoldable pub needs_number : Plan → ℕ → ℕ
needs_number plan width = first_of (record_number plan ∷ size_number width 1 ∷ [])

abbrev pub needs_of_none : ℕ → Need
needs_of_none number = record { number = number; cells = 0; records = 0; ahead = 0 }

-- the answer: the number, and where it is 0 what the plan needs
unfoldable pub needs_of : Plan → ℕ → Need
needs_of plan width =
    cond (eqb (needs_number plan width) 0) (record { number = 0; cells = cells_needed plan width; records = records_needed plan width; ahead = plan_ahead plan }) (needs_of_none (needs_number plan width))

-- ---- a plan from numbers

-- "five bytes a stage: kind, left, right, up, down"; these stand from position `at` on
abbrev pub stage_out_of : List ℕ → ℕ → Stage
stage_out_of bytes at =
    record { kind = kind_of (get_or bytes at 0); left = get_or bytes (at + 1) 0; right = get_or bytes (at + 2) 0; up = get_or bytes (at + 3) 0; down = get_or bytes (at + 4) 0 }

abbrev pub stage_number : List ℕ → ℕ → ℕ
stage_number bytes at =
    first_of (kind_number_of (get_or bytes at 0) ∷ extent_number (get_or bytes (at + 1) 0 ∷ get_or bytes (at + 2) 0 ∷ get_or bytes (at + 3) 0 ∷ get_or bytes (at + 4) 0 ∷ []) ∷ [])

-- the stages that the bytes say, and "stage by stage 2, 3"
unfoldable pub stages_from : ℕ → List ℕ → List Stage
stages_from count bytes = tabulate count (λ i. stage_out_of bytes (i * 5))

unfoldable pub stages_number : ℕ → List ℕ → ℕ
stages_number count bytes = first_of (tabulate count (λ i. stage_number bytes (i * 5)))

-- "Order at the start: 1; then stage by stage 2, 3"
unfoldable pub plan_number : ℕ → List ℕ → ℕ
plan_number count bytes = first_of (count_number count ∷ stages_number count bytes ∷ [])

-- the answer: the number, and the plan where the number is 0. "a refused .. named plan or reading hands back all zeros, kind erosion"
abbrev pub reading_of : ℕ → Plan → Reading
reading_of number plan = record { number = number; plan = cond (eqb number 0) plan (plan_of []) }

unfoldable pub plan_read : ℕ → List ℕ → Reading
plan_read count bytes = reading_of (plan_number count bytes) (plan_of (stages_from count bytes))

-- ---- a plan from stages that stand apart, five numbers each

-- the stages that they say
unfoldable pub stages_given : List (List ℕ) → List Stage
stages_given stages = tabulate (length stages) (λ i. stage_out_of (get_or stages i []) 0)

-- 1, of how many there are; then stage by stage 2, 3
unfoldable pub given_number : List (List ℕ) → ℕ
given_number stages = first_of (count_number (length stages) ∷ first_of (tabulate (length stages) (λ i. stage_number (get_or stages i []) 0)) ∷ [])

-- the answer, as of a plan read from a count and bytes
unfoldable pub plan_given : List (List ℕ) → Reading
plan_given stages = reading_of (given_number stages) (plan_of (stages_given stages))

-- ---- named plans

abbrev pub extended : Kind → ℕ → ℕ → ℕ → ℕ → Stage
extended kind a b c d = record { kind = kind; left = a; right = b; up = c; down = d }

abbrev pub pair_stages : Kind → Kind → ℕ → ℕ → ℕ → ℕ → List Stage
pair_stages first second a b c d = extended first a b c d ∷ extended second a b c d ∷ []

-- "Opening: erosion, then dilation, same rectangle. Closing: dilation, then erosion."
abbrev pub opening_stages : ℕ → ℕ → ℕ → ℕ → List Stage
opening_stages a b c d = pair_stages Erosion Dilation a b c d

abbrev pub closing_stages : ℕ → ℕ → ℕ → ℕ → List Stage
closing_stages a b c d = pair_stages Dilation Erosion a b c d

-- "for i = 1 to n, opening then closing with all extents i; 4n stages"
abbrev pub sequence_stages : ℕ → List Stage
sequence_stages i = opening_stages i i i i ++ closing_stages i i i i

unfoldable pub alternating_stages : ℕ → List Stage
alternating_stages zero = []
alternating_stages (suc n) = alternating_stages n ++ sequence_stages (suc n)
