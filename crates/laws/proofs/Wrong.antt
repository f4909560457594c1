-- Laws that sound like those of specs/Laws.antt and are false, each with an example that shows it: those of the edits under must-fail/, and three that say where the laws end.
-- By which idea: both sides are computed. P is document 01's line.
use mathlib.Core.Path.{◌≡◌, refl, ap}
use mathlib.Core.Bool.{Bool, true, false, false≢true, true≢false}
use mathlib.Core.List.{[], ◌∷◌, ◌++◌, flatten}
use Prim.Native.Nat.{ℕ, ◌+◌}
use native.Mathlib.Omega.{arith}
use lib.Dec.{T}
use lib.IntN.{pos}
use lib.Ieee.{Float, nan, inf, fin, binary32, fits, lt, eq, le}
use lib.Ieee.Scale.{finite}
use Rattle.morph.specs.Grey.{grey}
use Rattle.morph.specs.Rate.{rate}
use Rattle.morph.specs.Picture.{Picture, pixel_at, erosion, dilation, opening, apply_stage, apply_plan}
use Rattle.sample.proofs.Floats.{positive_zero}
use Rattle.cases.specs.Table.{P, one_row}
use Rattle.laws.specs.Laws.{Below, Told, TwiceIsOnce}

-- `opened_above`: P's third pixel is 4, and 1 once P is opened
pub opened_above : ((a b c d : ℕ) → Below grey 8 1 (one_row P) (apply_plan (opening grey a b c d) (one_row P))) → ⊥
unfolding apply_plan apply_stage flatten
opened_above law = false≢true (law 1 2 0 0 0 2 (omega arith) (omega arith))

-- `dilation_sum_short`: P dilated with left 1, then with left 2 and right 1, begins with 4, and at once with left 1 and right 1 with 3
pub dilation_sum_short : ((a b c d a' b' c' d' : ℕ)
    → apply_stage (dilation grey a' b' c' d') (apply_stage (dilation grey a b c d) (one_row P)) ≡ apply_stage (dilation grey a (b + b') (c + c') (d + d')) (one_row P)) → ⊥
unfolding apply_stage flatten
dilation_sum_short law = let e : ◌≡◌ {A = ℕ} 4 3 = ap (λ p. pixel_at grey p 0 0) (law 1 0 0 0 2 1 0 0) in omega arith

-- `told_by_one_side`: 0 is at most 1
pub told_by_one_side : ((a b : ℕ) → Unit {0} → Unit {0} → grey.le a b ≡ true → grey.le a b ≡ true → a ≡ b) → ⊥
told_by_one_side law = let e = law 0 1 tt tt refl refl in omega arith

-- the zero that is not read: it and the positive one are each at most the other
abbrev minus : Float
minus = fin true 0 (pos 0)

abbrev signed : Float → Bool
signed nan = false
signed (inf s) = s
signed (fin s m e) = s

-- `negative_zero_told`
pub negative_zero_told : Told rate (λ x. T (fits binary32 x) × (finite x ≡ true)) → ⊥
unfolding fits le lt eq
negative_zero_told told = true≢false (ap signed (told minus positive_zero (tt, refl) (tt, refl) refl refl))

-- what the negative zero would do: of values that are alike the latest is taken, so an opening moves them to the left, and once more when it is done again
pub opening_twice_unread : ((a b c d : ℕ) (p : Picture Float) → TwiceIsOnce (opening rate a b c d) p) → ⊥
unfolding apply_plan apply_stage flatten le lt eq
opening_twice_unread law = true≢false (ap (λ q. signed (pixel_at rate q 0 0)) (law 0 1 0 0 ((minus ∷ positive_zero ∷ minus ∷ []) ∷ [])))

-- an opening whose dilation is not reflected: "P's fourth pixel comes out 2 where the input is 1"
pub not_reflected : ((a b c d : ℕ) → Below grey 8 1 (apply_plan (erosion grey a b c d ∷ dilation grey b a d c ∷ []) (one_row P)) (one_row P)) → ⊥
unfolding apply_plan apply_stage flatten
not_reflected law = false≢true (law 1 2 0 0 0 3 (omega arith) (omega arith))

-- two openings, and then both again: of a speck of four pixels the second opening takes one, and then the first can take another
pub openings_twice : ((a b c d a' b' c' d' : ℕ) (p : Picture ℕ) → TwiceIsOnce (opening grey a b c d ++ opening grey a' b' c' d') p) → ⊥
unfolding apply_plan apply_stage flatten
openings_twice law = let e : ◌≡◌ {A = ℕ} 0 1 = ap (λ p. pixel_at grey p 1 1) (law 1 0 0 0 0 0 1 0 ((0 ∷ 1 ∷ 1 ∷ []) ∷ (1 ∷ 1 ∷ 0 ∷ []) ∷ [])) in omega arith
