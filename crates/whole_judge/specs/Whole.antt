-- A plan applied to a whole lent picture, in place, with one lent row to work in: which calls are refused, and what a call answers and leaves. Grey bytes and floats have the same promise.
use Rattle.std.specs.Prelude.{◌≡◌, ◌≢◌, not, cond, ℕ, ◌*◌, ◌/◌, ◌%◌, eqb, ltb, length}
use mathlib.Core.List.{List, [], ◌∷◌, map, flatten}
use Rattle.morph.specs.Numbers.{given, first_of}
use Rattle.morph.specs.Picture.{Stage, apply_plan}
use Rattle.sample.specs.Samples.{Samples, first_bad}
use Rattle.plan_record.specs.Numbers.{size_number}
use Rattle.passes.specs.Flat.{flat_rows, UsedUpTo}
use Rattle.whole_judge.specs.declared.Filtered.{Filtered}

-- ---- the numbers

-- `plan` is the plan's own number, of a record (1; stage by stage 3) or of numbers (1; stage by stage 2, 3). Behind it come 4 for the size; 7, ".. row is not as long as the width", of all rows at once:
-- the picture has not `rows` times `width` pixels; and 6, "lent .. memory has fewer .. than needed": the lent row is shorter than the width.
unfoldable pub lent_judged : ℕ → ℕ → ℕ → ℕ → ℕ → ℕ
lent_judged plan width rows pixels places = first_of (plan ∷ size_number width rows ∷ given 7 (not (eqb pixels (rows * width))) ∷ given 6 (ltb places width) ∷ [])

-- The answer: that number, or else 8, "a pixel is not finite": "the first such column is named", and of a whole picture its row too. Other numbers name none.
unfoldable pub whole_said : {A : Type 0} → Samples A → ℕ → ℕ → List A → Filtered
whole_said K judged width picture =
    cond (eqb judged 0)
    (cond (ltb (first_bad K picture) (length picture))
    (record { number = 8; row = first_bad K picture / width; column = first_bad K picture % width })
    (record { number = 0; row = 0; column = 0 }))
    (record { number = judged; row = 0; column = 0 })

-- ---- what a call leaves

-- A refused call changes nothing. A call that is taken leaves in the picture's place the plan applied to the picture as it is read, row after row; and of the lent row it writes to the first `width` places alone.
module _ {A : Type 0} (K : Samples A) (Ss : List (Stage A)) (width rows : ℕ) (picture row picture' row' : List A) where
  pub record Changes : Type 0 where
    pub filtered : picture' ≡ flatten (apply_plan Ss (flat_rows width rows (map K.taken picture)))
    pub used : UsedUpTo width row row'

  pub record FiltersWhole (plan : ℕ) (r : Filtered) : Type 0 where
    pub told : r ≡ whole_said K (lent_judged plan width rows (length picture) (length row)) width picture
    pub refuses : r.number ≢ 0 → (picture' ≡ picture) × (row' ≡ row)
    pub filters : r.number ≡ 0 → Changes
