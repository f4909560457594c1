-- Inner: only contracts of inner functions, and proofs, cite what stands here; no promise of a public call is made of it.
-- How many bytes of a head have to be at hand, and the rest of an answer: what is still to be written, by the bytes that are still to come.
use Rattle.std.specs.Prelude.{cond, ℕ, ◌-◌, eqb, leb, get_or, drop}
use mathlib.Core.List.{List, [], ◌∷◌, ◌++◌, map, flatten}
use Rattle.morph.specs.Numbers.{first_of}
use Rattle.morph.specs.Picture.{Picture, apply_plan}
use Rattle.plan_record.specs.declared.Plan.{Plan}
use Rattle.plan_record.specs.Plan.{count_number, stages_of, plan_ahead}
use Rattle.job_read.specs.Layout.{head_begins, pixels_begin}
use Rattle.job_read.specs.Job.{missing, plan_section_number}
use Rattle.answer.specs.Answer.{Coding, rows_in, end_number, rows_due, framed, ending}

-- ---- the head

-- How many bytes of a job have to be at hand before its head is judged further: the count; with it the stages, once it is accepted; with them the image head, once they are.
unfoldable pub head_wants_of : List ℕ → ℕ
head_wants_of bytes =
    cond (eqb (plan_section_number bytes) 0) (pixels_begin (get_or bytes 0 0)) (cond (eqb (first_of (missing 1 bytes ∷ count_number (get_or bytes 0 0) ∷ [])) 0) (head_begins (get_or bytes 0 0)) 1)

-- ---- the rest of an answer

module _ {A : Type 0} (C : Coding A) (plan : Plan) (width rows : ℕ) where
  -- the rows of the whole run, once the rows p are read in t steps and these bytes are to come
  abbrev pub all_rows : ℕ → Picture A → List ℕ → Picture A
  all_rows t p bytes = p ++ rows_in C width (rows - t) bytes

  -- after t steps over the rows p: the rows due that are not yet written, and the end. `rest_first` proves that before the first step this is `rows_answer`.
  abbrev pub rest_answer : ℕ → Picture A → List ℕ → List ℕ
  rest_answer t p bytes =
      flatten (map (framed C) (drop (t - plan_ahead plan) (rows_due C plan rows (all_rows t p bytes)))) ++ ending (end_number C width (rows - t) bytes)

  -- what step t writes, where p are the rows read after it
  abbrev pub put_at : ℕ → Picture A → List ℕ
  put_at t p = cond (leb (plan_ahead plan) t) (framed C (get_or (apply_plan (stages_of C.samples.order plan) p) (t - plan_ahead plan) [])) []
