-- How much room an answer takes at most. By which idea: a picture that a plan makes is as wide and as high as the one it is made of.
use mathlib.Core.Path.{◌≡◌, refl, ap, ◌∙◌}
use mathlib.Core.Bool.{not}
use mathlib.Core.List.{List, [], ◌∷◌, map, flatten}
use Prim.Native.Nat.{ℕ, zero, suc, ◌+◌, ◌*◌, ◌≤◌}
use native.Mathlib.Nat.{mul-le-mul_right}
use native.Mathlib.Omega.{arith}
use borrow.Author.Tests.{ltb-false, eqb-true, eqb-false}
use lib.Dec.{eqb, ltb}
use lib.ListN.{length, get_or, drop, length-append, length-take, length-map}
use Rattle.morph.specs.Lists.{all}
use Rattle.morph.specs.Picture.{Picture, Wide, apply_plan}
use Rattle.morph.proofs.Lists.{split, each_take}
use Rattle.morph.proofs.Picture.{plan_wide}
use Rattle.plan_record.specs.declared.Plan.{Plan}
use Rattle.plan_record.specs.Plan.{stages_of}
use Rattle.morph.specs.Numbers.{given}
use Rattle.morph.proofs.Numbers.{first_zero, given_zero}
use Rattle.job_read.specs.declared.Job.{Job}
use Rattle.job_read.specs.Layout.{sample_bytes_of, row_bytes, head_begins, job_from}
use Rattle.job_read.specs.Job.{missing}
use Rattle.answer.specs.Answer.{Coding, grey_rows, rate_rows, row_group_number, rows_in, end_number, due_of, rows_due, framed, rows_answer, ending, opening_number, opening_bytes, picture_answer, answer_of, room_of}
use Rattle.answer.proofs.Codes.{Codes, grey_codes, rate_codes}
use Rattle.answer.proofs.Rest.{rows_few}

module _ {A : Type 0} (C : Coding A) (codes : Codes C) (plan : Plan) (width rows : ℕ) where
  -- a row that is read was all there
  pub row_there : (bytes : List ℕ) → row_group_number C width bytes ≡ 0 → width * C.size ≤ length bytes
  row_there bytes e = ltb-false (length bytes) (width * C.size) (given_zero 12 (ltb (length bytes) (width * C.size)) (first_zero (missing (width * C.size) bytes) (given 8 (not (all C.samples.good (C.read width bytes))) ∷ []) e).0)

  pub rows_wide : (n : ℕ) (bytes : List ℕ) → Wide width (rows_in C width n bytes)
  unfolding rows_in
  rows_wide zero bytes = tt
  rows_wide (suc n) bytes =
      let i = rows_wide n (drop (width * C.size) bytes) in
      split (eqb (row_group_number C width bytes) 0)
      (λ e. rw e (length-map (C.read width bytes) C.samples.taken ∙ codes.long width bytes (row_there bytes (eqb-true (row_group_number C width bytes) 0 e)), i))
      (λ e. rw e tt)

  pub frames_long : (p : Picture A) → Wide width p → length (flatten (map (framed C) p)) ≡ length p * (1 + width * C.size)
  unfolding flatten
  frames_long [] w = omega arith
  frames_long (row ∷ p) w =
      let i = frames_long p w.1 in
      let e = length-append (1 ∷ C.write row) (flatten (map (framed C) p)) in
      let k : length row * C.size ≡ width * C.size = ap (λ (n : ℕ). n * C.size) w.0 in
      omega (arith, codes.plain row)

  due_few : (n : ℕ) → n ≤ rows → due_of plan rows n ≤ rows
  due_few n h = split (eqb n rows) (λ e. rw e (omega arith)) (λ e. rw e (omega arith))

  pub rows_fit : (bytes : List ℕ) → length (rows_answer C plan width rows bytes) ≤ rows * (1 + width * C.size) + 2
  unfolding rows_answer
  rows_fit bytes =
      let p = rows_in C width rows bytes in
      let few = rows_few C plan width rows rows bytes in
      let q = apply_plan (stages_of C.samples.order plan) p in
      let d = rows_due C plan rows p in
      let w : Wide width d = each_take _ (due_of plan rows (length p)) q (plan_wide (stages_of C.samples.order plan) width p (rows_wide rows bytes)) in
      let n : length d ≤ rows = omega (arith, length-take (due_of plan rows (length p)) q, due_few (length p) few) in
      let m = mul-le-mul_right (1 + width * C.size) n in
      omega (arith, length-append (flatten (map (framed C) d)) (ending (end_number C width rows bytes)), frames_long d w)

-- ---- the whole answer

-- the bytes of a sample of a job that is not grey
four : (sample : ℕ) → (sample ≡ 0 → ⊥) → sample_bytes_of sample ≡ 4
four zero h = absurd (h refl)
four (suc n) h = refl

pub picture_fits : (job : Job) (bytes : List ℕ) → length (picture_answer job bytes) ≤ job.rows * (1 + row_bytes job) + 2
picture_fits job bytes =
    split (eqb job.sample 0)
    (λ e.
    let f = rows_fit grey_rows grey_codes job.plan job.width job.rows bytes in
    let z : sample_bytes_of job.sample ≡ 1 = ap sample_bytes_of (eqb-true job.sample 0 e) in
    rw (e, z) f)
    (λ e.
    let f = rows_fit rate_rows rate_codes job.plan job.width job.rows bytes in
    rw (e, four job.sample (eqb-false job.sample 0 e)) f)

pub answer_fits : (job : List ℕ) → length (answer_of job) ≤ room_of job
unfolding answer_of room_of
answer_fits job =
    split (eqb (opening_number job) 0)
    (λ e.
    let head = drop (head_begins (get_or job 0 0)) job in
    let p = picture_answer (job_from job) (drop (job_from job).at job) in
    let f = picture_fits (job_from job) (drop (job_from job).at job) in
    rw e (omega (arith, length-append (opening_bytes job) p, length-take 5 head)))
    (λ e. rw e (omega arith))
