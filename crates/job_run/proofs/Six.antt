-- No answer ends with 6, so a run tells 6 where there is too little room and nowhere else. By which idea: an answer's number is the first of rules that have other numbers.
use mathlib.Core.Path.{◌≡◌, refl, sym, ◌∙◌}
use mathlib.Core.Bool.{Bool, true, false, not, ◌||◌}
use mathlib.Core.List.{List, [], ◌∷◌}
use Prim.Native.Nat.{ℕ, zero, suc, ◌+◌, ◌*◌, ◌<◌}
use native.Mathlib.Omega.{arith}
use borrow.Author.Tests.{eqb-false, ltb-true, ltb-false}
use lib.Dec.{eqb, ltb}
use lib.ListN.{length, get_or, drop}
use Rattle.morph.specs.Lists.{tabulate, all}
use Rattle.morph.specs.Numbers.{given, first_of, outside, kind_number_of, extent_number, is_extent_over}
use Rattle.morph.proofs.Lists.{split}
use Rattle.plan_record.specs.Numbers.{sample_number, size_number}
use Rattle.plan_record.specs.Plan.{count_number, stage_number, stages_number, cells_needed}
use Rattle.job_read.specs.declared.Job.{Job}
use Rattle.job_read.specs.Layout.{head_begins, width_from, rows_from, job_from}
use Rattle.job_read.specs.Job.{missing, plan_section_number, head_number, head_section_number}
use Rattle.answer.specs.Answer.{Coding, grey_rows, rate_rows, cells_number, opening_number, row_group_number, end_number, picture_number, answer_number, room_of}
use Rattle.job_run.specs.declared.JobRun.{JobRun}
use Rattle.job_run.specs.Run.{RunsJob}

-- ---- rules

abbrev Other : ℕ → Type 0
Other n = n ≡ 6 → ⊥

given_other : (n : ℕ) (broken : Bool) → eqb n 6 ≡ false → Other (given n broken)
given_other n true h e = eqb-false n 6 h e
given_other n false h e = omega arith

first_other : (a : ℕ) (l : List ℕ) → Other a → Other (first_of l) → Other (first_of (a ∷ l))
first_other zero l h k e = k e
first_other (suc a) l h k e = h e

none_other : Other (first_of [])
none_other e = omega arith

two_other : (a b : ℕ) → Other a → Other b → Other (first_of (a ∷ b ∷ []))
two_other a b h k = first_other a (b ∷ []) h (first_other b [] k none_other)

each_other : (count : ℕ) (f : ℕ → ℕ) → ((i : ℕ) → Other (f i)) → Other (first_of (tabulate count f))
each_other zero f h = none_other
each_other (suc count) f h = first_other (f 0) (tabulate count (λ i. f (suc i))) (h 0) (each_other count (λ i. f (suc i)) (λ i. h (suc i)))

-- ---- an answer's

missing_other : (n : ℕ) (bytes : List ℕ) → Other (missing n bytes)
missing_other n bytes = given_other 13 (ltb (length bytes) n) refl

stage_other : (bytes : List ℕ) (at : ℕ) → Other (stage_number bytes at)
stage_other bytes at =
    let extents = get_or bytes (at + 1) 0 ∷ get_or bytes (at + 2) 0 ∷ get_or bytes (at + 3) 0 ∷ get_or bytes (at + 4) 0 ∷ [] in
    two_other (kind_number_of (get_or bytes at 0)) (extent_number extents) (given_other 2 (ltb 1 (get_or bytes at 0)) refl) (given_other 3 (is_extent_over extents) refl)

stages_other : (count : ℕ) (bytes : List ℕ) → Other (stages_number count bytes)
unfolding stages_number
stages_other count bytes = each_other count (λ i. stage_number bytes (i * 5)) (λ i. stage_other bytes (i * 5))

plan_other : (bytes : List ℕ) → Other (plan_section_number bytes)
unfolding plan_section_number
plan_other bytes =
    let count = get_or bytes 0 0 in
    let stages = missing (head_begins count) bytes ∷ stages_number count (drop 1 bytes) ∷ [] in
    first_other (missing 1 bytes) (count_number count ∷ stages) (missing_other 1 bytes)
    (first_other (count_number count) stages (given_other 1 (outside 16 count) refl)
    (two_other (missing (head_begins count) bytes) (stages_number count (drop 1 bytes)) (missing_other (head_begins count) bytes) (stages_other count (drop 1 bytes))))

five_other : (head : List ℕ) → Other (head_number head)
unfolding head_number
five_other head =
    two_other (sample_number (get_or head 0 0)) (size_number (width_from head) (rows_from head))
    (given_other 5 (ltb 1 (get_or head 0 0)) refl)
    (given_other 4 (outside 4096 (width_from head) || outside 65535 (rows_from head)) refl)

head_other : (bytes : List ℕ) (at : ℕ) → Other (head_section_number bytes at)
unfolding head_section_number
head_other bytes at = two_other (missing (at + 5) bytes) (head_number (drop at bytes)) (missing_other (at + 5) bytes) (five_other (drop at bytes))

opening_other : (bytes : List ℕ) → Other (opening_number bytes)
unfolding opening_number
opening_other bytes =
    let head = head_section_number bytes (head_begins (get_or bytes 0 0)) in
    let cells = cells_number (job_from bytes).plan (job_from bytes).width in
    first_other (plan_section_number bytes) (head ∷ cells ∷ []) (plan_other bytes)
    (two_other head cells (head_other bytes (head_begins (get_or bytes 0 0))) (given_other 15 (ltb 4096 (cells_needed (job_from bytes).plan (job_from bytes).width)) refl))

module _ {A : Type 0} (C : Coding A) (width : ℕ) where
  row_other : (bytes : List ℕ) → Other (row_group_number C width bytes)
  row_other bytes =
      let broken = not (all C.samples.good (C.read width bytes)) in
      two_other (missing (width * C.size) bytes) (given 8 broken) (missing_other (width * C.size) bytes) (given_other 8 broken refl)

  end_other : (n : ℕ) (bytes : List ℕ) → Other (end_number C width n bytes)
  unfolding end_number
  end_other zero bytes = given_other 14 (ltb 0 (length bytes)) refl
  end_other (suc n) bytes =
      two_other (row_group_number C width bytes) (end_number C width n (drop (width * C.size) bytes)) (row_other bytes) (end_other n (drop (width * C.size) bytes))

picture_other : (job : Job) (bytes : List ℕ) → Other (picture_number job bytes)
picture_other job bytes =
    split (eqb job.sample 0)
    (λ e. rw e (end_other grey_rows job.width job.rows bytes))
    (λ e. rw e (end_other rate_rows job.width job.rows bytes))

pub answer_other : (bytes : List ℕ) → Other (answer_number bytes)
unfolding answer_number
answer_other bytes = two_other (opening_number bytes) (picture_number (job_from bytes) (drop (job_from bytes).at bytes)) (opening_other bytes) (picture_other (job_from bytes) (drop (job_from bytes).at bytes))

-- ---- a run's

pub six_short : {job out out' : List ℕ} {r : JobRun} → RunsJob job out out' r → r.number ≡ 6 → length out < room_of job
six_short {job} {out} {out'} {r} p e =
    split (ltb (length out) (room_of job))
    (λ h. ltb-true (length out) (room_of job) h)
    (λ h. absurd (answer_other job (sym (p.whole (ltb-false (length out) (room_of job) h)).1 ∙ e)))
