-- The answer beside the reader of a whole job: what it holds where the reader accepts, and which number it ends with.
-- By which idea: the opening's number is the reader's with 15 where the rows stood, and the rows behind the head are judged as `rows_judged` has it.
use mathlib.Core.Path.{◌≡◌, refl, sym, ap, ◌∙◌, subst}
use mathlib.Core.Bool.{Bool, true, false, true≢false}
use mathlib.Core.List.{List, [], ◌∷◌, ◌++◌, map, flatten, append_assoc}
use mathlib.Core.Logic.{◌⊎◌, inl, inr, ⊎_elim}
use Prim.Native.Nat.{ℕ, zero, suc, ◌+◌, ◌-◌, ◌*◌, ◌≤◌, ◌<◌}
use native.Mathlib.Omega.{arith}
use borrow.Author.Tests.{le-ltb, eq-eqb, ne_eqb, eqb-true, eqb-false}
use lib.Dec.{eqb, ltb}
use lib.ListN.{length, get_or, take, drop, length-append, length-take, length-drop}
use lib.Seq.{get_or-append-add, take_all}
use lib.Ieee.Scale.{finite}
use Rattle.morph.specs.Lists.{all}
use Rattle.morph.specs.Grey.{grey}
use Rattle.morph.specs.Rate.{rate}
use Rattle.morph.specs.Picture.{Picture, Wide, apply_plan}
use Rattle.morph.proofs.Lists.{split, length_tabulate}
use Rattle.morph.proofs.Picture.{plan_length, plan_wide}
use Rattle.morph.specs.Numbers.{given, first_of}
use Rattle.morph.proofs.Numbers.{first_one, first_skip, first_found, first_zero}
use Rattle.plan_record.specs.Plan.{stages_of, cells_needed}
use Rattle.sample.specs.Bytes.{bytes_of_row}
use Rattle.job_read.specs.declared.Job.{Job}
use Rattle.job_read.specs.Layout.{sample_bytes_of, row_bytes, head_begins, job_from}
use Rattle.job_read.specs.Job.{plan_section_number, head_section_number, rows_number, job_number}
use Rattle.job_read.proofs.Sections.{head_section_there, rows_there, job_rows, job_there}
use Rattle.answer.specs.Answer.{cells_number, opening_number, opening_bytes, ending, Coding, grey_rows, rate_rows, rows_in, end_number, due_of, rows_due, framed, rows_answer, picture_answer, answer_of, picture_number, answer_number, row_of, picture_of, BadRow, room_of}
use Rattle.answer.proofs.Codes.{Codes, grey_codes, rate_codes}
use Rattle.answer.proofs.Room.{rows_wide, frames_long}
use Rattle.answer.proofs.Rows.{length_number, rows_judged, rows_full}

-- ---- an answer by its head

module _ (bytes : List ℕ) where
  abbrev job : Job
  job = job_from bytes

  abbrev pixels : List ℕ
  pixels = drop (job_from bytes).at bytes

  module _ (taken : opening_number bytes ≡ 0) where
    pub answer_accepted : answer_of bytes ≡ opening_bytes bytes ++ picture_answer (job_from bytes) (drop (job_from bytes).at bytes)
    unfolding answer_of
    answer_accepted = rw (eq-eqb (opening_number bytes) 0 taken)

    pub number_accepted : answer_number bytes ≡ picture_number (job_from bytes) (drop (job_from bytes).at bytes)
    unfolding answer_number
    number_accepted = first_skip (opening_number bytes) (picture_number job pixels ∷ []) taken ∙ first_one (picture_number job pixels)

    -- "byte 2 and the image head's five bytes"
    pub answer_begins : get_or (answer_of bytes) 0 0 ≡ 2
    answer_begins = ap (λ l. get_or l 0 0) answer_accepted

  module _ (refused : opening_number bytes ≡ 0 → ⊥) where
    pub answer_stops : answer_of bytes ≡ ending (opening_number bytes)
    unfolding answer_of
    answer_stops = rw (ne_eqb (opening_number bytes) 0 refused)

    pub number_stops : answer_number bytes ≡ opening_number bytes
    unfolding answer_number
    number_stops = first_found (opening_number bytes) (picture_number job pixels ∷ []) refused

    -- "A head refusal writes only 0 and the number."
    pub answer_short : length (answer_of bytes) ≡ 2
    answer_short = ap length answer_stops

-- ---- the end of an answer

picture_ends : (job : Job) (bytes : List ℕ) → (front : List ℕ) × (picture_answer job bytes ≡ front ++ ending (picture_number job bytes))
unfolding rows_answer
picture_ends job bytes =
    split (eqb job.sample 0)
    (λ e. rw e (flatten (map (framed grey_rows) (rows_due grey_rows job.plan job.rows (rows_in grey_rows job.width job.rows bytes))), refl))
    (λ e. rw e (flatten (map (framed rate_rows) (rows_due rate_rows job.plan job.rows (rows_in rate_rows job.width job.rows bytes))), refl))

-- every answer ends with 0 and its number
pub answer_ends : (bytes : List ℕ) → (front : List ℕ) × (answer_of bytes ≡ front ++ ending (answer_number bytes))
answer_ends bytes =
    split (eqb (opening_number bytes) 0)
    (λ e.
    let z = eqb-true (opening_number bytes) 0 e in
    let (front, f) = picture_ends (job_from bytes) (drop (job_from bytes).at bytes) in (
      opening_bytes bytes ++ front,
      answer_accepted bytes z ∙ ap (λ l. opening_bytes bytes ++ l) f
          ∙ sym (append_assoc (opening_bytes bytes) front (ending (picture_number (job_from bytes) (drop (job_from bytes).at bytes))))
          ∙ ap (λ (n : ℕ). (opening_bytes bytes ++ front) ++ ending n) (sym (number_accepted bytes z)),
    ))
    (λ e. let h = eqb-false (opening_number bytes) 0 e in ([], answer_stops bytes h ∙ ap ending (sym (number_stops bytes h))))

pub answer_long : (bytes : List ℕ) → 2 ≤ length (answer_of bytes)
answer_long bytes = let (front, f) = answer_ends bytes in omega (arith, ap length f, length-append front (ending (answer_number bytes)))

pub answer_last : (bytes : List ℕ) → get_or (answer_of bytes) (length (answer_of bytes) - 1) 0 ≡ answer_number bytes
answer_last bytes =
    let (front, f) = answer_ends bytes in
    let n : length (answer_of bytes) - 1 ≡ length front + 1 = omega (arith, ap length f, length-append front (ending (answer_number bytes))) in
    ap (λ (i : ℕ). get_or (answer_of bytes) i 0) n ∙ ap (λ l. get_or l (length front + 1) 0) f ∙ get_or-append-add front (ending (answer_number bytes)) 1 0

-- ---- the two kinds of rows

-- the rows of a job are in this coding
pub record CodedBy {A : Type 0} (C : Coding A) (job : Job) : Type 0 where
  pub bytes_long : C.size ≡ sample_bytes_of job.sample
  pub answer : (bytes : List ℕ) → picture_answer job bytes ≡ rows_answer C job.plan job.width job.rows bytes
  pub number : (bytes : List ℕ) → picture_number job bytes ≡ end_number C job.width job.rows bytes

pub grey_coded : (job : Job) → job.sample ≡ 0 → CodedBy grey_rows job
grey_coded job e = record { bytes_long = ap sample_bytes_of (sym e); answer = λ bytes. rw e refl; number = λ bytes. rw e refl }

pub rate_coded : (job : Job) → job.sample ≡ 1 → CodedBy rate_rows job
rate_coded job e = record { bytes_long = ap sample_bytes_of (sym e); answer = λ bytes. rw e refl; number = λ bytes. rw e refl }

-- ---- a head that is accepted

module _ (bytes : List ℕ) where
  abbrev head_no : ℕ
  head_no = head_section_number bytes (head_begins (get_or bytes 0 0))

  abbrev cells_no : ℕ
  cells_no = cells_number (job_from bytes).plan (job_from bytes).width

  opened : plan_section_number bytes ≡ 0 → head_no ≡ 0 → opening_number bytes ≡ cells_no
  unfolding opening_number
  opened p h = first_skip (plan_section_number bytes) (head_no ∷ cells_no ∷ []) p ∙ first_skip head_no (cells_no ∷ []) h ∙ first_one cells_no

  at_there : head_no ≡ 0 → (job_from bytes).at ≤ length bytes
  unfolding job_from
  at_there h = (head_section_there bytes (head_begins (get_or bytes 0 0)) h).0

-- ---- the answer to a whole job

module _ {A : Type 0} (C : Coding A) (bytes : List ℕ) (coded : CodedBy C (job_from bytes)) where
  abbrev J : Job
  J = job_from bytes

  abbrev row_size_of : ℕ
  row_size_of = J.width * C.size

  same_size : J.rows * row_size_of ≡ J.rows * row_bytes J
  same_size = ap (λ (n : ℕ). J.rows * (J.width * n)) coded.bytes_long

  module _ (accepted : job_number bytes ≡ 0) (good : (y : ℕ) → y < J.rows → all C.samples.good (row_of C J bytes y) ≡ true) where
    full_long : length bytes ≡ J.at + J.rows * row_size_of
    full_long = let e = same_size in omega (arith, rows_there bytes J (job_there bytes accepted).2)

    full_rows : rows_in C J.width J.rows (drop J.at bytes) ≡ picture_of C J bytes
    full_rows = rows_full C J.plan J.width J.rows bytes J.rows J.at (omega (arith, full_long)) good

    full_end : end_number C J.width J.rows (drop J.at bytes) ≡ 0
    full_end =
        let l = full_long in
        let n : length_number (J.at + J.rows * row_size_of) bytes ≡ 0 =
        simp (le-ltb (length bytes) (J.at + J.rows * row_size_of) (omega arith), le-ltb (J.at + J.rows * row_size_of) (length bytes) (omega arith)) in
        ⊎_elim (λ ((y, h, _, b), _). absurd (true≢false (sym (good y h) ∙ b))) (λ (_, q). q ∙ n)
        (rows_judged C J.plan J.width J.rows bytes J.rows J.at (at_there bytes (job_there bytes accepted).1))

    full_due : rows_due C J.plan J.rows (picture_of C J bytes) ≡ apply_plan (stages_of C.samples.order J.plan) (picture_of C J bytes)
    full_due =
        let n = length_tabulate J.rows (λ y. map C.samples.taken (row_of C J bytes y)) in
        let d : due_of J.plan J.rows (length (picture_of C J bytes)) ≡ J.rows = rw (eq-eqb (length (picture_of C J bytes)) J.rows n) refl in
        ap (λ (k : ℕ). take k (apply_plan (stages_of C.samples.order J.plan) (picture_of C J bytes))) d
        ∙ take_all J.rows (apply_plan (stages_of C.samples.order J.plan) (picture_of C J bytes)) (omega (arith, plan_length (stages_of C.samples.order J.plan) (picture_of C J bytes), n))

    -- every row of the filtered picture, and 0 at the end
    pub answer_full : cells_number J.plan J.width ≡ 0
        → answer_of bytes
        ≡ opening_bytes bytes ++ flatten (map (framed C) (apply_plan (stages_of C.samples.order J.plan) (picture_of C J bytes))) ++ ending 0
    unfolding rows_answer
    answer_full few =
        let (p, h, _) = job_there bytes accepted in
        let F : Picture A → List ℕ = λ q. flatten (map (framed C) q) in
        let e = end_number C J.width J.rows (drop J.at bytes) in
        answer_accepted bytes (opened bytes p h ∙ few) ∙ ap (λ l. opening_bytes bytes ++ l) (coded.answer (drop J.at bytes)
        ∙ ap (λ q. F (rows_due C J.plan J.rows q) ++ ending e) full_rows ∙ ap (λ q. F q ++ ending e) full_due
        ∙ ap (λ (n : ℕ). F (apply_plan (stages_of C.samples.order J.plan) (picture_of C J bytes)) ++ ending n) full_end)
        ∙ sym (append_assoc (opening_bytes bytes) (F (apply_plan (stages_of C.samples.order J.plan) (picture_of C J bytes))) (ending 0))

    -- and just as long as `room_of` says
    pub answer_room : Codes C → cells_number J.plan J.width ≡ 0 → length (answer_of bytes) ≡ room_of bytes
    unfolding room_of
    answer_room codes few =
        let (p, h, _) = job_there bytes accepted in
        let P = picture_of C J bytes in
        let Q = apply_plan (stages_of C.samples.order J.plan) P in
        let w : Wide J.width P = subst (Wide J.width) full_rows (rows_wide C codes J.plan J.width J.rows J.rows (drop J.at bytes)) in
        let l = frames_long C codes J.plan J.width J.rows Q (plan_wide (stages_of C.samples.order J.plan) J.width P w) in
        let n : length Q ≡ J.rows = plan_length (stages_of C.samples.order J.plan) P ∙ length_tabulate J.rows (λ y. map C.samples.taken (row_of C J bytes y)) in
        let m : length Q * (1 + row_size_of) ≡ J.rows * (1 + row_size_of) = ap (λ (k : ℕ). k * (1 + row_size_of)) n in
        let head = drop (head_begins (get_or bytes 0 0)) bytes in
        let F = flatten (map (framed C) Q) in
        let s = same_size in
        ap length (answer_full few)
        ∙ rw (eq-eqb (opening_number bytes) 0 (opened bytes p h ∙ few))
        (omega (arith, length-append (opening_bytes bytes ++ F) (ending 0), length-append (opening_bytes bytes) F, length-take 5 head, length-drop (head_begins (get_or bytes 0 0)) bytes, (head_section_there bytes (head_begins (get_or bytes 0 0)) h).0))

  -- ---- the number beside the reader's

  -- Of a head that is accepted: 8 where a row that is all there is bad, be rows after it missing or not; else what the reader of the whole job says, 13 or 14 or 0.
  pub answer_number_law : plan_section_number bytes ≡ 0 → head_section_number bytes (head_begins (get_or bytes 0 0)) ≡ 0 → cells_number J.plan J.width ≡ 0
      → (BadRow C J bytes × (answer_number bytes ≡ 8)) ⊎ ((BadRow C J bytes → ⊥) × (answer_number bytes ≡ job_number bytes))
  unfolding rows_number
  answer_number_law p h few =
      let e : answer_number bytes ≡ end_number C J.width J.rows (drop J.at bytes) = number_accepted bytes (opened bytes p h ∙ few) ∙ coded.number (drop J.at bytes) in
      ⊎_elim (λ (b, q). inl (b, e ∙ q)) (λ (b, q). inr (b, e ∙ q ∙ ap (λ (n : ℕ). length_number (J.at + n) bytes) same_size ∙ job_rows bytes p h refl))
      (rows_judged C J.plan J.width J.rows bytes J.rows J.at (at_there bytes h))

-- ---- the same of the two kinds

all_grey : (row : List ℕ) → all grey_rows.samples.good row ≡ true
all_grey [] = refl
all_grey (a ∷ row) = all_grey row

-- the first of three, where one of the first two is broken
first_either : (a b c d : ℕ) → ((a ≡ 0) × (b ≡ 0) → ⊥) → first_of (a ∷ b ∷ c ∷ []) ≡ first_of (a ∷ b ∷ d ∷ [])
first_either zero zero c d h = absurd (h (refl, refl))
first_either zero (suc b) c d h = refl
first_either (suc a) b c d h = refl

first_some : (a b c : ℕ) → ((a ≡ 0) × (b ≡ 0) → ⊥) → first_of (a ∷ b ∷ c ∷ []) ≡ 0 → ⊥
first_some a b c h z = let (p, q) = first_zero a (b ∷ c ∷ []) z in h (p, (first_zero b (c ∷ []) q).0)

given_some : (n : ℕ) (b : Bool) → (given n b ≡ 0 → ⊥) → given n b ≡ n
given_some n true h = refl
given_some n false h = absurd (h refl)

module _ (bytes : List ℕ) where
  pub answer_full_grey : job_number bytes ≡ 0 → cells_number (job_from bytes).plan (job_from bytes).width ≡ 0 → (job_from bytes).sample ≡ 0
      → answer_of bytes ≡ opening_bytes bytes ++ flatten (map (λ row. 1 ∷ row) (apply_plan (stages_of grey (job_from bytes).plan) (picture_of grey_rows (job_from bytes) bytes))) ++ ending 0
  answer_full_grey j c k = answer_full grey_rows bytes (grey_coded (job_from bytes) k) j (λ y h. all_grey (row_of grey_rows (job_from bytes) bytes y)) c

  pub answer_full_rate : job_number bytes ≡ 0 → cells_number (job_from bytes).plan (job_from bytes).width ≡ 0 → (job_from bytes).sample ≡ 1 → ((y : ℕ) → y < (job_from bytes).rows → all finite (row_of rate_rows (job_from bytes) bytes y) ≡ true)
      → answer_of bytes ≡ opening_bytes bytes ++ flatten (map (λ row. 1 ∷ bytes_of_row row) (apply_plan (stages_of rate (job_from bytes).plan) (picture_of rate_rows (job_from bytes) bytes))) ++ ending 0
  answer_full_rate j c k good = answer_full rate_rows bytes (rate_coded (job_from bytes) k) j good c

  -- a section that the reader refuses
  pub answer_number_sections : ((plan_section_number bytes ≡ 0) × (head_section_number bytes (head_begins (get_or bytes 0 0)) ≡ 0) → ⊥) → answer_of bytes ≡ ending (job_number bytes)
  unfolding opening_number job_number
  answer_number_sections h =
      let c = cells_number (job_from bytes).plan (job_from bytes).width in
      answer_stops bytes (first_some (plan_section_number bytes) (head_no bytes) c h) ∙ ap ending (first_either (plan_section_number bytes) (head_no bytes) c (rows_number bytes (job_from bytes)) h)

  -- "15 | the program's job needs over 4,096 cells over all stages": before any row, and whatever the reader says of the rows
  pub answer_number_cells : plan_section_number bytes ≡ 0 → head_section_number bytes (head_begins (get_or bytes 0 0)) ≡ 0 → (cells_number (job_from bytes).plan (job_from bytes).width ≡ 0 → ⊥) → answer_of bytes ≡ ending 15
  answer_number_cells p h n =
      let o = opened bytes p h in
      answer_stops bytes (λ z. n (sym o ∙ z)) ∙ ap ending (o ∙ given_some 15 (ltb 4096 (cells_needed (job_from bytes).plan (job_from bytes).width)) n)

  -- "8 | a pixel is not finite" is never told of a grey job
  pub answer_number_grey : plan_section_number bytes ≡ 0 → head_section_number bytes (head_begins (get_or bytes 0 0)) ≡ 0 → cells_number (job_from bytes).plan (job_from bytes).width ≡ 0 → (job_from bytes).sample ≡ 0 → answer_number bytes ≡ job_number bytes
  answer_number_grey p h c k =
      ⊎_elim (λ ((y, _, _, b), _). absurd (true≢false (sym (all_grey (row_of grey_rows (job_from bytes) bytes y)) ∙ b))) (λ (_, q). q) (answer_number_law grey_rows bytes (grey_coded (job_from bytes) k) p h c)

  pub answer_number_rate : plan_section_number bytes ≡ 0 → head_section_number bytes (head_begins (get_or bytes 0 0)) ≡ 0 → cells_number (job_from bytes).plan (job_from bytes).width ≡ 0
      → (job_from bytes).sample ≡ 1
      → (BadRow rate_rows (job_from bytes) bytes × (answer_number bytes ≡ 8)) ⊎ ((BadRow rate_rows (job_from bytes) bytes → ⊥) × (answer_number bytes ≡ job_number bytes))
  answer_number_rate p h c k = answer_number_law rate_rows bytes (rate_coded (job_from bytes) k) p h c

  -- the room of a whole job is just its answer's length
  pub answer_room_grey : job_number bytes ≡ 0 → cells_number (job_from bytes).plan (job_from bytes).width ≡ 0 → (job_from bytes).sample ≡ 0 → length (answer_of bytes) ≡ room_of bytes
  answer_room_grey j c k = answer_room grey_rows bytes (grey_coded (job_from bytes) k) j (λ y h. all_grey (row_of grey_rows (job_from bytes) bytes y)) grey_codes c

  pub answer_room_rate : job_number bytes ≡ 0 → cells_number (job_from bytes).plan (job_from bytes).width ≡ 0 → (job_from bytes).sample ≡ 1
      → ((y : ℕ) → y < (job_from bytes).rows → all finite (row_of rate_rows (job_from bytes) bytes y) ≡ true) → length (answer_of bytes) ≡ room_of bytes
  answer_room_rate j c k good = answer_room rate_rows bytes (rate_coded (job_from bytes) k) j good rate_codes c
