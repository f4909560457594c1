-- Laws of the readers: the number of each group by its tests, and what holds where a group is accepted.
use mathlib.Core.Path.{◌≡◌, refl, sym, ap, ◌∙◌}
use mathlib.Core.List.{List, [], ◌∷◌, ◌++◌}
use Prim.Native.Nat.{ℕ, zero, suc, ◌+◌, ◌-◌, ◌*◌, ◌≤◌, ◌<◌}
use native.Mathlib.Omega.{arith}
use borrow.Author.Tests.{lt-ltb, le-ltb, eq-eqb, ne_eqb, ltb-false, eqb-true}
use lib.Dec.{eqb, ltb}
use lib.ListN.{length, get_or, take, drop, length-drop, get_or-append}
use lib.Seq.{get_or-take, length-take-le}
use Rattle.morph.proofs.Lists.{split, length_tabulate, tabulate_ext}
use Rattle.morph.specs.Numbers.{given, first_of}
use Rattle.morph.proofs.Numbers.{first_one, first_zero, given_zero, skip, found}
use Rattle.std.specs.Prelude.{Result, Ok, Err}
use Rattle.std.specs.Result.{IsErrAnd}
use Rattle.morph.specs.declared.refusal.Refusal.{Refusal}
use Rattle.morph.specs.Refusals.{refusal_number}
use Rattle.plan_record.proofs.Exits.{refused_some}
use Rattle.plan_record.specs.declared.Plan.{Plan}
use Rattle.plan_record.specs.declared.Reading.{Reading}
use Rattle.plan_record.specs.Numbers.{sample_number, size_number}
use Rattle.plan_record.specs.Plan.{plan_of, count_number, stage_number, stage_out_of, stages_from, stages_number, plan_number, plan_read, reading_of}
use Rattle.plan_record.specs.Inner.{reading_as}
use Rattle.plan_record.proofs.Numbers.{size_accepted}
use Rattle.plan_record.proofs.Laws.{refused_answer, reading_refused, count_accepted}
use Rattle.plan_record.proofs.Named.{counted}
use Rattle.job_read.specs.declared.Job.{Job}
use Rattle.job_read.specs.declared.Head.{Head}
use Rattle.job_read.specs.declared.Image.{Image}
use Rattle.job_read.specs.Inner.{head_as, read_as, front_number}
use Rattle.job_read.specs.Layout.{row_bytes, head_begins, width_from, rows_from, job_from}
use Rattle.job_read.specs.Job.{missing, plan_section_number, plan_section_of, head_number, head_answered, head_section_number, rows_number, job_number, job_answered, job_read_of}

-- a rule that is broken decides, whatever comes behind
pub first_front : (l m : List ℕ) → (first_of l ≡ 0 → ⊥) → first_of (l ++ m) ≡ first_of l
first_front [] m h = absurd (h refl)
first_front (zero ∷ l) m h = first_front l m h
first_front (suc n ∷ l) m h = refl

-- ---- bytes that are there

present : (n : ℕ) (bytes : List ℕ) → n ≤ length bytes → missing n bytes ≡ 0
present n bytes h = simp (le-ltb (length bytes) n h)

absent : (n : ℕ) (bytes : List ℕ) → length bytes < n → 13 ≡ missing n bytes
absent n bytes h = simp (lt-ltb (length bytes) n h)

there : (n : ℕ) (bytes : List ℕ) → missing n bytes ≡ 0 → n ≤ length bytes
there n bytes e = ltb-false (length bytes) n (given_zero 12 (ltb (length bytes) n) e)

-- ---- the plan section

module _ (bytes : List ℕ) where
  abbrev count : ℕ
  count = get_or bytes 0 0

  stages : ℕ
  stages = stages_number count (drop 1 bytes)

  after_count : List ℕ
  after_count = missing (head_begins count) bytes ∷ stages_number count (drop 1 bytes) ∷ []

  pub section_empty : length bytes < 1 → 13 ≡ plan_section_number bytes
  unfolding plan_section_number after_count
  section_empty h = found (missing 1 bytes) (count_number count ∷ after_count) (absent 1 bytes h) (λ z. omega arith)

  module _ (some : 1 ≤ length bytes) where
    pub section_count : {n : ℕ} → n ≡ count_number count → (n ≡ 0 → ⊥) → n ≡ plan_section_number bytes
    unfolding plan_section_number after_count
    section_count e h = skip (missing 1 bytes) (count_number count ∷ after_count) (present 1 bytes some) (found (count_number count) after_count e h)

    module _ (few : count_number count ≡ 0) where
      pub section_missing : length bytes < head_begins count → 13 ≡ plan_section_number bytes
      unfolding plan_section_number after_count
      section_missing h =
          skip (missing 1 bytes) (count_number count ∷ after_count) (present 1 bytes some)
          (skip (count_number count) after_count few (found (missing (head_begins count) bytes) (stages_number count (drop 1 bytes) ∷ []) (absent (head_begins count) bytes h) (λ z. omega arith)))

      pub section_stages : head_begins count ≤ length bytes → stages_number count (drop 1 bytes) ≡ plan_section_number bytes
      unfolding plan_section_number after_count
      section_stages h =
          skip (missing 1 bytes) (count_number count ∷ after_count) (present 1 bytes some)
          (skip (count_number count) after_count few
          (skip (missing (head_begins count) bytes) (stages_number count (drop 1 bytes) ∷ []) (present (head_begins count) bytes h) (sym (first_one (stages_number count (drop 1 bytes))))))

  pub record PlanThere : Type 0 where
    pub some : 1 ≤ length bytes
    pub few : count_number count ≡ 0
    pub whole : head_begins count ≤ length bytes
    pub judged : stages_number count (drop 1 bytes) ≡ 0

  pub plan_there : plan_section_number bytes ≡ 0 → PlanThere
  unfolding plan_section_number
  plan_there e =
      let a = first_zero (missing 1 bytes) (count_number count ∷ missing (head_begins count) bytes ∷ stages_number count (drop 1 bytes) ∷ []) e in
      let b = first_zero (count_number count) (missing (head_begins count) bytes ∷ stages_number count (drop 1 bytes) ∷ []) a.1 in
      let c = first_zero (missing (head_begins count) bytes) (stages_number count (drop 1 bytes) ∷ []) b.1 in
      record { some = there 1 bytes a.0; few = b.0; whole = there (head_begins count) bytes c.0; judged = sym (first_one (stages_number count (drop 1 bytes))) ∙ c.1 }

-- the stages are read from their own bytes alone

module _ (count : ℕ) (xs ys : List ℕ) (agree : (k : ℕ) → k < count * 5 → get_or xs k 0 ≡ get_or ys k 0) where
  module _ (i : ℕ) (h : i < count) where
    same_stage : stage_out_of xs (i * 5) ≡ stage_out_of ys (i * 5)
    same_stage =
        cc (agree (i * 5) (omega arith), agree (i * 5 + 1) (omega arith), agree (i * 5 + 2) (omega arith), agree (i * 5 + 3) (omega arith), agree (i * 5 + 4) (omega arith))

    same_number : stage_number xs (i * 5) ≡ stage_number ys (i * 5)
    same_number =
        cc (agree (i * 5) (omega arith), agree (i * 5 + 1) (omega arith), agree (i * 5 + 2) (omega arith), agree (i * 5 + 3) (omega arith), agree (i * 5 + 4) (omega arith))

  pub same_stages : stages_from count xs ≡ stages_from count ys
  unfolding stages_from
  same_stages = tabulate_ext count (λ i. stage_out_of xs (i * 5)) (λ i. stage_out_of ys (i * 5)) same_stage

  pub same_numbers : stages_number count xs ≡ stages_number count ys
  unfolding stages_number
  same_numbers = ap first_of (tabulate_ext count (λ i. stage_number xs (i * 5)) (λ i. stage_number ys (i * 5)) same_number)

module _ (bytes : List ℕ) {part : List ℕ} (some : 1 ≤ length bytes) (few : count_number (get_or bytes 0 0) ≡ 0) (whole : head_begins (get_or bytes 0 0) ≤ length bytes)
    (e : part ≡ take (get_or bytes 0 0 * 5) (drop 1 bytes)) where
  agree : (pad : List ℕ) (k : ℕ) → k < get_or bytes 0 0 * 5 → get_or (part ++ pad) k 0 ≡ get_or (drop 1 bytes) k 0
  agree pad k h =
      let l : length part ≡ get_or bytes 0 0 * 5 = ap length e ∙ length-take-le (get_or bytes 0 0 * 5) (drop 1 bytes) (omega (arith, length-drop 1 bytes)) in
      get_or-append part pad 0 k (omega arith) ∙ ap (λ l. get_or l k 0) e ∙ get_or-take (get_or bytes 0 0 * 5) (drop 1 bytes) k 0 h

  pub section_read : {r : Reading} (pad : List ℕ) → r ≡ plan_read (get_or bytes 0 0) (part ++ pad) → r ≡ plan_section_of bytes
  unfolding plan_read plan_section_of plan_number
  section_read {r} pad q =
      let c = get_or bytes 0 0 in
      let n : stages_number c (part ++ pad) ≡ stages_number c (drop 1 bytes) = same_numbers c (part ++ pad) (drop 1 bytes) (agree pad) in
      let m : plan_section_number bytes ≡ plan_number c (part ++ pad) = count_accepted c (stages_number c (part ++ pad)) (sym few) refl (sym (section_stages bytes some few whole) ∙ sym n) in
      let s : stages_from c (part ++ pad) ≡ stages_from c (drop 1 bytes) = same_stages c (part ++ pad) (drop 1 bytes) (agree pad) in
      q ∙ ap (λ (m : ℕ). reading_of m (plan_of (stages_from c (part ++ pad)))) (sym m) ∙ ap (λ ss. reading_of (plan_section_number bytes) (plan_of ss)) s

pub section_refused : (bytes : List ℕ) {n : ℕ} → n ≡ plan_section_number bytes → (n ≡ 0 → ⊥) → record { number = n; plan = plan_of [] } ≡ plan_section_of bytes
unfolding plan_section_of
section_refused bytes q h = refused_answer (plan_of (stages_from (get_or bytes 0 0) (drop 1 bytes))) refl q h

pub section_up : (bytes : List ℕ) (why : Refusal) (r : Result Plan Refusal) → IsErrAnd r (λ e. e ≡ why) → refusal_number why ≡ plan_section_number bytes → reading_as r ≡ plan_section_of bytes
unfolding plan_section_of
section_up bytes why r h e = reading_refused (plan_of (stages_from (get_or bytes 0 0) (drop 1 bytes))) why r h e

-- ---- the image head

pub head_refused : (head : List ℕ) {r : Head} {n m : ℕ} → r ≡ record { number = n; sample = 0; width = 0; rows = 0 } → n ≡ m → (n ≡ 0 → ⊥) → r ≡ head_answered m head
head_refused head {r} {n} {m} e q h = e ∙ (let f = ne_eqb n 0 h in cc)

pub head_up : (head : List ℕ) (why : Refusal) (r : Result Image Refusal) {m : ℕ} → IsErrAnd r (λ e. e ≡ why) → refusal_number why ≡ m → head_as r ≡ head_answered m head
head_up head why (Ok _) h e = absurd h
head_up head why (Err x) h e = head_refused head refl (ap refusal_number h ∙ e) (refused_some x)

pub head_accepted : (head : List ℕ) {m s w h : ℕ} → m ≡ 0 → s ≡ get_or head 0 0 → w ≡ width_from head → h ≡ rows_from head → record { number = 0; sample = s; width = w; rows = h } ≡ head_answered m head
head_accepted head {m} z p q r = let f = eq-eqb m 0 z in cc

module _ (head : List ℕ) where
  pub head_sample : {n : ℕ} → n ≡ sample_number (get_or head 0 0) → (n ≡ 0 → ⊥) → n ≡ head_number head
  unfolding head_number
  head_sample e h = found (sample_number (get_or head 0 0)) (size_number (width_from head) (rows_from head) ∷ []) e h

  pub head_size : {n w h : ℕ} → sample_number (get_or head 0 0) ≡ 0 → w ≡ width_from head → h ≡ rows_from head → n ≡ size_number w h → n ≡ head_number head
  unfolding head_number
  head_size {n} {w} {h} k p q e =
      skip (sample_number (get_or head 0 0)) (size_number (width_from head) (rows_from head) ∷ []) k
      (e ∙ ap (λ (w : ℕ). size_number w h) p ∙ ap (λ (h : ℕ). size_number (width_from head) h) q ∙ sym (first_one (size_number (width_from head) (rows_from head))))

pub record HeadThere (head : List ℕ) : Type 0 where
  pub known : get_or head 0 0 ≤ 1
  pub some_width : 1 ≤ width_from head
  pub width : width_from head ≤ 4096
  pub some_rows : 1 ≤ rows_from head
  pub rows : rows_from head ≤ 65535

pub head_there : (head : List ℕ) → head_number head ≡ 0 → HeadThere head
unfolding head_number
head_there head e =
    let a = first_zero (sample_number (get_or head 0 0)) (size_number (width_from head) (rows_from head) ∷ []) e in
    let s = size_accepted (width_from head) (rows_from head) (sym (first_one (size_number (width_from head) (rows_from head))) ∙ a.1) in
    record { known = ltb-false 1 (get_or head 0 0) (given_zero 4 (ltb 1 (get_or head 0 0)) a.0); some_width = s.0; width = s.1; some_rows = s.2; rows = s.3 }

module _ (bytes : List ℕ) (at : ℕ) where
  pub section_short : length bytes < at + 5 → 13 ≡ head_section_number bytes at
  unfolding head_section_number
  section_short h = found (missing (at + 5) bytes) (head_number (drop at bytes) ∷ []) (absent (at + 5) bytes h) (λ z. omega arith)

  pub section_head : at + 5 ≤ length bytes → head_number (drop at bytes) ≡ head_section_number bytes at
  unfolding head_section_number
  section_head h = skip (missing (at + 5) bytes) (head_number (drop at bytes) ∷ []) (present (at + 5) bytes h) (sym (first_one (head_number (drop at bytes))))

  pub head_section_there : head_section_number bytes at ≡ 0 → (at + 5 ≤ length bytes) × (head_number (drop at bytes) ≡ 0)
  unfolding head_section_number
  head_section_there e =
      let a = first_zero (missing (at + 5) bytes) (head_number (drop at bytes) ∷ []) e in
      (there (at + 5) bytes a.0, sym (first_one (head_number (drop at bytes))) ∙ a.1)

  abbrev five_at : List ℕ
  five_at = take 5 (drop at bytes)

  five_byte : (k : ℕ) → k < 5 → get_or five_at k 0 ≡ get_or (drop at bytes) k 0
  five_byte k h = get_or-take 5 (drop at bytes) k 0 h

  five_number : head_number five_at ≡ head_number (drop at bytes)
  unfolding head_number
  five_number = cc (five_byte 0 (omega arith), five_byte 1 (omega arith), five_byte 2 (omega arith), five_byte 3 (omega arith), five_byte 4 (omega arith))

  five_answer : (m : ℕ) → head_answered m five_at ≡ head_answered m (drop at bytes)
  five_answer m = cc (five_byte 0 (omega arith), five_byte 1 (omega arith), five_byte 2 (omega arith), five_byte 3 (omega arith), five_byte 4 (omega arith))

  pub section_five : {r : Head} {head : List ℕ} → at + 5 ≤ length bytes → head ≡ five_at → r ≡ head_answered (head_number head) head → r ≡ head_answered (head_section_number bytes at) (drop at bytes)
  section_five h e q =
      q ∙ ap (λ l. head_answered (head_number l) l) e ∙ five_answer (head_number five_at) ∙ ap (λ (m : ℕ). head_answered m (drop at bytes)) (five_number ∙ section_head h)

-- ---- the rows

module _ (bytes : List ℕ) (job : Job) (inside : job.at ≤ length bytes) {need : ℕ} (e : need ≡ job.rows * row_bytes job) where
  abbrev last : ℕ
  last = job.at + job.rows * row_bytes job

  pub rows_missing : length bytes - job.at < need → 13 ≡ rows_number bytes job
  unfolding rows_number
  rows_missing h = found (missing last bytes) (given 14 (ltb last (length bytes)) ∷ []) (absent last bytes (omega arith)) (λ z. omega arith)

  module _ (all : need ≤ length bytes - job.at) where
    judged_end : {n : ℕ} → n ≡ given 14 (ltb last (length bytes)) → n ≡ rows_number bytes job
    unfolding rows_number
    judged_end q = skip (missing last bytes) (given 14 (ltb last (length bytes)) ∷ []) (present last bytes (omega arith)) (q ∙ sym (first_one (given 14 (ltb last (length bytes)))))

    pub rows_over : need < length bytes - job.at → 14 ≡ rows_number bytes job
    rows_over h = judged_end (simp (lt-ltb last (length bytes) (omega arith)))

    pub rows_exact : length bytes - job.at ≤ need → 0 ≡ rows_number bytes job
    rows_exact h = judged_end (simp (le-ltb last (length bytes) (omega arith)))

pub rows_there : (bytes : List ℕ) (job : Job) → rows_number bytes job ≡ 0 → length bytes ≡ job.at + job.rows * row_bytes job
unfolding rows_number
rows_there bytes job e =
    let n = job.at + job.rows * row_bytes job in
    let a = first_zero (missing n bytes) (given 14 (ltb n (length bytes)) ∷ []) e in
    let b = there n bytes a.0 in
    let c = ltb-false n (length bytes) (given_zero 13 (ltb n (length bytes)) (sym (first_one (given 14 (ltb n (length bytes)))) ∙ a.1)) in
    omega arith

-- ---- a job that is refused or read, as the record that says it

pub read_up : (job : Job) (why : Refusal) (r : Result Job Refusal) {m : ℕ} → IsErrAnd r (λ e. e ≡ why) → refusal_number why ≡ m → read_as r ≡ job_answered m job
read_up job why (Ok _) h e = absurd h
read_up job why (Err x) {m} h e = let z = refused_some x in let g = ap refusal_number h ∙ e in let f = ne_eqb m 0 (λ q. z (g ∙ q)) in cc

pub read_taken : (job : Job) {m : ℕ} {got : Job} → 0 ≡ m → got ≡ job → read_as (Ok got) ≡ job_answered m job
read_taken job {m} z e = let f = eq-eqb m 0 (sym z) in cc

pub read_says : (job : Job) {m : ℕ} {got : Job} → read_as (Ok got) ≡ job_answered m job → (0 ≡ m) × (got ≡ job)
read_says job {m} e = let z = ap (λ r. r.number) e in (z, ap (λ r. r.job) e ∙ simp (eq-eqb m 0 (sym z)))

-- ---- the whole job, group by group

module _ (bytes : List ℕ) where
  abbrev head_no : ℕ
  head_no = head_section_number bytes (head_begins (get_or bytes 0 0))

  abbrev rows_no : ℕ
  rows_no = rows_number bytes (job_from bytes)

  -- what stands before the rows
  pub front_plan : {n : ℕ} → n ≡ plan_section_number bytes → (n ≡ 0 → ⊥) → n ≡ front_number bytes
  unfolding front_number
  front_plan e h = found (plan_section_number bytes) (head_no ∷ []) e h

  pub front_head : {n : ℕ} → plan_section_number bytes ≡ 0 → n ≡ head_no → n ≡ front_number bytes
  unfolding front_number
  front_head p e = skip (plan_section_number bytes) (head_no ∷ []) p (e ∙ sym (first_one head_no))

  pub front_there : front_number bytes ≡ 0 → (plan_section_number bytes ≡ 0) × (head_no ≡ 0)
  unfolding front_number
  front_there e = let a = first_zero (plan_section_number bytes) (head_no ∷ []) e in (a.0, sym (first_one head_no) ∙ a.1)

  -- and then the rows
  pub job_front : {n : ℕ} → n ≡ front_number bytes → (n ≡ 0 → ⊥) → n ≡ job_number bytes
  unfolding job_number front_number
  job_front e h = e ∙ sym (first_front (plan_section_number bytes ∷ head_no ∷ []) (rows_no ∷ []) (λ z. h (e ∙ z)))

  pub job_rows : {n : ℕ} → plan_section_number bytes ≡ 0 → head_no ≡ 0 → n ≡ rows_no → n ≡ job_number bytes
  unfolding job_number
  job_rows p q e = skip (plan_section_number bytes) (head_no ∷ rows_no ∷ []) p (skip head_no (rows_no ∷ []) q (e ∙ sym (first_one rows_no)))

  pub job_there : job_number bytes ≡ 0 → (plan_section_number bytes ≡ 0) × (head_no ≡ 0) × (rows_no ≡ 0)
  unfolding job_number
  job_there e =
      let a = first_zero (plan_section_number bytes) (head_no ∷ rows_no ∷ []) e in
      let b = first_zero head_no (rows_no ∷ []) a.1 in
      (a.0, b.0, sym (first_one rows_no) ∙ b.1)

  pub job_accepted : {n : ℕ} {job : Job} → n ≡ job_number bytes → n ≡ 0 → job ≡ job_from bytes → record { number = 0; job = job } ≡ job_read_of bytes
  unfolding job_read_of
  job_accepted {n} {job} q z e = let f = eq-eqb n 0 z in cc

  -- what the plan's reader gave
  pub section_number : {section : Reading} → section ≡ plan_section_of bytes → section.number ≡ plan_section_number bytes
  unfolding plan_section_of
  section_number e = ap (λ s. s.number) e

  pub record PlanRead (section : Reading) : Type 0 where
    pub zero : plan_section_number bytes ≡ 0
    pub plan : section.plan ≡ plan_of (stages_from (get_or bytes 0 0) (drop 1 bytes))
    pub end : 1 + section.plan.count * 5 ≡ head_begins (get_or bytes 0 0)
    pub few : section.plan.count ≤ 16
    pub whole : 1 + section.plan.count * 5 ≤ length bytes

  pub plan_read_law : {section : Reading} → section ≡ plan_section_of bytes → section.number ≡ 0 → PlanRead section
  unfolding plan_section_of stages_from
  plan_read_law {section} e z =
      let n : plan_section_number bytes ≡ 0 = sym (section_number e) ∙ z in
      let p : section.plan ≡ plan_of (stages_from (get_or bytes 0 0) (drop 1 bytes)) = ap (λ s. s.plan) e ∙ simp (eq-eqb (plan_section_number bytes) 0 n) in
      let c : section.plan.count ≡ get_or bytes 0 0 = ap (λ p. p.count) p ∙ length_tabulate (get_or bytes 0 0) (λ i. stage_out_of (drop 1 bytes) (i * 5)) in
      let t = plan_there bytes n in
      let k = counted (get_or bytes 0 0) t.few in
      let w = t.whole in
      record { zero = n; plan = p; end = omega arith; few = omega arith; whole = omega arith }

-- what the head's reader gave
pub head_number_law : (m : ℕ) (head : List ℕ) {h : Head} → h ≡ head_answered m head → h.number ≡ m
head_number_law m head e = split (eqb m 0) (λ p. ap (λ h. h.number) e ∙ rw p (sym (eqb-true m 0 p))) (λ p. ap (λ h. h.number) e ∙ rw p refl)

pub record HeadRead (bytes : List ℕ) (end : ℕ) (h : Head) : Type 0 where
  pub zero : head_section_number bytes end ≡ 0
  pub sample : h.sample ≡ get_or (drop end bytes) 0 0
  pub width : h.width ≡ width_from (drop end bytes)
  pub rows : h.rows ≡ rows_from (drop end bytes)
  pub there : end + 5 ≤ length bytes
  pub narrow : h.width ≤ 4096
  pub few : h.rows ≤ 65535

pub head_read : (bytes : List ℕ) (end : ℕ) {h : Head} → h ≡ head_answered (head_section_number bytes end) (drop end bytes) → h.number ≡ 0 → HeadRead bytes end h
head_read bytes end {h} e z =
    let m = head_section_number bytes end in
    let head = drop end bytes in
    let n : m ≡ 0 = sym (head_number_law m head e) ∙ z in
    let f : h ≡ record { number = 0; sample = get_or head 0 0; width = width_from head; rows = rows_from head } = e ∙ simp (eq-eqb m 0 n) in
    let s = head_section_there bytes end n in
    let t = head_there head s.1 in
    let w = ap (λ h. h.width) f in
    let r = ap (λ h. h.rows) f in
    record { zero = n; sample = ap (λ h. h.sample) f; width = w; rows = r; there = s.0; narrow = omega (arith, w, t.width); few = omega (arith, r, t.rows) }

-- where the rows of a job begin that is refused nothing before them, and its size
pub front_sized : (bytes : List ℕ) → front_number bytes ≡ 0 → ((job_from bytes).at ≤ length bytes) × ((job_from bytes).width ≤ 4096) × ((job_from bytes).rows ≤ 65535)
unfolding job_from
front_sized bytes z =
    let end = head_begins (get_or bytes 0 0) in
    let s = head_section_there bytes end (front_there bytes z).1 in
    let t = head_there (drop end bytes) s.1 in
    (s.0, t.width, t.rows)

pub same_job : (bytes : List ℕ) {plan : Plan} {sample width rows at end : ℕ} → plan ≡ plan_of (stages_from (get_or bytes 0 0) (drop 1 bytes)) → end ≡ head_begins (get_or bytes 0 0)
    → sample ≡ get_or (drop end bytes) 0 0 → width ≡ width_from (drop end bytes) → rows ≡ rows_from (drop end bytes) → at ≡ end + 5
    → record { plan = plan; sample = sample; width = width; rows = rows; at = at } ≡ job_from bytes
unfolding job_from
same_job bytes p e s w r a = cc
