-- The reader accepts exactly the byte strings that are a job, and hands back what they say; reading and writing undo each other.
-- By which idea: five bytes at a time, a stage's bytes are dropped from the front and the rest is read the same way.
use mathlib.Core.Path.{◌≡◌, refl, sym, ap, ◌∙◌}
use mathlib.Core.Bool.{true, ◌||◌, and-false}
use mathlib.Core.List.{List, [], ◌∷◌, ◌++◌, append_assoc}
use Prim.Native.Nat.{ℕ, zero, suc, ◌+◌, ◌-◌, ◌*◌, ◌/◌, ◌%◌, ◌≤◌, ◌<◌}
use native.Mathlib.Nat.{add-zero, mul-le-mul_right}
use native.Mathlib.Omega.{arith}
use borrow.Author.Tests.{le-leb, le-ltb, eq-eqb, ne_eqb, ltb-false}
use lib.Dec.{ltb}
use lib.ListN.{length, get_or, take, drop, replicate, length-append, length-drop, take-append-drop}
use lib.Seq.{get_or-drop, get_or-take, take-add, take_at, drop_at}
use Rattle.morph.specs.Lists.{tabulate}
use Rattle.morph.proofs.Lists.{split, neither, length_tabulate, tabulate_ext}
use Rattle.morph.specs.declared.Kind.{Kind}
use Rattle.morph.specs.declared.Kind.TheVariants.{Erosion, Dilation}
use Rattle.morph.specs.Numbers.{given, first_of, kind_number_of, extent_number}
use Rattle.morph.proofs.Numbers.{first_one, first_skip, first_zero, all_zero, given_zero}
use Rattle.morph.specs.Order.{kind_of}
use Rattle.plan_record.specs.declared.Stage.{Stage}
use Rattle.plan_record.specs.declared.Plan.{Plan}
use Rattle.plan_record.specs.Numbers.{sample_number, size_number}
use Rattle.plan_record.specs.Plan.{unused, plan_of, used, count_number, record_stage_number, record_stages_number, record_number, stage_out_of, stage_number, stages_from, stages_number, plan_number, extended}
use Rattle.plan_record.proofs.Laws.{used_plan, count_accepted, count_zero}
use Rattle.plan_record.proofs.Named.{judged_count, judged_reading}
use Rattle.job_read.specs.declared.Job.{Job}
use Rattle.job_read.specs.declared.JobRead.{JobRead}
use Rattle.job_read.specs.Layout.{kind_byte_of, stage_bytes, stages_bytes, plan_bytes, head_bytes_of, encode, row_bytes, head_begins, pixels_begin, width_from, rows_from, job_from, Valid, IsJob}
use Rattle.job_read.specs.Job.{plan_section_number, head_number, head_section_number, rows_number, job_number, job_read_of}
use Rattle.job_view.specs.View.{row_begins, is_there_to, view_number}
use Rattle.job_write.specs.declared.Written.{Written}
use Rattle.job_write.specs.declared.Written.TheVariants.{Bytes}
use Rattle.job_write.specs.Write.{write_number, written_of, Wrote}
use Rattle.job_read.proofs.Sections.{plan_there, section_stages, head_there, head_size, head_section_there, section_head, rows_there, rows_exact, job_there, job_rows, job_accepted}
use Rattle.job_write.proofs.Writing.{length_stages, length_encode, write_fine}

-- ---- a stage at another place

module _ (xs ys : List ℕ) (a b : ℕ) (agree : (k : ℕ) → get_or xs (a + k) 0 ≡ get_or ys (b + k) 0) where
  first : get_or xs a 0 ≡ get_or ys b 0
  first = ap (λ (n : ℕ). get_or xs n 0) (sym (add-zero a)) ∙ agree 0 ∙ ap (λ (n : ℕ). get_or ys n 0) (add-zero b)

  moved_stage : stage_out_of xs a ≡ stage_out_of ys b
  moved_stage = cc (first, agree 1, agree 2, agree 3, agree 4)

  moved_number : stage_number xs a ≡ stage_number ys b
  moved_number = cc (first, agree 1, agree 2, agree 3, agree 4)

module _ (xs : List ℕ) where
  next : (i k : ℕ) → get_or xs (suc i * 5 + k) 0 ≡ get_or (drop 5 xs) (i * 5 + k) 0
  next i k = let e : suc i * 5 + k ≡ 5 + (i * 5 + k) = omega arith in ap (λ (n : ℕ). get_or xs n 0) e ∙ sym (get_or-drop 5 xs (i * 5 + k) 0)

  stages_front : (n : ℕ) → stages_from (suc n) xs ≡ stage_out_of xs 0 ∷ stages_from n (drop 5 xs)
  unfolding stages_from
  stages_front n = ap (λ l. stage_out_of xs 0 ∷ l) (tabulate_ext n (λ k. stage_out_of xs (suc k * 5)) (λ k. stage_out_of (drop 5 xs) (k * 5)) (λ k h. moved_stage xs (drop 5 xs) (suc k * 5) (k * 5) (next k)))

  numbers_front : (n : ℕ) → stages_number (suc n) xs ≡ first_of (stage_number xs 0 ∷ tabulate n (λ k. stage_number (drop 5 xs) (k * 5)))
  unfolding stages_number
  numbers_front n =
      ap (λ l. first_of (stage_number xs 0 ∷ l)) (tabulate_ext n (λ k. stage_number xs (suc k * 5)) (λ k. stage_number (drop 5 xs) (k * 5)) (λ k h. moved_number xs (drop 5 xs) (suc k * 5) (k * 5) (next k)))

-- ---- what was read, written again

kind_back : (n : ℕ) → n ≤ 1 → kind_byte_of (kind_of n) ≡ n
kind_back zero h = refl
kind_back (suc zero) h = refl
kind_back (suc (suc n)) h = absurd (omega arith)

stage_back : (xs : List ℕ) → 5 ≤ length xs → stage_number xs 0 ≡ 0 → stage_bytes (stage_out_of xs 0) ≡ take 5 xs
stage_back [] h e = absurd (omega arith)
stage_back (a ∷ []) h e = absurd (omega arith)
stage_back (a ∷ b ∷ []) h e = absurd (omega arith)
stage_back (a ∷ b ∷ c ∷ []) h e = absurd (omega arith)
stage_back (a ∷ b ∷ c ∷ d ∷ []) h e = absurd (omega arith)
stage_back (a ∷ b ∷ c ∷ d ∷ f ∷ r) h e =
    ap (λ (n : ℕ). n ∷ b ∷ c ∷ d ∷ f ∷ []) (kind_back a (ltb-false 1 a (given_zero 1 (ltb 1 a) (first_zero (kind_number_of a) (extent_number (b ∷ c ∷ d ∷ f ∷ []) ∷ []) e).0)))

stages_back : (n : ℕ) (xs : List ℕ) → n * 5 ≤ length xs → stages_number n xs ≡ 0 → stages_bytes (stages_from n xs) ≡ take (n * 5) xs
unfolding stages_from stages_number
stages_back zero xs h e = refl
stages_back (suc n) xs h e =
    let z = first_zero (stage_number xs 0) (tabulate n (λ k. stage_number (drop 5 xs) (k * 5))) (sym (numbers_front xs n) ∙ e) in
    let i = stages_back n (drop 5 xs) (omega (arith, length-drop 5 xs)) z.1 in
    let m : 5 + n * 5 ≡ suc n * 5 = omega arith in
    ap stages_bytes (stages_front xs n) ∙ ap (λ l. l ++ stages_bytes (stages_from n (drop 5 xs))) (stage_back xs (omega arith) z.0) ∙ ap (λ l. take 5 xs ++ l) i
    ∙ sym (take-add 5 (n * 5) xs) ∙ ap (λ (k : ℕ). take k xs) m

head_back : (head : List ℕ) → 5 ≤ length head → ((i : ℕ) → get_or head i 0 < 256) → head_bytes_of (get_or head 0 0) (width_from head) (rows_from head) ≡ take 5 head
head_back [] h l = absurd (omega arith)
head_back (a ∷ []) h l = absurd (omega arith)
head_back (a ∷ b ∷ []) h l = absurd (omega arith)
head_back (a ∷ b ∷ c ∷ []) h l = absurd (omega arith)
head_back (a ∷ b ∷ c ∷ d ∷ []) h l = absurd (omega arith)
head_back (a ∷ b ∷ c ∷ d ∷ f ∷ r) h l =
    let p : b < 256 = l 1 in
    let q : d < 256 = l 3 in
    let low : (b + c * 256) % 256 ≡ b = omega arith in
    let high : (b + c * 256) / 256 ≡ c = omega arith in
    let low' : (d + f * 256) % 256 ≡ d = omega arith in
    let high' : (d + f * 256) / 256 ≡ f = omega arith in
    cc

front_byte : (bytes : List ℕ) → 1 ≤ length bytes → take 1 bytes ≡ get_or bytes 0 0 ∷ []
front_byte [] h = absurd (omega arith)
front_byte (a ∷ r) h = refl

module _ (bytes : List ℕ) (byte : (i : ℕ) → get_or bytes i 0 < 256) (e : job_number bytes ≡ 0) where
  abbrev count : ℕ
  count = get_or bytes 0 0

  abbrev head : List ℕ
  head = drop (head_begins count) bytes

  abbrev stages : List Stage
  stages = stages_from count (drop 1 bytes)

  length_stages_read : length stages ≡ count
  unfolding stages_from
  length_stages_read = length_tabulate count (λ i. stage_out_of (drop 1 bytes) (i * 5))

  encode_read : encode (job_from bytes) ≡ take (pixels_begin count) bytes
  unfolding encode job_from
  encode_read =
      let z = job_there bytes e in
      let p = plan_there bytes z.0 in
      let h = head_section_there bytes (head_begins count) z.1 in
      let s : stages_bytes stages ≡ take (count * 5) (drop 1 bytes) = stages_back count (drop 1 bytes) (let w = p.whole in omega (arith, length-drop 1 bytes)) p.judged in
      let a : length stages ∷ stages_bytes (used (plan_of stages)) ≡ count ∷ take (count * 5) (drop 1 bytes) = cc (length_stages_read, used_plan stages, s) in
      let b : count ∷ take (count * 5) (drop 1 bytes) ≡ take (head_begins count) bytes = ap (λ l. l ++ take (count * 5) (drop 1 bytes)) (sym (front_byte bytes p.some)) ∙ sym (take-add 1 (count * 5) bytes) in
      let f : head_bytes_of (get_or head 0 0) (width_from head) (rows_from head) ≡ take 5 head =
      head_back head (let w = h.0 in omega (arith, length-drop (head_begins count) bytes)) (λ i. rw (get_or-drop (head_begins count) bytes i 0) (byte (head_begins count + i))) in
      ap (λ l. l ++ head_bytes_of (get_or head 0 0) (width_from head) (rows_from head)) (a ∙ b) ∙ ap (λ l. take (head_begins count) bytes ++ l) f ∙ sym (take-add (head_begins count) 5 bytes)

  valid_read : Valid (job_from bytes)
  unfolding job_from plan_number
  valid_read =
      let z = job_there bytes e in
      let p = plan_there bytes z.0 in
      let h = head_there head (head_section_there bytes (head_begins count) z.1).1 in
      record {
        plan = judged_reading count (drop 1 bytes) (sym (count_accepted count (stages_number count (drop 1 bytes)) (sym p.few) refl (sym p.judged)));
        unused = ap plan_of (sym (used_plan stages));
        sample = h.known;
        some_width = h.some_width;
        width = h.width;
        some_rows = h.some_rows;
        rows = h.rows;
        at = ap pixels_begin (sym length_stages_read);
      }

  -- an accepted byte string is the job that is handed back
  pub sound : IsJob bytes (job_from bytes)
  unfolding job_from
  sound =
      let r = rows_there bytes (job_from bytes) (job_there bytes e).2 in
      record {
        valid = valid_read;
        pixels = drop (pixels_begin count) bytes;
        whole = sym (take-append-drop (pixels_begin count) bytes) ∙ ap (λ l. l ++ drop (pixels_begin count) bytes) (sym encode_read);
        size = length-drop (pixels_begin count) bytes ∙ omega arith;
      }

-- ---- what was written, read again

kind_again : (k : Kind) → kind_of (kind_byte_of k) ≡ k
kind_again Erosion = refl
kind_again Dilation = refl

kind_known : (k : Kind) → kind_number_of (kind_byte_of k) ≡ 0
kind_known Erosion = refl
kind_known Dilation = refl

stage_again : (s : Stage) (ys : List ℕ) → stage_out_of (stage_bytes s ++ ys) 0 ≡ s
stage_again s ys = ap (λ (k : Kind). extended k s.left s.right s.up s.down) (kind_again s.kind)

stages_again : (ss : List Stage) (ys : List ℕ) → stages_from (length ss) (stages_bytes ss ++ ys) ≡ ss
unfolding stages_from
stages_again [] ys = refl
stages_again (s ∷ ss) ys =
    stages_front (stages_bytes (s ∷ ss) ++ ys) (length ss) ∙ ap (λ t. t ∷ stages_from (length ss) (stages_bytes ss ++ ys)) (stage_again s (stages_bytes ss ++ ys)) ∙ ap (λ l. s ∷ l) (stages_again ss ys)

numbers_again : (ss : List Stage) (ys : List ℕ) → ((i : ℕ) → i < length ss → record_stage_number (get_or ss i unused) ≡ 0) → stages_number (length ss) (stages_bytes ss ++ ys) ≡ 0
unfolding stages_number
numbers_again [] ys h = refl
numbers_again (s ∷ ss) ys h =
    let first : stage_number (stages_bytes (s ∷ ss) ++ ys) 0 ≡ 0 = first_skip (kind_number_of (kind_byte_of s.kind)) (record_stage_number s ∷ []) (kind_known s.kind) ∙ first_one (record_stage_number s) ∙ h zero (omega arith) in
    numbers_front (stages_bytes (s ∷ ss) ++ ys) (length ss)
    ∙ first_skip (stage_number (stages_bytes (s ∷ ss) ++ ys) 0) (tabulate (length ss) (λ k. stage_number (stages_bytes ss ++ ys) (k * 5))) first
    ∙ numbers_again ss ys (λ i k. h (suc i) (omega arith))

sample_fine : (s : ℕ) → s ≤ 1 → sample_number s ≡ 0
sample_fine s h = simp (le-ltb 1 s h)

size_fine : (w h : ℕ) → 1 ≤ w → w ≤ 4096 → 1 ≤ h → h ≤ 65535 → 0 ≡ size_number w h
size_fine w h a b c d = simp (ne_eqb w 0 (λ z. omega arith), le-ltb 4096 w b, ne_eqb h 0 (λ z. omega arith), le-ltb 65535 h d)

two_again : (n : ℕ) → n % 256 + n / 256 * 256 ≡ n
two_again n = omega arith

-- a record is that of its fields
fields : (job : Job) {plan : Plan} {sample width rows at : ℕ} → plan ≡ job.plan → sample ≡ job.sample → width ≡ job.width → rows ≡ job.rows → at ≡ job.at
    → ◌≡◌ {A = Job} (record { plan = plan; sample = sample; width = width; rows = rows; at = at }) (record { plan = job.plan; sample = job.sample; width = job.width; rows = job.rows; at = job.at })
fields job p s w h a = cc

module _ (bytes : List ℕ) (job : Job) (is : IsJob bytes job) where
  abbrev ss : List Stage
  ss = used job.plan

  abbrev image : List ℕ
  image = head_bytes_of job.sample job.width job.rows

  abbrev after : List ℕ
  after = image ++ is.pixels

  few : (1 ≤ job.plan.count) × (job.plan.count ≤ 16)
  few = judged_count job.plan is.valid.plan

  length_ss : length ss ≡ job.plan.count
  length_ss = sym (ap (λ (p : Plan). p.count) is.valid.unused)

  spread : bytes ≡ job.plan.count ∷ (stages_bytes ss ++ after)
  unfolding encode
  spread = is.whole ∙ append_assoc (plan_bytes job.plan) image is.pixels

  count_again : get_or bytes 0 0 ≡ job.plan.count
  count_again = ap (λ l. get_or l 0 0) spread

  plan_bytes_law : drop 1 bytes ≡ stages_bytes ss ++ after
  plan_bytes_law = ap (drop 1) spread

  head_bytes : drop (head_begins (get_or bytes 0 0)) bytes ≡ after
  head_bytes =
      let n : head_begins (get_or bytes 0 0) ≡ suc (job.plan.count * 5) = omega (arith, count_again) in
      ap (λ (k : ℕ). drop k bytes) n ∙ ap (drop (suc (job.plan.count * 5))) spread
      ∙ drop_at (stages_bytes ss) after (job.plan.count * 5) (length_stages ss ∙ ap (λ (k : ℕ). k * 5) length_ss)

  length_bytes : length bytes ≡ pixels_begin job.plan.count + job.rows * row_bytes job
  length_bytes =
      let s = length_stages ss ∙ ap (λ (k : ℕ). k * 5) length_ss in
      let a : length (stages_bytes ss ++ after) ≡ length (stages_bytes ss) + length after = length-append (stages_bytes ss) after in
      let z = is.size in
      ap length spread ∙ omega arith

  stages_read : stages_from (get_or bytes 0 0) (drop 1 bytes) ≡ ss
  stages_read = ap (λ (n : ℕ). stages_from n (drop 1 bytes)) (count_again ∙ sym length_ss) ∙ ap (stages_from (length ss)) plan_bytes_law ∙ stages_again ss after

  -- the reader hands back the job
  pub same : job_from bytes ≡ job
  unfolding job_from
  same =
      let p : plan_of (stages_from (get_or bytes 0 0) (drop 1 bytes)) ≡ job.plan = ap plan_of stages_read ∙ sym is.valid.unused in
      let s : get_or (drop (head_begins (get_or bytes 0 0)) bytes) 0 0 ≡ job.sample = ap (λ l. get_or l 0 0) head_bytes in
      let w : width_from (drop (head_begins (get_or bytes 0 0)) bytes) ≡ job.width = ap width_from head_bytes ∙ two_again job.width in
      let h : rows_from (drop (head_begins (get_or bytes 0 0)) bytes) ≡ job.rows = ap rows_from head_bytes ∙ two_again job.rows in
      let a : pixels_begin (get_or bytes 0 0) ≡ job.at = ap pixels_begin count_again ∙ sym is.valid.at in
      fields job p s w h a

  each_stage : (i : ℕ) → i < length ss → record_stage_number (get_or ss i unused) ≡ 0
  unfolding record_number record_stages_number
  each_stage i h =
      let z = count_zero job.plan.count (record_stages_number job.plan) is.valid.plan in
      let l = length_ss in
      ap record_stage_number (get_or-take job.plan.count job.plan.stages i unused (omega arith)) ∙ all_zero job.plan.count (λ i. record_stage_number (get_or job.plan.stages i unused)) z.1 i (omega arith)

  plan_accepted : plan_section_number bytes ≡ 0
  unfolding record_number
  plan_accepted =
      let c : count_number (get_or bytes 0 0) ≡ 0 = ap count_number count_again ∙ (count_zero job.plan.count (record_stages_number job.plan) is.valid.plan).0 in
      let n : stages_number (get_or bytes 0 0) (drop 1 bytes) ≡ 0 = ap (λ (n : ℕ). stages_number n (drop 1 bytes)) (count_again ∙ sym length_ss) ∙ ap (stages_number (length ss)) plan_bytes_law ∙ numbers_again ss after each_stage in
      let l = length_bytes in
      let k = count_again in
      sym (section_stages bytes (omega arith) c (omega arith)) ∙ n

  head_accepted : head_section_number bytes (head_begins (get_or bytes 0 0)) ≡ 0
  head_accepted =
      let v = is.valid in
      let l = length_bytes in
      let k = count_again in
      let h : 0 ≡ head_number after = head_size after (sample_fine job.sample v.sample) (sym (two_again job.width)) (sym (two_again job.rows)) (size_fine job.width job.rows v.some_width v.width v.some_rows v.rows) in
      sym (section_head bytes (head_begins (get_or bytes 0 0)) (omega arith)) ∙ ap head_number head_bytes ∙ sym h

  rows_accepted : rows_number bytes (job_from bytes) ≡ 0
  rows_accepted =
      let l = length_bytes in
      let a = is.valid.at in
      ap (rows_number bytes) same ∙ sym (rows_exact bytes job (omega arith) refl (omega arith) (omega arith))

  -- and accepts it
  pub accepted : job_number bytes ≡ 0
  accepted = sym (job_rows bytes plan_accepted head_accepted (sym rows_accepted))

-- ---- said of the calls' promises

-- The reader accepts exactly the byte strings that are a job ..
pub read_sound : (bytes : List ℕ) {r : JobRead} → r ≡ job_read_of bytes → ((i : ℕ) → get_or bytes i 0 < 256) → r.number ≡ 0 → IsJob bytes r.job
unfolding job_read_of
read_sound bytes {r} e byte z =
    let n : job_number bytes ≡ 0 = sym (ap (λ r. r.number) e) ∙ z in
    let j : r.job ≡ job_from bytes = ap (λ r. r.job) e ∙ simp (eq-eqb (job_number bytes) 0 n) in
    rw j (sound bytes byte n)

-- .. and hands back what they say
pub read_complete : (bytes : List ℕ) (job : Job) {r : JobRead} → r ≡ job_read_of bytes → IsJob bytes job → r ≡ record { number = 0; job = job }
read_complete bytes job e is = e ∙ sym (job_accepted bytes (sym (accepted bytes job is)) refl (sym (same bytes job is)))

-- every job that can be read is written, where the output has room for it
module _ (job : Job) (out : List ℕ) (valid : Valid job) (room : pixels_begin job.plan.count ≤ length out) where
  write_accepted : 0 ≡ write_number job out
  write_accepted =
      write_fine job out valid.plan (sample_fine job.sample valid.sample) (sym (size_fine job.width job.rows valid.some_width valid.width valid.some_rows valid.rows)) room

  places : job.plan.count ≤ length job.plan.stages
  places =
      let u = ap (λ (p : Plan). length p.stages) valid.unused ∙ length-append (used job.plan) (replicate (16 - length (used job.plan)) unused) in
      let c = ap (λ (p : Plan). p.count) valid.unused in
      omega arith

  module _ {out' : List ℕ} {r : Written} (w : Wrote job out out' r) where
    pub write_answer : r ≡ Bytes (pixels_begin job.plan.count)
    write_answer = w.answer ∙ ap (λ (n : ℕ). written_of n (pixels_begin job.plan.count)) (sym write_accepted)

    pub write_front : take (pixels_begin job.plan.count) out' ≡ encode job
    write_front =
        ap (take (pixels_begin job.plan.count)) (w.output ∙ simp (eq-eqb (write_number job out) 0 (sym write_accepted)))
        ∙ take_at (encode job) (drop (pixels_begin job.plan.count) out) (pixels_begin job.plan.count) (length_encode job places)

    -- reading what was written, with rows after it, gives the record back
    pub write_read : (pixels : List ℕ) {s : JobRead} → length pixels ≡ job.rows * row_bytes job → s ≡ job_read_of (take (pixels_begin job.plan.count) out' ++ pixels) → s ≡ record { number = 0; job = job }
    write_read pixels l e =
        read_complete (take (pixels_begin job.plan.count) out' ++ pixels) job e (record { valid = valid; pixels = pixels; whole = ap (λ f. f ++ pixels) write_front; size = l })

-- writing what was read gives the bytes back
pub read_write : (bytes : List ℕ) {s : JobRead} (out : List ℕ) {out' : List ℕ} {r : Written} → ((i : ℕ) → get_or bytes i 0 < 256) → s ≡ job_read_of bytes → s.number ≡ 0
    → s.job.at ≤ length out → Wrote s.job out out' r → (r ≡ Bytes s.job.at) × (take s.job.at out' ≡ take s.job.at bytes)
read_write bytes {s} out {out'} byte e z room w =
    let is = read_sound bytes e byte z in
    let at = is.valid.at in
    let n : pixels_begin s.job.plan.count ≤ length out = rw at at room in
    let front : take s.job.at bytes ≡ encode s.job =
    ap (take s.job.at) is.whole ∙ take_at (encode s.job) is.pixels s.job.at (length_encode s.job (places s.job out is.valid n) ∙ sym at) in
    (write_answer s.job out is.valid n w ∙ ap Bytes (sym at), ap (λ (k : ℕ). take k out') at ∙ write_front s.job out is.valid n w ∙ sym front)

-- of the rows of a job that was read, 11 is given where i is over j or j over the row count, and nowhere else
pub view_job : (bytes : List ℕ) (job : Job) → IsJob bytes job → (i j : ℕ) → view_number bytes job i j ≡ given 11 (ltb j i || ltb job.rows j)
unfolding view_number
view_job bytes job is i j =
    split (ltb j i || ltb job.rows j)
    (λ p. rw p refl)
    (λ p.
    let q = neither (ltb j i) (ltb job.rows j) p in
    let l = length_bytes bytes job is in
    let a = is.valid.at in
    let m = mul-le-mul_right {m = j} {n = job.rows} (row_bytes job) (ltb-false job.rows j q.1) in
    let t : is_there_to bytes job j ≡ true = simp (le-leb job.sample 1 is.valid.sample, le-leb (row_begins job j) (length bytes) (omega arith)) in
    rw (p, t, and-false (ltb i j)) refl)

-- two answers of a writing, and what they leave, are the same
pub wrote_once : {job : Job} {out a b : List ℕ} {r s : Written} → Wrote job out a r → Wrote job out b s → (r ≡ s) × (a ≡ b)
wrote_once v w = (v.answer ∙ sym w.answer, v.output ∙ sym w.output)
