-- The first machine at the rows, once a head is accepted. By which idea: a job of at most 4,096 cells starts on 4,096 cells and 4,096 column records, as each stage has at least
-- as many cells as records; and before the first step the rest of the answer is all of it but the opening.
use mathlib.Core.Path.{◌≡◌, refl, sym, ap, ◌∙◌, subst}
use mathlib.Core.Bool.{true}
use mathlib.Core.Logic.{inl, inr}
use mathlib.Core.List.{List, [], ◌∷◌, ◌++◌}
use Prim.Native.Nat.{ℕ, ◌+◌, ◌-◌, ◌*◌, ◌≤◌, min}
use native.Mathlib.Omega.{arith}
use borrow.Author.Tests.{le-ltb, ltb-false, eqb-true, eqb-false}
use lib.Dec.{eqb, ltb}
use lib.ListN.{length, get_or, take, drop, length-append}
use lib.Seq.{length-take-le}
use lib.Ieee.{Float}
use Rattle.morph.proofs.Lists.{split}
use Rattle.morph.proofs.Numbers.{first_zero, first_one, given_zero}
use Rattle.plan_record.specs.declared.Stage.{Stage}
use Rattle.plan_record.specs.declared.Plan.{Plan}
use Rattle.plan_record.specs.Numbers.{sample_number, size_number}
use Rattle.plan_record.specs.Plan.{plan_of, used, total, cells_of, cells_needed, records_needed, plan_ahead, record_number, stages_from, stages_number, plan_number}
use Rattle.plan_record.proofs.Laws.{used_plan, count_accepted}
use Rattle.plan_record.proofs.Named.{judged_reading}
use Rattle.plan_record.proofs.Numbers.{size_accepted}
use Rattle.memory.specs.Memory.{memory}
use Rattle.picture_state.specs.declared.State.{State}
use Rattle.picture_start.specs.declared.Started.{Started}
use Rattle.picture_state.specs.declared.Ending.TheVariants.{Fixed}
use Rattle.picture_state.specs.Numbers.{memory_number, state_number}
use Rattle.picture_start.specs.Start.{start_number, first_state_of, PictureStart}
use Rattle.picture_state.proofs.Numbers.{plan_accepted, ahead_few, shared_records}
use Rattle.picture_start.proofs.Starting.{begins_fixed, start_memory, start_first, cleared_long}
use Rattle.job_read.specs.declared.Job.{Job}
use Rattle.job_read.specs.Layout.{head_begins, width_from, rows_from, job_from}
use Rattle.job_read.specs.Job.{plan_section_number, head_number, head_section_number}
use Rattle.job_read.proofs.Sections.{plan_there, head_section_there}
use Rattle.answer.specs.Answer.{cells_number, opening_number, opening_bytes, Coding, grey_rows, rate_rows, rows_answer, picture_answer}
use Rattle.answer.proofs.Rest.{rest_first}
use Rattle.answer.proofs.Opening.{answer_taken}
use Rattle.turns.specs.declared.Machine.{Machine}
use Rattle.turns.specs.Inner.{RowsMean, machine_memory, MemoryRoom, Means, left_of, at_rows_of}
use Rattle.turn_head.specs.Inner.{Begins}

-- ---- what an accepted head has

pub record Fit (job : Job) : Type 0 where
  pub plan : record_number job.plan ≡ 0
  pub trimmed : plan_of (used job.plan) ≡ job.plan
  pub long : job.plan.count ≤ length job.plan.stages
  pub sample : sample_number job.sample ≡ 0
  pub size : size_number job.width job.rows ≡ 0
  pub cells : cells_needed job.plan job.width ≤ 4096

pub record Opened (bytes : List ℕ) : Type 0 where
  pub fit : Fit (job_from bytes)
  pub at : (job_from bytes).at ≡ head_begins (get_or bytes 0 0) + 5
  pub there : (job_from bytes).at ≤ length bytes

pub opened : (bytes : List ℕ) → opening_number bytes ≡ 0 → Opened bytes
unfolding opening_number job_from head_number plan_number
opened bytes z =
    let count = get_or bytes 0 0 in
    let head = drop (head_begins count) bytes in
    let ss = stages_from count (drop 1 bytes) in
    let cells = cells_number (plan_of ss) (width_from head) in
    let (a, b) = first_zero (plan_section_number bytes) (head_section_number bytes (head_begins count) ∷ cells ∷ []) z in
    let (h, d) = first_zero (head_section_number bytes (head_begins count)) (cells ∷ []) b in
    let p = plan_there bytes a in
    let (w, n) = head_section_there bytes (head_begins count) h in
    let (s, r) = first_zero (sample_number (get_or head 0 0)) (size_number (width_from head) (rows_from head) ∷ []) n in
    record {
      fit =
          record {
            plan = judged_reading count (drop 1 bytes) (sym (count_accepted count (stages_number count (drop 1 bytes)) (sym p.few) refl (sym p.judged)));
            trimmed = ap plan_of (used_plan ss);
            long = rw length-append (omega arith);
            sample = s;
            size = sym (first_one (size_number (width_from head) (rows_from head))) ∙ r;
            cells = ltb-false 4096 (cells_needed (plan_of ss) (width_from head)) (given_zero 14 (ltb 4096 (cells_needed (plan_of ss) (width_from head))) (sym (first_one cells) ∙ d));
          };
      at = refl;
      there = w;
    }

-- ---- the memory of an accepted job

records_cells : (width : ℕ) (stages : List Stage) → length stages * width ≤ total (cells_of width) stages
records_cells width [] = omega arith
records_cells width (s ∷ stages) = let i = records_cells width stages in omega arith

memory_zero : (plan : Plan) (width cells records : ℕ) → cells_needed plan width ≤ cells → records_needed plan width ≤ records → memory_number plan width cells records ≡ 0
unfolding memory_number
memory_zero plan width cells records a b = rw (le-ltb cells (cells_needed plan width) a, le-ltb records (records_needed plan width) b)

module _ (job : Job) (fit : Fit job) where
  records_few : records_needed job.plan job.width ≤ 4096
  records_few =
      let e = length-take-le job.plan.count job.plan.stages fit.long in
      omega (arith, ap (λ (n : ℕ). n * job.width) e, records_cells job.width (used job.plan), fit.cells)

  -- so the start is never refused
  pub start_taken : (records : ℕ) → 4096 ≤ records → start_number job.plan job.sample job.width job.rows 4096 records ≡ 0
  start_taken records h =
      sym (start_memory job.plan job.sample job.width job.rows 4096 records fit.plan fit.sample fit.size 0
      (sym (memory_zero job.plan job.width 4096 records fit.cells (omega (arith, records_few)))))

  -- before the first step
  abbrev first : State
  first = record { plan = job.plan; sample = job.sample; width = job.width; ending = Fixed; rows = job.rows; step = 0 }

  pub first_small : (first.plan.count ≤ 16) × (first.width ≤ 4096) × (first.rows + plan_ahead first.plan ≤ 66031)
  first_small =
      let p = plan_accepted job.plan fit.plan in
      let (_, w, _, h) = size_accepted job.width job.rows fit.size in
      (p.few, w, omega (arith, ahead_few job.plan p))

  module _ (starts lengths starts' lengths' : List ℕ) (r : Started) (a : 4096 ≤ length starts) (b : 4096 ≤ length lengths)
      (h : PictureStart (start_number job.plan job.sample job.width job.rows 4096 (min (length starts) (length lengths))) (first_state_of job.plan job.sample job.width job.rows) (records_needed job.plan job.width) starts lengths starts' lengths' r) where
    zero_told : start_number job.plan job.sample job.width job.rows 4096 (min (length starts) (length lengths)) ≡ 0
    zero_told = start_taken (min (length starts) (length lengths)) (omega arith)

    pub started : r.state ≡ first
    started = (h.accepted zero_told).0 ∙ ap (λ (p : Plan). record { plan = p; sample = job.sample; width = job.width; ending = Fixed; rows = job.rows; step = 0 }) fit.trimmed

    -- a machine of either kind of samples
    rows_mean : {A : Type 0} (C : Coding A) (kind : ℕ) (values : List A) (positions : List ℕ) (f : List ℕ → List ℕ) → job.sample ≡ kind → 4096 ≤ length values → 4096 ≤ length positions
        → ((bytes : List ℕ) → f bytes ≡ rows_answer C job.plan job.width job.rows bytes) → RowsMean C kind first (memory values positions starts' lengths') f
    rows_mean C kind values positions f s v p t =
        let n = records_few in
        let (_, y, z) = h.accepted zero_told in
        let ls : length starts' ≡ length starts = ap length y ∙ cleared_long (records_needed job.plan job.width) starts (omega arith) in
        let ll : length lengths' ≡ length lengths = ap length z ∙ cleared_long (records_needed job.plan job.width) lengths (omega arith) in
        let d = start_first C.samples job.plan job.sample job.width Fixed job.rows job.rows (begins_fixed job.rows) 4096 starts lengths starts' lengths' r fit.long h (h.told ∙ zero_told) in
        let m = memory_zero job.plan job.width (min (length values) (length positions)) (min (length starts') (length lengths')) (omega (arith, fit.cells)) (omega arith) in
        record {
          judged =
              sym (shared_records kind first (min (length values) (length positions)) (min (length starts') (length lengths')) starts' lengths' (ap state_number (sym started) ∙ d.judged) s true m
              (sym d.sound));
          fixed = refl;
          before = [];
          whole = record { wide = tt; high = omega arith; good = tt };
          held = λ q _ _. d.holds values positions q;
          tells = λ bytes. t bytes ∙ sym (rest_first C job.plan job.width job.rows bytes);
        }

    first_means : (greys : List ℕ) (rates : List Float) (positions : List ℕ) → MemoryRoom (machine_memory greys rates positions starts lengths)
        → Means (at_rows_of first) (machine_memory greys rates positions starts' lengths') (picture_answer job)
    first_means greys rates positions room =
        split (eqb job.sample 0)
        (λ e.
        let s = eqb-true job.sample 0 e in
        (refl, inl (s, rows_mean grey_rows 0 greys positions (picture_answer job) s room.greys room.positions (λ bytes. rw e))))
        (λ e.
        let n = ltb-false 1 job.sample (given_zero 4 (ltb 1 job.sample) fit.sample) in
        let d = eqb-false job.sample 0 e in
        let s : job.sample ≡ 1 = omega (arith, d) in
        (refl, inr (s, rows_mean rate_rows 1 rates positions (picture_answer job) s room.rates room.positions (λ bytes. rw e))))

-- ---- the turn that begins

module _ (bytes : List ℕ) (z : opening_number bytes ≡ 0) {job : Job} (e : job ≡ job_from bytes) where
  pub fits : Fit job
  fits = rw e (opened bytes z).fit

  pub at_there : (5 ≤ job.at) × (job.at ≤ length bytes)
  at_there = let o = opened bytes z in rw e (omega (arith, o.at), o.there)

  begins_at : job.at - 5 ≡ head_begins (get_or bytes 0 0)
  begins_at = let o = opened bytes z in rw e (omega (arith, o.at))

  pub begins : (starts lengths starts' lengths' frame : List ℕ) (r : Started) (machine : Machine) → 4096 ≤ length starts → 4096 ≤ length lengths → 6 ≤ length frame
      → PictureStart (start_number job.plan job.sample job.width job.rows 4096 (min (length starts) (length lengths))) (first_state_of job.plan job.sample job.width job.rows) (records_needed job.plan job.width) starts lengths starts' lengths' r
      → take 6 frame ≡ 2 ∷ take 5 (drop (job.at - 5) bytes) → machine ≡ at_rows_of r.state → Begins bytes starts lengths starts' lengths' frame (record { machine = machine; used = job.at; put = 6 })
  begins starts lengths starts' lengths' frame r machine a b c h put q m few =
      let s : machine ≡ at_rows_of (first job fits) = q ∙ ap at_rows_of (started job fits starts lengths starts' lengths' r a b h) in
      let left = ap left_of s in
      let (_, _, small) = first_small job fits in
      record {
        used_there = at_there.1;
        put_there = c;
        fewer = omega arith;
        goes = λ greys rates positions f (room, _, means). record {
          next = picture_answer job;
          means = subst (λ (m : Machine). Means m (machine_memory greys rates positions starts' lengths') (picture_answer job)) (sym s) (first_means job fits starts lengths starts' lengths' r a b h greys rates positions room);
          same = λ rest _.
              means (bytes ++ rest) ∙ answer_taken bytes rest z ∙ ap (λ (j : Job). opening_bytes bytes ++ picture_answer j (drop j.at bytes ++ rest)) (sym e)
              ∙ ap (λ l. l ++ picture_answer job (drop job.at bytes ++ rest)) (sym (put ∙ ap (λ (n : ℕ). 2 ∷ take 5 (drop n bytes)) begins_at));
        };
      }
