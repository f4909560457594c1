-- The head, group by group: the number of each by its tests, and how much of it has to be at hand. By which idea: the first group that is refused gives the number.
use mathlib.Core.Path.{◌≡◌, refl, sym, ap, ◌∙◌}
use mathlib.Core.List.{List, [], ◌∷◌}
use Prim.Native.Nat.{ℕ, ◌*◌, ◌≤◌, ◌<◌}
use native.Mathlib.Omega.{arith}
use borrow.Author.Tests.{lt-ltb, le-ltb, eq-eqb, ne_eqb}
use lib.ListN.{length, get_or, drop}
use Rattle.morph.specs.Numbers.{first_of}
use Rattle.morph.proofs.Numbers.{first_one, first_skip, skip}
use Rattle.plan_record.specs.Plan.{count_number, cells_needed, stage_out_of, stages_from}
use Rattle.plan_record.proofs.Named.{counted}
use Rattle.morph.proofs.Lists.{length_tabulate}
use Rattle.job_read.specs.declared.Job.{Job}
use Rattle.job_read.specs.declared.JobRead.{JobRead}
use Rattle.job_read.specs.Layout.{head_begins, pixels_begin, job_from}
use Rattle.job_read.specs.Job.{missing, plan_section_number, head_section_number, no_job, job_answered}
use Rattle.job_read.specs.Inner.{front_number}
use Rattle.job_read.proofs.Sections.{first_front, plan_there, front_there, front_sized, section_empty, section_count}
use Rattle.answer.specs.Answer.{cells_number, opening_number}
use Rattle.answer.specs.Inner.{head_wants_of}

module _ (bytes : List ℕ) where
  abbrev head_no : ℕ
  head_no = head_section_number bytes (head_begins (get_or bytes 0 0))

  abbrev cells_no : ℕ
  cells_no = cells_number (job_from bytes).plan (job_from bytes).width

  -- ---- the number

  pub opening_front : {n : ℕ} → n ≡ front_number bytes → (n ≡ 0 → ⊥) → n ≡ opening_number bytes
  unfolding opening_number front_number
  opening_front e h = e ∙ sym (first_front (plan_section_number bytes ∷ head_no ∷ []) (cells_no ∷ []) (λ z. h (e ∙ z)))

  -- the plan is of few stages and the rows are narrow
  pub front_few : front_number bytes ≡ 0 → ((job_from bytes).plan.count ≤ 16) × ((job_from bytes).width ≤ 4096)
  unfolding job_from stages_from
  front_few z =
      let n = counted (get_or bytes 0 0) (plan_there bytes (front_there bytes z).0).few in
      let l = length_tabulate (get_or bytes 0 0) (λ i. stage_out_of (drop 1 bytes) (i * 5)) in
      let (_, w, _) = front_sized bytes z in
      (omega arith, w)

  module _ (p : plan_section_number bytes ≡ 0) where
    module _ (q : head_no ≡ 0) {job : Job} (e : job ≡ job_from bytes) where
      last : {n : ℕ} → n ≡ cells_number job.plan job.width → n ≡ opening_number bytes
      unfolding opening_number
      last f =
          skip (plan_section_number bytes) (head_no ∷ cells_no ∷ []) p
          (skip head_no (cells_no ∷ []) q (f ∙ ap (λ (j : Job). cells_number j.plan j.width) e ∙ sym (first_one cells_no)))

      pub opening_cells : 4096 < cells_needed job.plan job.width → 15 ≡ opening_number bytes
      opening_cells h = last (simp (lt-ltb 4096 (cells_needed job.plan job.width) h))

      pub opening_all : cells_needed job.plan job.width ≤ 4096 → 0 ≡ opening_number bytes
      opening_all h = last (simp (le-ltb 4096 (cells_needed job.plan job.width) h))

  pub opened_refused : {r : JobRead} {n : ℕ} → r ≡ record { number = n; job = no_job } → n ≡ opening_number bytes → (n ≡ 0 → ⊥) → r ≡ job_answered (opening_number bytes) (job_from bytes)
  opened_refused {r} {n} e q h = e ∙ (let f = ne_eqb n 0 h in cc)

  pub opened_all : {job : Job} → 0 ≡ opening_number bytes → job ≡ job_from bytes → record { number = 0; job = job } ≡ job_answered (opening_number bytes) (job_from bytes)
  opened_all {job} z e = let f = eq-eqb (opening_number bytes) 0 (sym z) in cc

  -- ---- what has to be at hand

  abbrev count : ℕ
  count = get_or bytes 0 0

  pub wants_count : length bytes < 1 → 1 ≡ head_wants_of bytes
  unfolding head_wants_of
  wants_count h =
      let z = section_empty bytes h in
      simp (ne_eqb (plan_section_number bytes) 0 (λ e. omega arith), lt-ltb (length bytes) 1 h)

  module _ (some : 1 ≤ length bytes) where
    first : first_of (missing 1 bytes ∷ count_number count ∷ []) ≡ count_number count
    first = first_skip (missing 1 bytes) (count_number count ∷ []) (simp (le-ltb (length bytes) 1 some)) ∙ first_one (count_number count)

    pub wants_refused : (count_number count ≡ 0 → ⊥) → 1 ≡ head_wants_of bytes
    unfolding head_wants_of
    wants_refused h =
        let z = section_count bytes some {n = count_number count} refl h in
        rw (ne_eqb (plan_section_number bytes) 0 (λ e. h (z ∙ e)), first, ne_eqb (count_number count) 0 h)

    pub wants_stages : count_number count ≡ 0 → (plan_section_number bytes ≡ 0 → ⊥) → head_begins count ≡ head_wants_of bytes
    unfolding head_wants_of
    wants_stages e h = rw (ne_eqb (plan_section_number bytes) 0 h, first, eq-eqb (count_number count) 0 e)

  pub wants_head : plan_section_number bytes ≡ 0 → pixels_begin count ≡ head_wants_of bytes
  unfolding head_wants_of
  wants_head e = rw (eq-eqb (plan_section_number bytes) 0 e)
