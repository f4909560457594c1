-- The room of a full run, by its numbers: rows and widths are few, so it fits a machine word.
use mathlib.Core.Path.{◌≡◌, sym, ap, ◌∙◌}
use mathlib.Core.List.{List, [], ◌∷◌}
use Prim.Native.Nat.{ℕ, ◌+◌, ◌*◌, ◌≤◌}
use native.Mathlib.Nat.{mul-le-mul_right}
use native.Mathlib.Omega.{arith}
use borrow.Author.Tests.{eq-eqb, ne_eqb}
use lib.ListN.{get_or, drop}
use Rattle.std.specs.Prelude.{Ok, Err}
use Rattle.morph.specs.declared.refusal.Refusal.{Refusal}
use Rattle.morph.proofs.Exits.{refused_some}
use Rattle.job_read.specs.declared.Job.{Job}
use Rattle.job_read.specs.Inner.{read_as}
use Rattle.job_read.specs.Layout.{row_bytes, head_begins, job_from}
use Rattle.job_read.specs.Job.{plan_section_number, head_section_number, job_answered}
use Rattle.job_read.proofs.Sections.{head_section_there, head_there, read_says}
use Rattle.morph.proofs.Numbers.{first_zero}
use Rattle.answer.specs.Answer.{cells_number, opening_number, room_of}

pub rows_few : (rows row : ℕ) → rows ≤ 65535 → row ≤ 16385 → rows * row ≤ 1073790975
rows_few rows row r s = let a = mul-le-mul_right row r in omega arith

-- an accepted head is judged by its size
pub head_few : (bytes : List ℕ) → opening_number bytes ≡ 0 → ((job_from bytes).width ≤ 4096) × ((job_from bytes).rows ≤ 65535)
unfolding opening_number job_from
head_few bytes e =
    let at = head_begins (get_or bytes 0 0) in
    let cells = cells_number (job_from bytes).plan (job_from bytes).width ∷ [] in
    let z = (first_zero (head_section_number bytes at) cells (first_zero (plan_section_number bytes) (head_section_number bytes at ∷ cells) e).1).0 in
    let h = head_there (drop at bytes) (head_section_there bytes at z).1 in
    (h.width, h.rows)

-- the room, by the head's number
pub room_refused : (bytes : List ℕ) (why : Refusal) → read_as (Err why) ≡ job_answered (opening_number bytes) (job_from bytes) → 2 ≡ room_of bytes
unfolding room_of
room_refused bytes why e = rw (ne_eqb (opening_number bytes) 0 (λ z. refused_some why (ap (λ r. r.number) e ∙ z)))

module _ (bytes : List ℕ) {job : Job} (e : read_as (Ok job) ≡ job_answered (opening_number bytes) (job_from bytes)) where
  pub room_full : {n : ℕ} → n ≡ 6 + job.rows * (1 + row_bytes job) + 2 → n ≡ room_of bytes
  unfolding room_of
  room_full k =
      let (z, o) = read_says (job_from bytes) e in
      rw (eq-eqb (opening_number bytes) 0 (sym z)) (k ∙ ap (λ (j : Job). 6 + j.rows * (1 + row_bytes j) + 2) o)

  pub opened_few : (job.width ≤ 4096) × (job.rows ≤ 65535)
  opened_few = let (z, o) = read_says (job_from bytes) e in rw o (head_few bytes (sym z))
