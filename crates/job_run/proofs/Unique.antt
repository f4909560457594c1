-- A run's promise leaves one outcome. By which idea: an output is shorter than the room or it is not, and either case tells all that comes out.
use mathlib.Core.Path.{◌≡◌, sym, ap, ◌∙◌}
use mathlib.Core.List.{List, ◌++◌}
use Prim.Native.Nat.{ℕ, ◌≤◌}
use borrow.Author.Tests.{ltb-true, ltb-false}
use lib.Dec.{ltb}
use lib.ListN.{length, take, drop}
use lib.Seq.{take_at}
use Rattle.morph.proofs.Lists.{split}
use Rattle.answer.specs.Answer.{answer_of, room_of}
use Rattle.job_run.specs.declared.JobRun.{JobRun}
use Rattle.job_run.specs.Run.{RunsJob}

abbrev run_of : ℕ → ℕ → JobRun
run_of number written = record { number = number; written = written }

runs_same : {r s : JobRun} → r.number ≡ s.number → r.written ≡ s.written → r ≡ s
runs_same {r} {s} n w = ap (λ (k : ℕ). run_of k r.written) n ∙ ap (run_of s.number) w

module _ {job out : List ℕ} where
  pub one_outcome : {out' out'' : List ℕ} {r s : JobRun} → RunsJob job out out' r → RunsJob job out out'' s → (r ≡ s) × (out' ≡ out'')
  one_outcome {out'} {out''} {r} {s} p q =
      split (ltb (length out) (room_of job))
      (λ e.
      let (a, b) = p.short (ltb-true (length out) (room_of job) e) in
      let (c, d) = q.short (ltb-true (length out) (room_of job) e) in
      (a ∙ sym c, b ∙ sym d))
      (λ e.
      let (a, b, o) = p.whole (ltb-false (length out) (room_of job) e) in
      let (c, d, u) = q.whole (ltb-false (length out) (room_of job) e) in
      (runs_same (b ∙ sym d) (a ∙ sym c), o ∙ ap (λ (n : ℕ). answer_of job ++ drop n out) (a ∙ sym c) ∙ sym u))

  -- what stands at the front of the output is the answer, to the byte
  pub run_answers : {out' : List ℕ} {r : JobRun} → RunsJob job out out' r → room_of job ≤ length out → take r.written out' ≡ answer_of job
  run_answers {out'} {r} p h =
      let (a, b, o) = p.whole h in
      ap (take r.written) o ∙ take_at (answer_of job) (drop r.written out) r.written (sym a)
