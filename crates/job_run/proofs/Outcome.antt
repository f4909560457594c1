-- What a run comes to. By which idea: every answer ends with 0 and its number, so it has a last byte, and that stands before its end in the output too.
use mathlib.Core.Path.{◌≡◌, refl, ap, ◌∙◌}
use mathlib.Core.List.{List, ◌++◌}
use Prim.Native.Nat.{ℕ, ◌-◌, ◌≤◌, ◌<◌}
use native.Mathlib.Omega.{arith}
use lib.ListN.{length, get_or, drop, get_or-append}
use Rattle.answer.specs.Answer.{answer_of, room_of}
use Rattle.answer.proofs.Whole.{answer_long, answer_last}
use Rattle.job_run.specs.Run.{RunsJob}

module _ (job out : List ℕ) (room : ℕ) (e : room ≡ room_of job) where
  pub run_short : length out < room → RunsJob job out out (record { number = 6; written = 0 })
  run_short h = record { short = λ _. (refl, refl); whole = λ k. absurd (omega arith) }

  pub run_whole : (out' : List ℕ) (n : ℕ) → room ≤ length out → n ≡ length (answer_of job) → out' ≡ answer_of job ++ drop n out → RunsJob job out out' (record { number = get_or out' (n - 1) 0; written = n })
  run_whole out' n h w o =
      let some = answer_long job in
      record {
        short = λ k. absurd (omega arith);
        whole = λ _. (w, ap (λ l. get_or l (n - 1) 0) o ∙ get_or-append (answer_of job) (drop n out) 0 (n - 1) (omega arith) ∙ ap (λ (k : ℕ). get_or (answer_of job) (k - 1) 0) w ∙ answer_last job, o);
      }
