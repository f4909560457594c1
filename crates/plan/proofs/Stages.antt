-- What a plan is read as, from its count and its bytes: a stage more, and a stage that is refused.
use Rattle.std.proofs.Common.{◌≡◌, ap, ◌∙◌, List, [], ℕ, ◌+◌, ◌*◌, ◌<◌}
use Rattle.plan_record.specs.declared.Stage.{Stage}
use Rattle.plan_record.specs.declared.Plan.{Plan}
use Rattle.plan_record.specs.declared.Reading.{Reading}
use Rattle.plan_record.specs.Plan.{plan_of, count_number, stage_out_of, stages_from, stages_number, plan_number, plan_read}
use Rattle.plan_record.specs.Inner.{added}
use Rattle.plan_record.proofs.Laws.{table_more, refused_answer, count_accepted}

module _ {r p : Plan} where
  pub stages_more : {s : Stage} (i : ℕ) (bytes : List ℕ) → i < 16 → r ≡ added p s → p ≡ plan_of (stages_from i bytes) → s ≡ stage_out_of bytes (i * 5) → r ≡ plan_of (stages_from (i + 1) bytes)
  unfolding stages_from
  stages_more i bytes = table_more (λ k. stage_out_of bytes (k * 5)) i

module _ (count : ℕ) (bytes : List ℕ) {n q : ℕ} (w : n ≡ count) (e : q ≡ count_number n) where
  pub read_stages_law : {r : Reading} {p : ℕ} → q ≡ 0 → r ≡ record { number = p; plan = plan_of [] } → p ≡ stages_number n bytes → (p ≡ 0 → ⊥) → r ≡ plan_read count bytes
  unfolding plan_read plan_number
  read_stages_law z f g h =
      refused_answer (plan_of (stages_from count bytes)) f (count_accepted count (stages_number count bytes) (e ∙ ap count_number w) z (g ∙ ap (λ (n : ℕ). stages_number n bytes) w)) h
