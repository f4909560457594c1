-- Judged in order, and then one part after the other.
use mathlib.Core.Path.{◌≡◌, refl, sym, ap, ◌∙◌}
use Prim.Native.Nat.{◌+◌, ◌*◌, ◌≤◌}
use lib.ListN.{length, length-set}
use lib.Seq.{sets}
use native.Mathlib.Omega.{arith}
use Rattle.morph.proofs.Exits.{refused_some}
use Rattle.plan_record.proofs.Named.{judged_count}
use Rattle.job_write.proofs.Writing.{written, write_plan, write_sample, write_size, write_short, write_fine, wrote_refused, wrote_up, wrote}
use Rattle.job_write.proofs.put_head.Goals as goal
use Rattle.job_write.proofs.put_head.Goals.{In_ok-judge}

few : (c : In_ok-judge) → c.args.job.plan.count ≤ 16
few c = let h = judged_count c.args.job.plan (sym c.in_ok-judge.ensures) in omega arith

pub returns-in_err-judge : goal.returns-in_err-judge
returns-in_err-judge c =
    let a = c.args in
    let why = c.in_err-judge.field-0.0 in
    wrote_up a.job a.out.now why _ c.from_residual.ensures.1 (write_plan a.job a.out.now c.in_err-judge.ensures (refused_some why))

pub returns-in_err-judge_sample : goal.returns-in_err-judge_sample
returns-in_err-judge_sample c =
    let a = c.args in
    let why = c.in_err-judge_sample.field-0.0 in
    wrote_up a.job a.out.now why _ c.from_residual-in_err-judge_sample.ensures.1 (write_sample a.job a.out.now (sym c.in_ok-judge.ensures) c.in_err-judge_sample.ensures (refused_some why))

pub returns-in_err-judge_size : goal.returns-in_err-judge_size
returns-in_err-judge_size c =
    let a = c.args in
    let why = c.in_err-judge_size.field-0.0 in
    wrote_up a.job a.out.now why _ c.from_residual-in_err-judge_size.ensures.1 (write_size a.job a.out.now (sym c.in_ok-judge.ensures) (sym c.in_ok-judge_sample.ensures) c.in_err-judge_size.ensures (refused_some why))

pub returns-then-out-at : goal.returns-then-out-at
returns-then-out-at c =
    let a = c.args in
    wrote_refused a.job a.out.now (write_short a.job a.out.now (sym c.in_ok-judge.ensures) (sym c.in_ok-judge_sample.ensures) (sym c.in_ok-judge_size.ensures) c.if-out-at.true) (λ z. omega arith)

pub overflow_mul-at : goal.overflow_mul-at
overflow_mul-at c = omega (arith, few (goal.at.overflow_mul-at c).In_ok-judge)

pub overflow_add-at : goal.overflow_add-at
overflow_add-at c = omega (arith, few (goal.at.overflow_add-at c).In_ok-judge)

pub overflow_add-at-2 : goal.overflow_add-at-2
overflow_add-at-2 c = omega (arith, few (goal.at.overflow_add-at-2 c).In_ok-judge)

pub overflow_cast-out : goal.overflow_cast-out
overflow_cast-out c = omega (arith, few (goal.at.overflow_cast-out c).In_ok-judge)

pub put_stages-requires : goal.put_stages-requires
put_stages-requires c = let f = few (goal.at.put_stages-requires c).In_ok-judge in simp length-set (omega arith)

pub returns : goal.returns
returns c =
    let a = c.args in
    let f = few (goal.at.returns c).In_ok-judge in
    let l : length a.job.plan.stages ≡ 16 = c.well_formed.0.1.1.0.1.1.1.0.1.0.1 in
    wrote a.job a.out.now (write_fine a.job a.out.now (sym c.in_ok-judge.ensures) (sym c.in_ok-judge_sample.ensures) (sym c.in_ok-judge_size.ensures) c.if-out-at.false)
    (written a.job a.out.now (omega arith) c.if-out-at.false refl c.put_stages.ensures (c.put.ensures ∙ ap (sets c.put_stages.new.out (1 + a.job.plan.count * 5)) c.head_five.ensures))
