-- The room is judged first; then the answer is there, and its last byte is the one before its end.
use mathlib.Core.Path.{ap}
use native.Mathlib.Omega.{arith}
use lib.ListN.{length, length-append, drop}
use Rattle.answer.specs.Answer.{answer_of}
use Rattle.answer.proofs.Room.{answer_fits}
use Rattle.answer.proofs.Whole.{answer_long}
use Rattle.job_run.proofs.Outcome.{run_short, run_whole}
use Rattle.job_run.proofs.run.Goals as goal

pub returns-then-out-room : goal.returns-then-out-room
returns-then-out-room c =
    run_short c.args.job.now c.args.out.now c.room.result c.room.ensures c.if-out-room.true

pub answer_to-written-requires : goal.answer_to-written-requires
answer_to-written-requires c =
    omega (arith, answer_fits c.args.job.now, c.room.ensures, c.if-out-room.false)

pub overflow_sub-result : goal.overflow_sub-result
overflow_sub-result c =
    let job = c.args.job.now in
    omega (arith, answer_long job, c.answer_to-written.ensures.0)

pub bounds-out-written : goal.bounds-out-written
bounds-out-written c =
    let a = c.answer_to-written in
    omega (arith, answer_long c.args.job.now, a.ensures.0, ap length a.ensures.1, length-append (answer_of c.args.job.now) (drop a.result c.args.out.now))

pub returns : goal.returns
returns c =
    let a = c.answer_to-written in
    run_whole c.args.job.now c.args.out.now c.room.result c.room.ensures a.new.out a.result c.if-out-room.false a.ensures.0 a.ensures.1
