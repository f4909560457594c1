-- The three turns: the tail, a row of which bytes are missing, and a step.
use native.Mathlib.Omega.{arith}
use lib.ListN.{length}
use Rattle.picture_state.proofs.Numbers.{ahead_few}
use Rattle.turns.specs.Inner.{machine_memory}
use Rattle.turns.proofs.Turn.{AtRows, stands_rows, row_there, both_size, short_turns, step_turns, tail_turns}
use Rattle.turn_rows.proofs.turn.Goals as goal
use Rattle.turn_rows.proofs.turn.Goals.{Start}

at_rows : (s : Start) → AtRows s.args.machine
at_rows s = stands_rows s.args.machine (machine_memory s.args.greys.now s.args.rates.now s.args.positions.now s.args.starts.now s.args.lengths.now) s.requires.0 s.requires.1

pub look_ahead-requires : goal.look_ahead-requires
look_ahead-requires c = (at_rows (goal.at.look_ahead-requires c).Start).sound.plan.few

pub overflow_add-state : goal.overflow_add-state
overflow_add-state c =
    let a = at_rows (goal.at.overflow_add-state c).Start in
    let b = a.few in
    omega (arith, ahead_few c.args.machine.state.plan a.sound.plan, c.look_ahead.ensures)

pub returns-then-state-look_ahead : goal.returns-then-state-look_ahead
returns-then-state-look_ahead c =
    tail_turns c.args.machine c.args.bytes.now (machine_memory c.args.greys.now c.args.rates.now c.args.positions.now c.args.starts.now c.args.lengths.now) (machine_memory c.args.greys.now c.args.rates.now c.args.positions.now c.args.starts.now c.args.lengths.now) _ _ c.requires.0 c.requires.1 (omega arith) _ c.judge_tail.ensures
    (omega (arith, c.look_ahead.ensures, c.if-state-look_ahead.true)) c.ended.ensures

pub returns-then-bytes-wants : goal.returns-then-bytes-wants
returns-then-bytes-wants c =
    short_turns c.args.machine c.args.bytes.now (machine_memory c.args.greys.now c.args.rates.now c.args.positions.now c.args.starts.now c.args.lengths.now) (machine_memory c.args.greys.now c.args.rates.now c.args.positions.now c.args.starts.now c.args.lengths.now) _ _ c.requires.0 c.requires.1 (omega arith)
    (omega (arith, c.look_ahead.ensures, c.if-state-look_ahead.false)) c.if-bytes-wants.true c.ended-then-bytes-wants.ensures

pub step-stepped-requires : goal.step-stepped-requires
step-stepped-requires c =
    let a = at_rows (goal.at.step-stepped-requires c).Start in
    (a.sample, a.sound.narrow, c.requires.2, c.requires.3, c.requires.4, row_there c.args.machine (length c.args.bytes.now) a c.if-bytes-wants.false)

pub after-requires : goal.after-requires
after-requires c =
    let (p, w) = both_size _ _ _ _ _ _ _ c.step-stepped.ensures (at_rows (goal.at.after-requires c).Start).sound in
    (omega (arith, c.step-stepped.auto.frame), p, w)

pub returns : goal.returns
returns c =
    let k = c.step-stepped in
    step_turns c.args.machine c.args.bytes.now (machine_memory c.args.greys.now c.args.rates.now c.args.positions.now c.args.starts.now c.args.lengths.now) _ _ _ _ _ _ c.requires.0 c.requires.1 (omega (arith, k.auto.frame)) c.after.auto.frame c.if-bytes-wants.false
    (omega (arith, c.look_ahead.ensures, c.if-state-look_ahead.false)) k.ensures c.after.ensures
