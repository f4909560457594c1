-- An accepted state has a plan that is accepted, and as much memory as it needs has all its records.
use mathlib.Core.Path.{sym}
use native.Mathlib.Nat.{le_trans}
use Rattle.picture_state.proofs.Numbers.{state_accepted, memory_accepted}
use Rattle.picture_state.proofs.judging.judge.Goals as goal

pub judge_memory-requires : goal.judge_memory-requires
judge_memory-requires c = let (p, r) = state_accepted c.args.state (sym c.in_ok-judge_state.ensures) in (r.plan.few, r.narrow)

pub records_sound-requires : goal.records_sound-requires
records_sound-requires c =
    let s = c.args.state in
    let (p, r) = state_accepted s (sym c.in_ok-judge_state.ensures) in
    let (_, l) = memory_accepted s.plan s.width c.args.cells c.args.records (sym c.in_ok-judge_memory.ensures) in
    (p, r.narrow, le_trans l c.requires.0, le_trans l c.requires.1)
