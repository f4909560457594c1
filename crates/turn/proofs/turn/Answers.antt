-- By the phase.
use Rattle.turns.specs.Inner.{machine_memory}
use Rattle.turn.proofs.Laws.{head_stands, head_turns, over_turns}
use Rattle.turn.proofs.turn.Goals as goal

pub turn-requires : goal.turn-requires
turn-requires c =
    let a = c.args in
    let (room, few) = head_stands a.machine (machine_memory a.greys.now a.rates.now a.positions.now a.starts.now a.lengths.now) c.in-Head.is c.requires.0 in
    (few, c.requires.1, room.starts, room.lengths)

pub returns-in-Head : goal.returns-in-Head
returns-in-Head c =
    let a = c.args in
    head_turns a.machine a.bytes.now a.greys.now a.rates.now a.positions.now a.starts.now a.lengths.now _ _ _ _ c.in-Head.is c.turn.ensures

pub returns-in-Over : goal.returns-in-Over
returns-in-Over c =
    let a = c.args in
    over_turns a.machine a.bytes.now (machine_memory a.greys.now a.rates.now a.positions.now a.starts.now a.lengths.now) a.frame.now _ c.in-Over.is c.stays.ensures
