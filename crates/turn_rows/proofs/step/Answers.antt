-- The kind of samples is chosen by the state's.
use mathlib.Core.Logic.{inl, inr}
use lib.ListN.{length}
use Rattle.turns.proofs.Turn.{grey_there, rate_there, is_one}
use Rattle.turn_rows.proofs.step.Goals as goal

pub take-requires : goal.take-requires
take-requires c =
    (c.requires.1, c.requires.2, grey_there c.args.state (length c.args.bytes.now) c.if-state-eq0.true c.requires.5)

pub returns-then-state-eq0 : goal.returns-then-state-eq0
returns-then-state-eq0 c = inl (c.if-state-eq0.true, c.take.ensures)

pub take-requires-2 : goal.take-requires-2
take-requires-2 c =
    let one = is_one c.args.state.sample c.requires.0 c.if-state-eq0.false in
    (c.requires.1, c.requires.2, c.requires.3, c.requires.4, rate_there c.args.state (length c.args.bytes.now) one c.requires.5)

pub returns : goal.returns
returns c = inr (is_one c.args.state.sample c.requires.0 c.if-state-eq0.false, c.take-2.ensures)
