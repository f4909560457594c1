-- By the number that the output row leads to.
use mathlib.Core.Path.{refl}
use Rattle.morph.proofs.Exits.{first_up}
use Rattle.firmware.specs.Row.{filter_positions_number}
use Rattle.firmware.proofs.Laws.{both_second}
use Rattle.firmware.proofs.judge_both.Goals as goal

pub returns-in_err-judge-clause-number : goal.returns-in_err-judge-clause-number
unfolding filter_positions_number
returns-in_err-judge-clause-number c = first_up c.in_err-judge.field-0.0 _ _ _ c.from_residual.ensures.1 c.in_err-judge.ensures.number

pub returns-clause-number : goal.returns-clause-number
returns-clause-number c = both_second _ _ _ _ _ _ c.in_ok-judge.ensures.number refl c.judge-2.ensures.number
