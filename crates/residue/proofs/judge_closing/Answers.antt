-- Row 0 of that width breaks no rule of its own.
use Rattle.std.proofs.Common.{sym, ◌∙◌}
use Rattle.residue.proofs.Numbers.{closing_band}
use Rattle.residue.proofs.judge_closing.Goals as goal

pub returns : goal.returns
returns c = c.judge.ensures ∙ sym (closing_band _ _ _ _ 0 _ _ (λ h. h))
