-- The value equals 0.0, or it is no zero.
use Rattle.std.proofs.Common.{sym, ap, ◌∙◌}
use Rattle.std.specs.Float.Ieee.{eq}
use Rattle.sample.proofs.Floats.{literal_zero, plus_yes, plus_no}
use Rattle.sample.proofs.rate.plus_zero.Goals as goal

pub returns-then-x : goal.returns-then-x
returns-then-x c = let x = c.args.x in literal_zero ∙ plus_yes x (ap (eq x) (sym literal_zero) ∙ c.if-x.true)

pub returns-else-x : goal.returns-else-x
returns-else-x c = let x = c.args.x in plus_no x (ap (eq x) (sym literal_zero) ∙ c.if-x.false)
