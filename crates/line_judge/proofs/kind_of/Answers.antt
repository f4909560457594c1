-- `kind_of` meets its contract, by the number.
use Rattle.morph.proofs.Order.{kind_dilation}
use Rattle.line_judge.proofs.kind_of.Goals as goal

pub returns-else-kind-eq0 : goal.returns-else-kind-eq0
returns-else-kind-eq0 c = kind_dilation _ c.if-kind-eq0.false
