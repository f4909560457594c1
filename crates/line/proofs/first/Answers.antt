-- `first` meets its contract: the queue is empty.
use mathlib.Core.Path.{refl}
use Rattle.line_judge.specs.Steps.{first_line}
use Rattle.line.proofs.first.Goals as goal

pub returns : goal.returns
unfolding first_line
returns g c = λ n e. let q = c.empty.ensures in rw (e, q.0, q.1, q.2, q.3) refl
