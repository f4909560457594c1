-- `age` meets its contract: the definition, word for word.
use Rattle.std.proofs.Common.{arith, ap, ◌+◌, ◌-◌, ◌%◌}
use Rattle.morph.specs.Cell.{age_of}
use Rattle.queue.proofs.age.Goals as goal

pub returns : goal.returns
unfolding age_of
returns c = (ap (λ r. (c.args.s + 255 - r % 128) % 128 + 1) c.wide.ensures.0, omega arith, omega arith)
