-- `run_front` meets its contract: the stage's own step on its part, which comes back before what is behind.
use Rattle.memory.specs.Memory.{memory}
use Rattle.chain.proofs.Plan.{front_lent}
use Rattle.chain.proofs.run_front.Goals as goal

pub step-comparisons-requires : goal.step-comparisons-requires
step-comparisons-requires g c =
    let a = c.args in
    let (l, e) = front_lent g.S.Sample.samples a.stage a.rows a.t (memory a.values.now a.positions.now a.starts.now a.lengths.now) a.row.now c.requires.0 c.cells_of-cells.result c.cells_of-cells.ensures in
    (c.requires.0.small, c.requires.1, l, e)
