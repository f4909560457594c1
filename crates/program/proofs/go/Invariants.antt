-- `Going` is carried round, and the frame keeps its length.
use Rattle.std.proofs.Common.{◌≡◌, length}
use Rattle.turns.specs.Inner.{machine_memory, left_of}
use Rattle.program.proofs.Runs.{Going}
use Rattle.program.proofs.go.Given as goal

abbrev pub invariant-loop-machine : goal.invariant-loop-machine
invariant-loop-machine g l = Going l.bytes l.hand l.total (machine_memory l.greys l.rates l.positions l.starts l.lengths) l.machine × (length l.frame ≡ 16385)

abbrev pub decreases-loop-machine : goal.decreases-loop-machine
decreases-loop-machine g l = left_of l.machine
