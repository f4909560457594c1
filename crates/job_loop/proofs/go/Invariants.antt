-- Lengths stay, and `Going` is carried round.
use mathlib.Core.Path.{◌≡◌}
use lib.ListN.{length}
use Rattle.turns.specs.Inner.{machine_memory, left_of}
use Rattle.job_loop.proofs.Going.{Going}
use Rattle.job_loop.proofs.go.Given as goal

abbrev pub invariant-loop-machine : goal.invariant-loop-machine
invariant-loop-machine l =
    (length l.out ≡ length l.initial.out) × (length l.frame ≡ length l.initial.frame) × (length l.row ≡ length l.initial.row) × (length l.came ≡ length l.initial.came) × (length l.greys ≡ length l.initial.greys) × (length l.rates ≡ length l.initial.rates)
    × (length l.positions ≡ length l.initial.positions) × (length l.starts ≡ length l.initial.starts) × (length l.lengths ≡ length l.initial.lengths) × Going l.job l.initial.out l.out (machine_memory l.greys l.rates l.positions l.starts l.lengths) l.machine l.at l.done

abbrev pub decreases-loop-machine : goal.decreases-loop-machine
decreases-loop-machine l = left_of l.machine
