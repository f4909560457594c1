-- `records_sound` meets its contract. The loop's invariant: the flag tells of the stages so far.
use mathlib.Core.Path.{◌≡◌}
use Prim.Native.Nat.{◌*◌}
use lib.ListN.{take}
use Rattle.memory.specs.Memory.{all_sound}
use Rattle.picture_state.proofs.judging.records_sound.Given as goal

abbrev pub invariant-loop-stage : goal.invariant-loop-stage
invariant-loop-stage l = (l.lo ≡ l.stage-index * l.width) × (l.good ≡ all_sound l.width (take l.stage-index l.stage-items) l.starts l.lengths)
