-- `columns::sound` meets its contract. The loop's invariant: the flag is that of the records passed.
use Rattle.std.proofs.Common.{◌≡◌, length, take}
use Rattle.memory.specs.Memory.{sound_records}
use Rattle.columns.proofs.sound.Given as goal

abbrev pub invariant-loop-start : goal.invariant-loop-start
invariant-loop-start l = l.good ≡ sound_records l.places (take (length l.yielded) l.starts) (take (length l.yielded) l.lengths)
