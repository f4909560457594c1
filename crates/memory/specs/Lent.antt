-- What lent memory holds when a call is given it, and what it holds when the call is done with it.
use Rattle.std.specs.Prelude.{List, ℕ}
use Rattle.std.proofs.Common.{MutBor}
use Rattle.memory.specs.Memory.{Memory, memory}
use Rattle.memory.specs.declared.Lent.{Lent}

abbrev pub given : {A : Type 0} → Lent A → Memory A
given m = memory m.values.now m.positions.now m.starts.now m.lengths.now

-- at the end a struct is told as its fields in nested pairs
abbrev pub left : {A : Type 0} → MutBor (List A) × (MutBor (List ℕ) × (MutBor (List ℕ) × (MutBor (List ℕ) × Unit {0}))) → Memory A
left m = memory m.0.now m.1.0.now m.1.1.0.now m.1.1.1.0.now
