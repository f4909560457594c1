-- Inner: only contracts of inner functions, and proofs, cite what stands here; no promise of a public call is made of it.
-- One turn on an output: what the machine still means fits into it, and what the turn puts stands at its front.
use Rattle.std.specs.Prelude.{◌≡◌, List, ◌++◌, ℕ, ◌≤◌, length, take, drop}
use Rattle.turns.specs.declared.Machine.{Machine}
use Rattle.turns.specs.declared.Turned.{Turned}
use Rattle.turns.specs.Inner.{MachineMemory, Means, Turns}

-- the machine means something with that memory, and all that is to be written for those bytes fits
pub record Fits (m : Machine) (L : MachineMemory) (bytes out : List ℕ) : Type 0 where
  pub f : List ℕ → List ℕ
  pub means : Means m L f
  pub fits : length (f bytes) ≤ length out

-- a turn, and the output after it: what the turn put, and then what stood there
pub record Puts (m : Machine) (bytes : List ℕ) (L L' : MachineMemory) (frame out out' : List ℕ) (r : Turned) : Type 0 where
  pub turns : Turns m bytes L L' frame r
  pub inside : r.put ≤ length out
  pub stands : out' ≡ take r.put frame ++ drop r.put out
