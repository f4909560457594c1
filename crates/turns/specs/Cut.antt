-- A job's bytes cut into groups, however they come: turn after turn until the machine is over, and all that the turns put.
use Rattle.std.specs.Prelude.{◌≡◌, true, List, [], ◌++◌, ℕ, ◌<◌, length, take, drop}
use Rattle.turns.specs.declared.Machine.{Machine}
use Rattle.turns.specs.declared.Turned.{Turned}
use Rattle.turns.specs.Inner.{MachineMemory, is_over, Turns}

-- The turns of a machine with that memory over those bytes, and what they put. At each turn some of the bytes are at hand and the others come later; none come later where
-- fewer are at hand than the machine wants. What a turn does not use stays at hand.
pub data Cut : Machine → MachineMemory → List ℕ → List ℕ → Type 0 where
  none : {m : Machine} {L : MachineMemory} {bytes : List ℕ} → is_over m.phase ≡ true → Cut m L bytes []
  turned : {m : Machine} {L : MachineMemory} {out : List ℕ} (hand later : List ℕ) (L' : MachineMemory) (frame : List ℕ) (r : Turned) → (length hand < m.wants → later ≡ []) → Turns m hand L L' frame r
      → Cut r.machine L' (drop r.used hand ++ later) out → Cut m L (hand ++ later) (take r.put frame ++ out)
