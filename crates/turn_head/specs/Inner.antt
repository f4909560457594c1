-- Inner: only contracts of inner functions, and proofs, cite what stands here; no promise of a public call is made of it.
-- A turn at the head: it is lent the column records alone, and holds whatever the cells are.
use Rattle.std.specs.Prelude.{List, ℕ, ◌≤◌, ◌<◌, length, Float}
use Rattle.turns.specs.declared.Phase.TheVariants.{Head}
use Rattle.turns.specs.declared.Machine.{Machine}
use Rattle.turns.specs.declared.Turned.{Turned}
use Rattle.turns.specs.Inner.{machine_memory, MeansAt, left_at, left_of, Goes}

pub record HeadTurns (m : Machine) (bytes starts lengths starts' lengths' frame : List ℕ) (r : Turned) : Type 0 where
  pub used_there : r.used ≤ length bytes
  pub put_there : r.put ≤ length frame
  pub fewer : left_of r.machine < left_at Head m.wants m.state
  pub goes : (greys : List ℕ) (rates : List Float) (positions : List ℕ) (f : List ℕ → List ℕ)
      → MeansAt Head m.wants m.state (machine_memory greys rates positions starts lengths) f → Goes m bytes (machine_memory greys rates positions starts' lengths') f frame r

-- the same of whatever machine stands at the head
abbrev pub Begins : List ℕ → List ℕ → List ℕ → List ℕ → List ℕ → List ℕ → Turned → Type 0
Begins bytes starts lengths starts' lengths' frame r = (m : Machine) → m.wants ≤ 86 → HeadTurns m bytes starts lengths starts' lengths' frame r
