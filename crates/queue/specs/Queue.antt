-- A queue in its places, in the words of crate morph: it stands in `length vs` places, the values vs beside the positions ps, from `start` on.
use Rattle.std.specs.Prelude.{List, ℕ, length}
use Rattle.morph.specs.Line.{Entry}
use Rattle.morph.specs.Ring.{entries}
use Rattle.sample.specs.Samples.{Samples}

module _ {A : Type 0} (K : Samples A) where
  -- the queue as a list, oldest first
  abbrev pub listed : List A → List ℕ → ℕ → ℕ → List (Entry A)
  listed vs ps start count = entries K.order.blank (length vs) start count vs ps
