-- A queue in a ring of n places: entry i stands at the place start + i, past the end from the start again.
use Rattle.std.specs.Prelude.{cond, List, ℕ, ◌+◌, ◌-◌, ltb, get_or}
use Rattle.morph.specs.Lists.{tabulate}
use Rattle.morph.specs.Line.{Entry}

unfoldable pub wrap : ℕ → ℕ → ℕ
wrap n j = cond (ltb j n) j (j - n)

-- What stands at each place is said by a function, so that one definition serves an array of entries, two arrays side by side, and a part of lent memory.
unfoldable pub ring : {B : Type 0} → ℕ → ℕ → ℕ → (ℕ → B) → List B
ring n start len cell = tabulate len (λ i. cell (wrap n (start + i)))

-- the entry of place k of two arrays, `none` standing where an array has no place k: the one definition by which a cell is read
abbrev pub cell_at : {A : Type 0} → A → List A → List ℕ → ℕ → Entry A
cell_at none values positions k = record { value = get_or values k none; position = get_or positions k 0 }

-- the entries of a queue over two arrays
unfoldable pub entries : {A : Type 0} → A → ℕ → ℕ → ℕ → List A → List ℕ → List (Entry A)
entries none n start len values positions = ring n start len (cell_at none values positions)
