-- The number of a row, as a lent cell keeps it: "cells now keep the row number's remainder by 128, in fixed runs as well, and every statement about queues reads it through the step count,
-- that is the stage's own" (02, 10/13). A window has at most 63 places, so that the rows under it have different remainders, and the steps done tell which row is meant.
use Rattle.std.specs.Prelude.{cond, ◌&&◌, ℕ, ◌+◌, ◌-◌, ◌%◌, leb, ltb}
use Rattle.morph.specs.Line.{Entry}

-- how far before row s the nearest row stands whose number has the remainder of r: 1 to 128
unfoldable pub age_of : ℕ → ℕ → ℕ
age_of s r = (s + 255 - r % 128) % 128 + 1

-- The number of that row, s being the steps done. Where r is no remainder, or there is no such row, it is s itself, which no row read has as its number: no queue holds it, so that a cell
-- which means no row is never taken for one that does.
unfoldable pub row_of : ℕ → ℕ → ℕ
row_of s r = cond (ltb r 128 && leb (age_of s r) s) (s - age_of s r) s

-- an entry as it stands in lent cells, read after s steps
abbrev pub read_at : {A : Type 0} → ℕ → Entry A → Entry A
read_at s e = record { value = e.value; position = row_of s e.position }
