-- Where the columns of origins are kept. A queue's entry tells the row that its value came from; the column within that row is kept beside the queues, for each of the last P rows, P being the places of a
-- column: P rows of W columns, lent as one slice. Row r of the picture has those from (r % P) * W on, until row r + P takes their place.
use Rattle.std.specs.Prelude.{◌≡◌, List, [], ◌++◌, ℕ, ◌+◌, ◌*◌, ◌%◌, ◌≤◌, ◌<◌, length, get_or, take, drop}
use Rattle.morph.specs.Picture.{Picture, Stage as Filter}
use Rattle.morph.specs.Origin.{positions_line}
use Rattle.memory.specs.Memory.{cells_at}

-- After s steps over p, for each row that is read and still under the window: the columns that its across-results came from.
abbrev pub ColumnsKept : {A : Type 0} → Filter A → ℕ → ℕ → Picture A → ℕ → List ℕ → Type 0
ColumnsKept F P W p s columns =
    (r : ℕ) → r < s → r < length p → s ≤ r + P → cells_at W (r % P) columns ≡ positions_line F.order F.back F.ahead (get_or p r [])

-- the columns with other ones in the place of row j's
abbrev pub columns_put : ℕ → ℕ → List ℕ → List ℕ → List ℕ
columns_put W j new columns = take (j * W) columns ++ (new ++ drop (j * W + W) columns)
