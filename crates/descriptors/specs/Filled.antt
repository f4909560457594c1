-- What a part is filled with, and what of a frame is written. Which bytes the system brings, and when an input ends, no contract of the library says; of a reader whose bytes are known they are said, and of a writer.
use Rattle.std.specs.Prelude.{◌≡◌, ℕ, ◌≤◌, ◌<◌, List, length, take, Ok, Err, Some, None}
use Rattle.std.specs.declared.option.Option.{Option}
use Rattle.std.specs.declared.result.Result.{Result}
use Rattle.std.specs.Io.KnownBytes.{Consumes, Appends, Keeps, IsAtEnd}
use Rattle.descriptors.specs.declared.Unread.{Unread}
use Rattle.descriptors.specs.declared.Unwritten.{Unwritten}

-- no more bytes than the part holds
abbrev pub Fills : ℕ → Result ℕ Unread → Type 0
Fills size (Ok got) = got ≤ size
Fills size (Err _) = Unit {0}

-- Known bytes that a reader has left, before and after, and the part: what stands at its front are the next of them, in order; and fewer than the part holds come only where the reader is at its end.
abbrev pub Brings : Option (List ℕ) → Option (List ℕ) → List ℕ → Result ℕ Unread → Type 0
Brings before after part (Ok got) = Consumes before after (take got part) × (got < length part → IsAtEnd after)
Brings before after part (Err _) = Unit {0}

-- the same of one read, which may bring less; none comes only at the end, or where there is no room
abbrev pub BringsSome : Option (List ℕ) → Option (List ℕ) → List ℕ → Result ℕ Unread → Type 0
BringsSome before after part (Ok got) = Consumes before after (take got part) × (got ≡ 0 → 0 < length part → IsAtEnd after)
BringsSome before after part (Err _) = Unit {0}

-- Known bytes that a writer holds, before and after: they grow by all that is written; or a write failed, and they grow by the first that were taken, which are fewer.
abbrev pub Writes : {U : Type 0} → Option (List ℕ) → Option (List ℕ) → List ℕ → Result U Unwritten → Type 0
Writes before after bytes (Ok _) = Appends before after bytes
Writes before after bytes (Err lost) = (lost.taken < length bytes) × Appends before after (take lost.taken bytes)

-- the same of one write, which may take less, but takes one byte at least where it does not fail
abbrev pub WritesSome : Option (List ℕ) → Option (List ℕ) → List ℕ → Option ℕ → Type 0
WritesSome before after bytes (Some taken) = (0 < taken) × (taken ≤ length bytes) × Appends before after (take taken bytes)
WritesSome before after bytes None = Keeps before after
