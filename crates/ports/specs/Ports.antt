-- What a read and a write of a run tell, and when they may be made. Which bytes the system brings, and that it keeps what it is given, no contract of the library says.
use Rattle.std.specs.Prelude.{◌≡◌, true, false, List, [], ◌++◌, ℕ, ◌+◌, ◌≤◌, ◌<◌, ltb, length, take, drop, Ok, Err}
use Rattle.std.specs.declared.result.Result.{Result}
use Rattle.answer.specs.Answer.{answer_of}
use Rattle.ports.specs.declared.Moved.{Moved}
use Rattle.ports.specs.declared.Loss.{Loss}
use Rattle.ports.specs.declared.Received.{Received}

-- The total that is lent to every call, and moved on by it, is the sum of both counts. Older counts have a smaller sum, unless nothing went through since: so nothing is read or written
-- twice and counted once. They are small enough to be counted on.
pub record Latest (m : Moved) (total : ℕ) : Type 0 where
  pub all : total ≡ m.read + m.given
  pub read_few : m.read ≤ 4294967296
  pub given_few : m.given ≤ 4294967296

-- a read of a part of that length that did not fail: what comes is counted, and the input has ended where it is less than the part; once it has ended nothing comes
pub record Comes (before : Moved) (size total got : ℕ) (m : Moved) : Type 0 where
  pub all : total ≡ m.read + m.given
  pub within : got ≤ size
  pub after : before.ended ≡ true → (m ≡ before) × (got ≡ 0)
  pub moved : before.ended ≡ false → m ≡ record { read = before.read + got; ended = ltb got size; given = before.given }

-- so many bytes came; or a read failed, before the input's end, and what was moved before it is known
abbrev pub Receives : Moved → ℕ → ℕ → Result Received Loss → Type 0
Receives before size total (Ok r) = Comes before size total r.got r.moved
Receives before size total (Err l) = (l.moved ≡ before) × (before.ended ≡ false) × (l.taken ≡ 0)

-- What may be written next: the bytes of the answer from the place on where the last write stopped. The bytes at hand are the last that came, after some earlier ones; whatever comes
-- behind them, and nothing does once the input has ended, these bytes of the answer are the same.
pub record Due (before : Moved) (hand frame : List ℕ) (put : ℕ) : Type 0 where
  pub earlier : List ℕ
  pub read : before.read ≡ length earlier + length hand
  pub next : (rest : List ℕ) → (before.ended ≡ true → rest ≡ []) → take put frame ≡ take put (drop before.given (answer_of (earlier ++ hand ++ rest)))

-- so many bytes more were given; or a write failed, fewer were taken, and what was moved before it is known
abbrev pub Gave : Moved → ℕ → ℕ → Result Moved Loss → Type 0
Gave before put total (Ok m) = (m ≡ record { read = before.read; ended = before.ended; given = before.given + put }) × (total ≡ m.read + m.given)
Gave before put total (Err l) = (l.moved ≡ before) × (l.taken < put)
