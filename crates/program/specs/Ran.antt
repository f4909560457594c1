-- What a run tells at its end, by counts: as many bytes were given to be written as the answer has. Which bytes a write was given is asked of each write (`Due`, ports/specs/Ports.antt).
use Rattle.std.specs.Prelude.{◌≡◌, true, List, [], ◌++◌, ℕ, ◌+◌, ◌≤◌, length, Ok, Err}
use Rattle.std.specs.declared.result.Result.{Result}
use Rattle.answer.specs.Answer.{answer_of}
use Rattle.ports.specs.declared.Moved.{Moved}
use Rattle.ports.specs.declared.Loss.{Loss}

abbrev pub moved_of : Result Moved Loss → Moved
moved_of (Ok m) = m
moved_of (Err l) = l.moved

-- as many bytes as the answer has; where a read or a write failed, no more than that were taken, with those of the write itself
abbrev pub GivenOf : List ℕ → Result Moved Loss → Type 0
GivenOf answer (Ok m) = m.given ≡ length answer
GivenOf answer (Err l) = l.moved.given + l.taken ≤ length answer

-- There are bytes that came, as many as were read (of a part whose read failed, none). Whatever comes behind them, and nothing does once a read was short, as many bytes were given as the answer to it all has:
-- so a run that no read cut short has read as far as the answer's length depends on what is read.
pub record ProgramRan (r : Result Moved Loss) : Type 0 where
  pub came : List ℕ
  pub read : (moved_of r).read ≡ length came
  pub gave : (rest : List ℕ) → ((moved_of r).ended ≡ true → rest ≡ []) → GivenOf (answer_of (came ++ rest)) r
