-- By what the answer says.
use mathlib.Core.Path.{refl, ap, ◌∙◌}
use Prim.Native.Nat.{ℕ, ◌+◌}
use Rattle.turns.specs.declared.Machine.{Machine}
use Rattle.turns.specs.declared.Turned.{Turned}
use Rattle.turns.specs.Inner.{at_rows_of}
use Rattle.turns.proofs.after.Goals as goal

abbrev turned : Machine → ℕ → ℕ → Turned
turned m used put = record { machine = m; used = used; put = put }

pub returns-in-Row : goal.returns-in-Row
returns-in-Row c =
    let a = c.args in
    rw c.in-Row.is
    (refl, ap (λ m. turned m a.used (1 + c.row_size.result)) c.at_rows.ensures ∙ ap (λ (n : ℕ). turned (at_rows_of a.next) a.used (1 + n)) c.row_size.ensures.0)

pub returns-in-NotYet : goal.returns-in-NotYet
returns-in-NotYet c = rw c.in-NotYet.is (refl, ap (λ m. turned m c.args.used 0) c.at_rows-in-NotYet.ensures)

pub returns-in-Refused : goal.returns-in-Refused
returns-in-Refused c = rw c.in-Refused.is c.ended.ensures
