-- `drain` meets its contract, by what it is judged.
use mathlib.Core.Path.{◌≡◌, refl, sym}
use borrow.Author.Rules.{rules}
use Rattle.morph.proofs.Exits.{refused_some}
use Rattle.line.specs.Line.{line_state}
use Rattle.line_judge.specs.Steps.{DrainNumber}
use Rattle.line_judge.proofs.Numbers.{drain_zero}
use Rattle.line_judge.proofs.Steps.{answers_refusal, answers_step}
use Rattle.line.proofs.drain.Goals as goal

pub drain_on-requires : goal.drain_on-requires
drain_on-requires g c =
    let z : 0 ≡ DrainNumber g.S.Sample.samples (line_state c.args.line) = rw c.shape.ensures at c.in-Ok.ensures in
    (search rules, (search rules, drain_zero _ _ _ _ _ _ _ (sym z)))

pub returns-in-Ok : goal.returns-in-Ok
returns-in-Ok g c =
    let z : 0 ≡ DrainNumber g.S.Sample.samples (line_state c.args.line) = rw c.shape.ensures at c.in-Ok.ensures in
    answers_step g.S.Sample.samples _ _ _ _ _ _ z refl c.drain_on.ensures

pub returns-in-Err : goal.returns-in-Err
returns-in-Err g c = let h = rw c.shape.ensures at c.in-Err.ensures in answers_refusal g.S.Sample.samples _ _ _ _ _ _ h (refused_some _) c.refused.ensures
