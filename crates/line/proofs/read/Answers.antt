-- `read` meets its contract, by what it is judged.
use mathlib.Core.Path.{◌≡◌, refl, sym}
use borrow.Author.Rules.{rules}
use Rattle.morph.proofs.Exits.{refused_some}
use Rattle.line.specs.Line.{line_state}
use Rattle.line_judge.specs.Steps.{ReadNumber}
use Rattle.line_judge.proofs.Numbers.{read_zero}
use Rattle.line_judge.proofs.Steps.{taken_accepts, answers_refusal, answers_step}
use Rattle.line.proofs.read.Goals as goal

pub read_on-requires : goal.read_on-requires
read_on-requires g c =
    let z : 0 ≡ ReadNumber g.S.Sample.samples (line_state c.args.line) c.args.v = rw (c.shape.ensures, c.is_good.ensures) at c.in-Ok.ensures in
    let (s, l, _) = read_zero _ _ _ _ _ _ _ _ (sym z) in
    (search rules, (search rules, (s, l)))

pub returns-in-Ok : goal.returns-in-Ok
returns-in-Ok g c =
    let z : 0 ≡ ReadNumber g.S.Sample.samples (line_state c.args.line) c.args.v = rw (c.shape.ensures, c.is_good.ensures) at c.in-Ok.ensures in
    answers_step g.S.Sample.samples _ _ _ _ _ _ z refl (taken_accepts g.S.Sample.samples (line_state c.args.line) _ _ c.args.v _ c.taken.ensures c.read_on.ensures)

pub returns-in-Err : goal.returns-in-Err
returns-in-Err g c = let h = rw (c.shape.ensures, c.is_good.ensures) at c.in-Err.ensures in answers_refusal g.S.Sample.samples _ _ _ _ _ _ h (refused_some _) c.refused.ensures
