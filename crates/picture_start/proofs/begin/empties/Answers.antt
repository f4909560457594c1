-- `empties` meets its contract: judged, and then the records that are needed are cleared.
use mathlib.Core.Path.{sym, ◌∙◌}
use native.Mathlib.Omega.{arith}
use Rattle.plan_record.proofs.Exits.{said_up, refused_some}
use Rattle.picture_start.proofs.Starting.{start_fits, empties_refused, empties_went}
use Rattle.picture_start.proofs.begin.empties.Goals as goal

pub returns-in_err-judge_start : goal.returns-in_err-judge_start
returns-in_err-judge_start c =
    let refusal = c.in_err-judge_start.field-0.0 in
    let e = rw c.min-lent.ensures at c.in_err-judge_start.ensures in
    let t = said_up refusal _ c.from_residual.ensures.1 e in
    empties_refused _ _ _ _ _ t (λ z. refused_some refusal (e ∙ sym t ∙ z))

pub records-records-requires : goal.records-records-requires
records-records-requires c = let (f, w, _) = start_fits _ _ _ _ _ _ (sym c.in_ok-judge_start.ensures) in (f, w)

pub clear-requires : goal.clear-requires
clear-requires c =
    let f = start_fits _ _ _ _ _ _ (sym c.in_ok-judge_start.ensures) in omega (arith, f.2, c.records-records.ensures, c.min-lent.ensures)

pub clear-requires-2 : goal.clear-requires-2
clear-requires-2 c =
    let f = start_fits _ _ _ _ _ _ (sym c.in_ok-judge_start.ensures) in omega (arith, f.2, c.records-records.ensures, c.min-lent.ensures)

pub returns : goal.returns
returns c = empties_went _ _ _ _ _ _ _ (sym (rw c.min-lent.ensures at c.in_ok-judge_start.ensures)) c.records-records.ensures c.clear.ensures c.clear-2.ensures
