-- What is lent is judged, then the picture is read, and then the plan is run.
use mathlib.Core.Path.{sym, ◌∙◌}
use native.Mathlib.Omega.{arith}
use Rattle.plan_record.specs.Plan.{stages_of, record_number}
use Rattle.plan_record.proofs.Named.{judged_count}
use Rattle.whole_judge.proofs.Judging.{lent_all, whole_refused, whole_not_finite, whole_done}
use Rattle.whole_judge.proofs.Plan.{changes}
use Rattle.whole.proofs.apply.Goals as goal

pub returns-in-Err : goal.returns-in-Err
returns-in-Err g c =
    let a = c.args in
    let K = g.S.Sample.samples in
    let n = c.number.ensures in
    whole_refused K (stages_of K.order a.plan) (record_number a.plan) a.width a.rows a.picture.now a.row.now (n.0 ∙ rw c.judge-judged.ensures at c.in-Err.ensures) (λ z. absurd (omega arith)) c.say.ensures

pub say_not_finite-requires : goal.say_not_finite-requires
say_not_finite-requires g c = (lent_all _ _ _ _ _ (rw c.judge-judged.ensures at (sym c.in_default.ensures))).some

pub returns-in-Some : goal.returns-in-Some
returns-in-Some g c =
    let a = c.args in
    let K = g.S.Sample.samples in
    let (told, inside, stays) = c.in-Some.ensures in
    whole_not_finite K (stages_of K.order a.plan) (record_number a.plan) a.width a.rows a.picture.now a.row.now (rw c.judge-judged.ensures at (sym c.in_default.ensures)) c.in-Some.place _ told inside stays c.say_not_finite.ensures

pub invariant_of-run : goal.invariant_of-run
invariant_of-run g c = record { rows_fit = (lent_all _ _ _ _ _ (rw c.judge-judged.ensures at (sym c.in_default.ensures))).rows_fit }

pub run-requires : goal.run-requires
run-requires g c =
    let a = c.args in
    let l = lent_all _ _ _ _ _ (rw c.judge-judged.ensures at (sym c.in_default.ensures)) in
    let (_, _, fair) = c.in_default-take.ensures in
    ((judged_count a.plan l.planned).1, c.picture-1.given ∙ l.whole, l.room, fair)

pub returns : goal.returns
returns g c =
    let a = c.args in
    let K = g.S.Sample.samples in
    let z = rw c.judge-judged.ensures at (sym c.in_default.ensures) in
    let l = lent_all _ _ _ _ _ z in
    let (good, taken, _) = c.in_default-take.ensures in
    whole_done K (stages_of K.order a.plan) (record_number a.plan) a.width a.rows a.picture.now a.row.now z _ _ good c.say-2.ensures
    (changes K g.S.Choice.Fair a.plan a.width a.rows a.picture.now _ a.row.now _ _ taken (c.picture-2-1.given ∙ c.picture-1.given ∙ l.whole) c.run.ensures)
