-- `run` meets its contract: the stage's own step on the front of the memory, and the stages behind it on the rest; the stages left fall.
use native.Mathlib.Omega.{arith}
use Rattle.std.proofs.lemmas.List.{nil_from_length}
use Rattle.chain.proofs.Plan.{ready_begins, plan_none, plan_early, rest_ready, plan_back}
use Rattle.chain.proofs.+run.Goals as goal

pub returns-in_default : goal.returns-in_default
returns-in_default g t c =
    let e = nil_from_length c.args.stages.now c.in_default.ensures.cases in
    rw e (plan_none g.S.Sample.samples _ _ _ _ (rw e at c.requires.0))

pub run_front-f-requires : goal.run_front-f-requires
run_front-f-requires g t c = (ready_begins _ _ _ _ (rw c.in-Some.ensures.cases.0 at c.requires.0), c.requires.1)

pub returns-then-t-ahead : goal.returns-then-t-ahead
returns-then-t-ahead g t c =
    let one-more = c.in-Some.ensures.cases.0 in
    let f = c.run_front-f.ensures in
    rw one-more (plan_early g.S.Sample.samples _ _ _ _ _ _ (rw one-more at c.requires.0) _ _ _ f.0 (omega (arith, c.if-t-ahead.true, f.2)))

pub run-rest-requires : goal.run-rest-requires
run-rest-requires g t c κs within =
    let f = c.run_front-f.ensures in
    let fall = c.in-Some.ensures.cases.1 in
    (omega (arith, c.decreases), (within, (rest_ready g.S.Sample.samples _ _ _ _ _ _ (rw c.in-Some.ensures.cases.0 at c.requires.0) _ _ _ f.0 _ f.1, c.requires.1)))

pub returns : goal.returns
returns g t c =
    let one-more = c.in-Some.ensures.cases.0 in
    let (f, cells, ahead, leaves) = c.run_front-f.ensures in
    rw one-more (plan_back g.S.Sample.samples _ _ _ _ _ _ (rw one-more at c.requires.0) _ _ _ f _ cells _ ahead c.if-t-ahead.false leaves _ _ _ _ c.run-rest.ensures)
