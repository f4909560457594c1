-- What is left of the plan, applied to the picture as it is, is the plan's answer.
use mathlib.Core.Path.{◌≡◌, ◌∙◌}
use Prim.Native.Nat.{◌<◌}
use native.Mathlib.Omega.{arith}
use lib.ListN.{length, take}
use lib.Seq.{get_or-take, length-take-le}
use Rattle.plan_record.specs.Plan.{unused}
use Rattle.whole_judge.proofs.Plan.{applying_start, applying_next, applying_end}
use Rattle.whole.proofs.run.Goals as goal

pub loop-next-init : goal.loop-next-init
loop-next-init g c = let a = c.args in applying_start g.S.Sample.samples.order g.S.Choice.Fair a.plan a.grid.width a.grid.rows a.picture.now a.row.now c.requires.3

pub stage-requires : goal.stage-requires
stage-requires g c = let i = c.loop-next.invariant in let p = c.requires in (i.long ∙ p.1, omega (arith, i.used.long, p.2), i.fine)

pub loop-next-preserved : goal.loop-next-preserved
loop-next-preserved g c =
    let l = c.loop-next in
    let plan = c.args.plan in
    let n : length plan.stages ≡ 16 = c.well_formed.0.1.1.1.0.1.0.1 in
    let m : length (take plan.count plan.stages) ≡ plan.count = length-take-le plan.count plan.stages (omega arith) in
    let h : l.next-index < plan.count = omega arith in
    applying_next g.S.Sample.samples.order g.S.Choice.Fair plan _ _ _ _ l.next-index _ _ l.invariant unused _ _ h (omega (arith, c.requires.0)) c.picture-1.given (rw (get_or-take plan.count plan.stages l.next-index unused h) at c.stage.ensures)

pub shape_of-picture : goal.shape_of-picture
shape_of-picture g c = c.loop-next.invariant.long

pub shape_of-row : goal.shape_of-row
shape_of-row g c = c.loop-next.invariant.used.long

pub returns : goal.returns
returns g c =
    let l = c.loop-next in
    let plan = c.args.plan in
    let n : length plan.stages ≡ 16 = c.well_formed.0.1.1.1.0.1.0.1 in
    let m : length (take plan.count plan.stages) ≡ plan.count = length-take-le plan.count plan.stages (omega (arith, c.requires.0)) in
    applying_end g.S.Sample.samples.order g.S.Choice.Fair plan _ _ _ _ l.next-index _ _ l.invariant (omega arith)
