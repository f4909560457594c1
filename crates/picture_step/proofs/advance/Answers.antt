-- `advance` meets its contract: the chain's step on what is needed of the memory, and the row that is due.
use mathlib.Core.Path.{sym, ap, ◌∙◌}
use Prim.Native.Nat.{◌≤◌}
use native.Mathlib.Omega.{arith}
use lib.Seq.{length-take-le}
use Rattle.plan_record.specs.declared.Plan.{Plan}
use Rattle.memory.specs.Memory.{memory}
use Rattle.chain.proofs.Memory.{AtLeast}
use Rattle.picture_state.proofs.Step.{fit_lent, run_ready, Went, ran_late, ran_due, ran_early}
use Rattle.picture_step.proofs.advance.Goals as goal
use Rattle.picture_step.proofs.advance.Given.{Over}
use Rattle.picture_step.proofs.advance.Goals.{After-records-records, After-run-ran, After-whole-plan}

plan_small : (g : Over) (c : After-whole-plan g) → (c.whole-plan.result.count ≤ 16) × (c.args.state.width ≤ 4096)
plan_small g c = let f = c.requires.0 in (omega (arith, ap (λ (p : Plan). p.count) c.whole-plan.ensures.0, f.run.plan.few), f.run.narrow)

-- the cells and the records counted are lent
enough : (g : Over) (c : After-records-records g) → AtLeast c.cells-cells.result c.records-records.result (memory c.args.values.now c.args.positions.now c.args.starts.now c.args.lengths.now)
enough g c =
    fit_lent g.S.Sample.samples c.args.state (memory c.args.values.now c.args.positions.now c.args.starts.now c.args.lengths.now) _ _ _ c.whole-plan.ensures c.cells-cells.ensures c.records-records.ensures c.requires.0

went : (g : Over) (c : After-run-ran g) → (Went g.S.Sample.samples c.args.state (memory c.args.values.now c.args.positions.now c.args.starts.now c.args.lengths.now) c.args.work.now c.whole-plan.result c.cells-cells.result c.records-records.result (memory c.run-ran.new.values c.run-ran.new.positions c.run-ran.new.starts c.run-ran.new.lengths) c.run-ran.new.row c.run-ran.result.comparisons c.run-ran.result.due)
went g c =
    record { same = c.whole-plan.ensures; cells_are = c.cells-cells.ensures; records_are = c.records-records.ensures; fit = c.requires.0; wide = c.requires.1; step = rw c.height-rows.ensures at c.run-ran.ensures }

pub height-rows-requires : goal.height-rows-requires
height-rows-requires g c = c.requires.0.run.counted

pub cells-cells-requires : goal.cells-cells-requires
cells-cells-requires g c = plan_small g (goal.at.cells-cells-requires g c).After-whole-plan

pub records-records-requires : goal.records-records-requires
records-records-requires g c = plan_small g (goal.at.records-records-requires g c).After-whole-plan

pub slice_bounds-run-end : goal.slice_bounds-run-end
slice_bounds-run-end g c = (enough g (goal.at.slice_bounds-run-end g c).After-records-records).values_long

pub slice_bounds-run-end-2 : goal.slice_bounds-run-end-2
slice_bounds-run-end-2 g c = sym (length-take-le _ _ (enough g (goal.at.slice_bounds-run-end-2 g c).After-records-records).values_long)

pub slice_bounds-run-end-3 : goal.slice_bounds-run-end-3
slice_bounds-run-end-3 g c = (enough g (goal.at.slice_bounds-run-end-3 g c).After-records-records).positions_long

pub slice_bounds-run-end-4 : goal.slice_bounds-run-end-4
slice_bounds-run-end-4 g c = sym (length-take-le _ _ (enough g (goal.at.slice_bounds-run-end-4 g c).After-records-records).positions_long)

pub slice_bounds-run-end-5 : goal.slice_bounds-run-end-5
slice_bounds-run-end-5 g c = (enough g (goal.at.slice_bounds-run-end-5 g c).After-records-records).starts_long

pub slice_bounds-run-end-6 : goal.slice_bounds-run-end-6
slice_bounds-run-end-6 g c = sym (length-take-le _ _ (enough g (goal.at.slice_bounds-run-end-6 g c).After-records-records).starts_long)

pub slice_bounds-run-end-7 : goal.slice_bounds-run-end-7
slice_bounds-run-end-7 g c = (enough g (goal.at.slice_bounds-run-end-7 g c).After-records-records).lengths_long

pub slice_bounds-run-end-8 : goal.slice_bounds-run-end-8
slice_bounds-run-end-8 g c = sym (length-take-le _ _ (enough g (goal.at.slice_bounds-run-end-8 g c).After-records-records).lengths_long)

pub run-ran-requires : goal.run-ran-requires
run-ran-requires g c =
    (run_ready g.S.Sample.samples c.args.state (memory c.args.values.now c.args.positions.now c.args.starts.now c.args.lengths.now) _ _ _ c.whole-plan.ensures c.cells-cells.ensures c.records-records.ensures c.requires.0 c.args.work.now c.requires.1, omega (arith, c.height-rows.ensures, c.requires.0.run.low))

pub moved-next-requires : goal.moved-next-requires
moved-next-requires g c = c.requires.0.run.counted

pub copy_from_slice-requires : goal.copy_from_slice-requires
copy_from_slice-requires g c =
    sym (c.run-ran.ensures.row_long ∙ c.requires.1 ∙ sym c.requires.2)

pub look_ahead-requires : goal.look_ahead-requires
look_ahead-requires g c = (plan_small g (goal.at.look_ahead-requires g c).After-whole-plan).0

pub overflow_sub-t : goal.overflow_sub-t
overflow_sub-t g c = ran_late (went g (goal.at.overflow_sub-t g c).After-run-ran) c.if-ran.true c.look_ahead.ensures

pub shape_of-values-then-ran : goal.shape_of-values-then-ran
shape_of-values-then-ran g c = c.values-1.given.1

pub returns-then-ran : goal.returns-then-ran
returns-then-ran g c =
    ran_due (went g (goal.at.returns-then-ran g c).After-run-ran) _ _ (c.came.ensures.1 ∙ c.moved-next.ensures) c.requires.3 _ _ c.if-ran.true c.look_ahead.ensures c.came.ensures.0
    c.copy_from_slice.ensures.after

pub returns : goal.returns
returns g c =
    ran_early (went g (goal.at.returns g c).After-run-ran) _ _ (c.waits.ensures.1 ∙ c.moved-next.ensures) c.requires.3 _ c.if-ran.false c.waits.ensures.0
