-- Refused by the rules that look at no pixel, or outside the band, or the part of both rows that is in it.
use Rattle.std.proofs.Common.{refl, sym, arith, length-take, length-drop}
use Rattle.residue.proofs.Laws.{refusal_up, judged}
use Rattle.residue.proofs.Numbers.{within, taken}
use Rattle.residue.proofs.Band.{before_band, behind_band, in_band_law, outside_sum, outside_test, band_sum, band_test}
use Rattle.residue.proofs.counted.Goals as goal

pub returns-in_err-judge : goal.returns-in_err-judge
returns-in_err-judge c = refusal_up _ _ _ _ _ _ _ _ c.in_err-judge.field-0.0 _ c.from_residual.ensures.1 c.in_err-judge.ensures

pub returns-then-row-high : goal.returns-then-row-high
returns-then-row-high c =
    let z = sym c.in_ok-judge.ensures in
    let l = rw c.reach-high.ensures.0 at c.if-row-high.true in
    let out = before_band _ _ _ l in
    judged _ _ _ _ _ _ _ _ z (outside_test _ _ _ _ _ _ _ _ out) (outside_sum _ _ _ _ _ _ _ _ out) refl

pub overflow_add-row : goal.overflow_add-row
overflow_add-row c =
    let w = taken _ _ _ _ _ _ _ _ c.in_ok-judge.ensures in
    omega (arith, w.there, w.rows_fit)

pub returns-then-rows-row : goal.returns-then-rows-row
returns-then-rows-row c =
    let z = sym c.in_ok-judge.ensures in
    let l = rw c.reach-high.ensures.0 at c.if-rows-row.true in
    let out = behind_band _ _ _ l in
    judged _ _ _ _ _ _ _ _ z (outside_test _ _ _ _ _ _ _ _ out) (outside_sum _ _ _ _ _ _ _ _ out) refl

pub overflow_sub-hi : goal.overflow_sub-hi
overflow_sub-hi c =
    let w = taken _ _ _ _ _ _ _ _ c.in_ok-judge.ensures in
    omega (arith, w.across, c.reach-lo.ensures.0)

pub slice_bounds-part-count : goal.slice_bounds-part-count
slice_bounds-part-count c =
    let w = taken _ _ _ _ _ _ _ _ c.in_ok-judge.ensures in
    omega (arith, w.across, c.reach-lo.ensures.0)

pub slice_bounds-part-start : goal.slice_bounds-part-start
slice_bounds-part-start c =
    let w = taken _ _ _ _ _ _ _ _ c.in_ok-judge.ensures in
    omega (arith, w.across, c.reach-lo.ensures.0)

pub slice_bounds-part-count-2 : goal.slice_bounds-part-count-2
slice_bounds-part-count-2 c =
    let w = taken _ _ _ _ _ _ _ _ c.in_ok-judge.ensures in
    omega (arith, w.across, c.reach-lo.ensures.0)

pub slice_bounds-part-start-2 : goal.slice_bounds-part-start-2
slice_bounds-part-start-2 c =
    let w = taken _ _ _ _ _ _ _ _ c.in_ok-judge.ensures in
    omega (arith, w.across, c.reach-lo.ensures.0)

pub slice_bounds-part-end-2 : goal.slice_bounds-part-end-2
slice_bounds-part-end-2 c =
    let w = taken _ _ _ _ _ _ _ _ c.in_ok-judge.ensures in
    omega (arith, w.even)

pub part-requires : goal.part-requires
part-requires c =
    let w = taken _ _ _ _ _ _ _ _ c.in_ok-judge.ensures in
    (rw (length-take, length-drop) (omega (arith, w.width_fits)), rw (length-take, length-drop, length-take, length-drop) (omega (arith, w.even)))

pub returns : goal.returns
returns c =
    let at-reach = c in
    let z = sym at-reach.in_ok-judge.ensures in
    let w = within _ _ _ _ _ _ _ _ z in
    let e = at-reach.reach-high.ensures.0 in
    let row_in = in_band_law _ _ _ (rw e at at-reach.if-row-high.false) (rw e at at-reach.if-rows-row.false) in
    judged _ _ _ _ _ _ _ _ z (band_test _ _ _ _ _ _ _ _ row_in w.across) (band_sum _ _ _ _ _ _ _ _ row_in w.across) (rw at-reach.reach-lo.ensures.0 at c.part.ensures)
