-- The rows before row z have taken theirs.
use native.Mathlib.Omega.{arith}
use lib.ListN.{length-take, length-drop}
use Rattle.sweep.proofs.Rows.{over_above, rows_fit, row_before}
use Rattle.sweep.proofs.Back.{front_start, front_next, front_end}
use Rattle.sweep.proofs.front.Goals as goal

pub loop-z-init : goal.loop-z-init
loop-z-init g c = (front_start _ _ _ _ _ _ c.requires.1, c.min-end.ensures)

pub over-requires : goal.over-requires
over-requires g c =
    let l = c.loop-z in
    let a = c.args in
    let u = row_before a.grid.width l.z l.invariant.0.begun in
    let v = rows_fit a.grid.width a.grid.rows l.z 1 (omega (arith, l.invariant.1)) in
    rw (length-take, length-take, length-drop) (omega (arith, l.invariant.0.long, c.split_at_mut-above.ensures.front_len, c.split_at_mut-above.ensures.back_len))

pub loop-z-preserved : goal.loop-z-preserved
loop-z-preserved g c =
    let l = c.loop-z in
    let a = c.args in
    let cut = c.split_at_mut-above in
    let u = row_before a.grid.width l.z l.invariant.0.begun in
    let v = rows_fit a.grid.width a.grid.rows l.z 1 (omega (arith, l.invariant.1)) in (
      front_next _ _ _ _ _ _ l.z l.picture l.invariant.0 (omega (arith, l.invariant.1)) _
          (over_above g.S.Sample.samples.order.blank (g.S.Choice.pick a.kind) _ _ _ _ _ cut.ensures.value cut.ensures.front_len _ _ _ (omega (arith, u, cut.ensures.front_len)) (omega (arith, u)) (omega (arith, v, l.invariant.0.long)) c.over.ensures),
      l.invariant.1,
    )

pub shape_of-picture : goal.shape_of-picture
shape_of-picture g c = c.loop-z.invariant.0.long

pub returns : goal.returns
returns g c = let l = c.loop-z in front_end _ _ _ _ _ _ l.z l.picture l.invariant.0 c.requires.0 _ l.invariant.1 (omega arith)
