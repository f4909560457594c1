-- The rows from row z on have taken theirs.
use mathlib.Core.Path.{refl}
use Prim.Native.Nat.{◌-◌}
use native.Mathlib.Omega.{arith}
use lib.ListN.{length-take, length-drop}
use Rattle.sweep.proofs.Rows.{over_above, rows_fit}
use Rattle.sweep.proofs.Back.{lower_start, lower_next, lower_end}
use Rattle.sweep.proofs.lower.Goals as goal

pub loop-z-init : goal.loop-z-init
loop-z-init g c = lower_start _ _ _ _ _ _ c.requires.0

pub overflow_mul-z : goal.overflow_mul-z
overflow_mul-z g c = let l = c.loop-z in let a = c.args in let k = c.min-k.result in omega (arith, rows_fit a.grid.width a.grid.rows (l.z - k) k (omega (arith, l.invariant.within)), l.invariant.long)

pub overflow_add-from : goal.overflow_add-from
overflow_add-from g c = let l = c.loop-z in let a = c.args in let k = c.min-k.result in omega (arith, rows_fit a.grid.width a.grid.rows ((l.z - k) - a.s) k (omega (arith, l.invariant.within)), l.invariant.long)

pub slice_bounds-over-end : goal.slice_bounds-over-end
slice_bounds-over-end g c =
    let l = c.loop-z in
    let a = c.args in
    let k = c.min-k.result in
    let v = rows_fit a.grid.width a.grid.rows (l.z - k) k (omega (arith, l.invariant.within)) in
    omega (arith, l.invariant.long, c.split_at_mut-above.ensures.back_len)

pub slice_bounds-over-end-in-loop-z : goal.slice_bounds-over-end-in-loop-z
slice_bounds-over-end-in-loop-z g c =
    let l = c.loop-z in
    let a = c.args in
    let k = c.min-k.result in
    let v = rows_fit a.grid.width a.grid.rows (l.z - k) k (omega (arith, l.invariant.within)) in
    rw length-take (omega (arith, l.invariant.long, c.split_at_mut-above.ensures.back_len))

pub slice_bounds-over-end-in-loop-z-2 : goal.slice_bounds-over-end-in-loop-z-2
slice_bounds-over-end-in-loop-z-2 g c = let l = c.loop-z in let a = c.args in let k = c.min-k.result in omega (arith, rows_fit a.grid.width (l.z - k) ((l.z - k) - a.s) k (omega arith), c.split_at_mut-above.ensures.front_len)

pub over-requires : goal.over-requires
over-requires g c =
    let l = c.loop-z in
    let a = c.args in
    let k = c.min-k.result in
    let u = rows_fit a.grid.width (l.z - k) ((l.z - k) - a.s) k (omega arith) in
    let v = rows_fit a.grid.width a.grid.rows (l.z - k) k (omega (arith, l.invariant.within)) in
    rw (length-take, length-take, length-drop) (omega (arith, l.invariant.long, c.split_at_mut-above.ensures.front_len, c.split_at_mut-above.ensures.back_len))

pub loop-z-smaller : goal.loop-z-smaller
loop-z-smaller g c = omega (arith, c.min-k.ensures, c.requires.1)

pub loop-z-preserved : goal.loop-z-preserved
loop-z-preserved g c =
    let l = c.loop-z in
    let a = c.args in
    let k = c.min-k.result in
    let cut = c.split_at_mut-above in
    let u = rows_fit a.grid.width (l.z - k) ((l.z - k) - a.s) k (omega arith) in
    let v = rows_fit a.grid.width a.grid.rows (l.z - k) k (omega (arith, l.invariant.within)) in
    lower_next _ _ _ _ _ _ l.z l.picture l.invariant k (omega (arith, c.min-k.ensures, c.requires.1)) (omega (arith, c.min-k.ensures)) (omega (arith, c.min-k.ensures)) _ refl _
    (over_above g.S.Sample.samples.order.blank (g.S.Choice.pick a.kind) _ _ _ _ _ cut.ensures.value cut.ensures.front_len _ _ _ (omega arith) (omega (arith, u)) (omega (arith, v, l.invariant.long)) c.over.ensures)

pub shape_of-picture : goal.shape_of-picture
shape_of-picture g c = c.loop-z.invariant.long

pub returns : goal.returns
returns g c = let l = c.loop-z in lower_end _ _ _ _ _ _ l.z l.picture l.invariant c.requires.0 (omega arith)
