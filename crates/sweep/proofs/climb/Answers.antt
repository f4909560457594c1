-- Where there is no row for the step, or none to take from, nothing is done.
use mathlib.Core.Logic.{inl, inr}
use Prim.Native.Nat.{◌-◌}
use native.Mathlib.Omega.{arith}
use Rattle.sweep.proofs.Rows.{over_below, rows_fit, climb_none, climb_made}
use Rattle.sweep.proofs.climb.Goals as goal

pub returns-then-t-r : goal.returns-then-t-r
returns-then-t-r g c = climb_none _ _ _ _ _ _ _ _ (inl c.if-t-r.true)

pub returns-then-grid-t : goal.returns-then-grid-t
returns-then-grid-t g c = climb_none _ _ _ _ _ _ _ _ (inr c.if-grid-t.true)

pub returns : goal.returns
returns g c =
    let a = c.args in
    let cut = c.split_at_mut-above in
    let w = a.grid.width in
    climb_made _ _ _ _ _ _ _ _ _ c.if-t-r.false c.if-grid-t.false
    (over_below g.S.Sample.samples.order.blank (g.S.Choice.pick a.kind) _ _ _ _ _ cut.ensures.value cut.ensures.front_len _ _ _ (omega arith)
    (omega (arith, rows_fit w (a.t - a.r) (a.t - a.r - a.s) 1 (omega arith))) (omega (arith, rows_fit w a.grid.rows (a.t - a.r) 1 (omega arith))) c.over.ensures)
