-- `tell` meets its contract. The loop's invariant: the origins of the fronts of the columns before x stand in the two rows.
use Rattle.std.proofs.Common.{◌≡◌, refl, ◌+◌, arith, length, get_or}
use Rattle.origin.proofs.Fronts.{telling_first, telling_next}
use Rattle.origin.proofs.tell.Goals as goal

pub loop-x-init : goal.loop-x-init
loop-x-init c = telling_first _ _ _ _ _ _ _ c.requires.4

pub loop-x-preserved : goal.loop-x-preserved
loop-x-preserved c =
    let l = c.loop-x in
    let w = c.from in
    let t = c.tell_one.ensures in
    let e : l.lo + w.result ≡ l.lo + get_or c.args.starts.now l.x 0 = omega arith in
    let n : length l.origin_columns ≡ length c.args.origin_columns.now = omega arith in
    telling_next _ _ _ _ _ _ _ _ _ _ _ l.invariant _ _ _ _ (omega arith) e refl t.0 (rw n at t.1)
