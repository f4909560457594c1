-- `push` meets its contract, by the law of an entry stored behind those that stay.
use Rattle.std.proofs.Common.{◌≡◌, arith}
use Rattle.queue.proofs.Cells.{cell_kept, cell_aged}
use Rattle.queue.proofs.push.Goals as goal

pub returns-then-gone-eq0 : goal.returns-then-gone-eq0
returns-then-gone-eq0 g c =
    let p = c.pop-kept in
    let gone = c.cell_goes-gone in
    let a = c.any in
    let z : gone.result ≡ 0 = c.if-gone-eq0.true in
    rw c.remainder.ensures
    (cell_kept g.S.Sample.samples _ _ _ _ _ _ _ _ _ _ _ (omega arith) (omega arith) (p.ensures.0 _) p.ensures.1 gone.ensures.0 p.ensures.2 a.ensures (omega arith) z)

pub returns : goal.returns
returns g c =
    let p = c.pop-kept in
    let gone = c.cell_goes-gone in
    let a = c.any in
    rw c.remainder.ensures
    (cell_aged g.S.Sample.samples _ _ _ _ _ _ _ _ _ _ _ (omega arith) (omega arith) (p.ensures.0 _) p.ensures.1 gone.ensures.0 p.ensures.2 a.ensures (omega arith) _ c.if-gone-eq0.false c.next.ensures.0)
