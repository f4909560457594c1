-- `make_room` meets its contract, by the law of what it finds on the way.
use Rattle.std.proofs.Common.{arith}
use Rattle.queue.proofs.Laws.{room_kept, room_aged}
use Rattle.queue.proofs.make_room.Goals as goal

pub returns-then-gone-eq0 : goal.returns-then-gone-eq0
returns-then-gone-eq0 g c =
    let p = c.pop-kept in
    let gone = rw c.wide.ensures.0 at c.goes-gone.ensures.0 in
    room_kept g.S.Sample.samples _ _ _ _ _ _ _ _ _ _ _ _ (omega arith) (omega arith) (omega arith) (omega arith) (p.ensures.0 _) p.ensures.1 gone p.ensures.2 c.any.ensures (omega arith)

pub returns : goal.returns
returns g c =
    let p = c.pop-kept in
    let gone = rw c.wide.ensures.0 at c.goes-gone.ensures.0 in
    room_aged g.S.Sample.samples _ _ _ _ _ _ _ _ _ _ _ _ (omega arith) (omega arith) (omega arith) (omega arith) (p.ensures.0 _) p.ensures.1 gone p.ensures.2 c.any.ensures _ c.if-gone-eq0.false (omega arith) c.next.ensures.0
