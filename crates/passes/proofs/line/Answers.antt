-- What the slice that the flag names has reached is the line's answer, and it is copied if it is in the other.
use Rattle.std.proofs.Common.{◌∙◌}
use Rattle.morph.specs.Order.{order_of}
use Rattle.passes.proofs.Flat.{line_made}
use Rattle.passes.proofs.Rows.{told_of}
use Rattle.passes.proofs.line.Goals as goal

pub returns-then-flip : goal.returns-then-flip
returns-then-flip g c =
    let start = c in
    let a = start.args in
    let K = g.S.Sample.samples in
    c.copy_from_slice.ensures.after
    ∙ (rw c.if-flip.true at (line_made (order_of a.kind K.order) g.S.Choice.Fair (told_of K.order g.S.Choice.Fair g.met.S.Choice.told a.kind) a.back a.ahead a.a.now _ _ start.requires.3 c.line_ahead-there.ensures c.line_back-flip.ensures))

pub returns-else-flip : goal.returns-else-flip
returns-else-flip g c =
    let start = c in
    let a = start.args in
    let K = g.S.Sample.samples in
    rw c.if-flip.false at (line_made (order_of a.kind K.order) g.S.Choice.Fair (told_of K.order g.S.Choice.Fair g.met.S.Choice.told a.kind) a.back a.ahead a.a.now _ _ start.requires.3 c.line_ahead-there.ensures c.line_back-flip.ensures)
