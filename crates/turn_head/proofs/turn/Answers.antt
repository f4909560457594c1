-- It waits, it is refused, or it begins.
use mathlib.Core.Path.{sym, ap, ◌∙◌}
use mathlib.Core.Logic.{◌⊎◌, ⊎_elim, inl, inr}
use Prim.Native.Nat.{◌≤◌, ◌<◌}
use native.Mathlib.Omega.{arith}
use lib.ListN.{length}
use Rattle.morph.proofs.Exits.{refused_some}
use Rattle.job_read.specs.Layout.{job_from}
use Rattle.job_read.proofs.Sections.{read_says}
use Rattle.answer.specs.Inner.{head_wants_of}
use Rattle.turn_head.proofs.Stays.{waits, refuses}
use Rattle.turn_head.proofs.turn.Goals as goal
use Rattle.turn_head.proofs.turn.Goals.{Else-is_short}

-- the head is settled
stands_at : (c : Else-is_short) → length c.args.bytes.now < c.args.machine.wants ⊎ head_wants_of c.args.bytes.now ≤ length c.args.bytes.now
stands_at c =
    let e = c.head_wants-wanted.ensures.0 in
    ⊎_elim (λ l. inl l) (λ w. inr (rw e at w)) (c.is_short.ensures.1 c.if-is_short.false)

pub returns-then-is_short : goal.returns-then-is_short
returns-then-is_short c =
    let (a, b) = c.is_short.ensures.0 c.if-is_short.true in
    waits c.args.machine c.args.bytes.now c.args.starts.now c.args.lengths.now c.args.frame.now c.requires.0 c.head_wants-wanted.result c.at_head.result c.at_head.ensures (omega (arith, a, b)) c.head_wants-wanted.ensures.1

pub returns-in-Err : goal.returns-in-Err
returns-in-Err c =
    refuses c.args.machine c.args.bytes.now c.args.starts.now c.args.lengths.now _ c.requires.0 (stands_at (goal.at.returns-in-Err c).Else-is_short) c.args.machine.state c.ended.result (c.number.ensures.0 ∙ ap (λ r. r.number) c.in-Err.ensures) (λ z. refused_some c.in-Err.refusal (sym c.number.ensures.0 ∙ z)) c.ended.ensures

pub begin-requires : goal.begin-requires
begin-requires c =
    let (z, e) = read_says (job_from c.args.bytes.now) c.in-Ok.ensures in
    (sym z, e, omega arith, c.requires.2, c.requires.3)

pub returns-in-Ok : goal.returns-in-Ok
returns-in-Ok c = c.begin.ensures c.args.machine c.requires.0
