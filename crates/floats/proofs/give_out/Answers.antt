-- The frame of the floats so far, and behind it what was there.
use mathlib.Core.Path.{refl}
use native.Mathlib.Omega.{arith}
use Rattle.floats.proofs.Bytes.{frame_next}
use Rattle.floats.proofs.give_out.Goals as goal

pub loop-i-preserved : goal.loop-i-preserved
loop-i-preserved c =
    let l = c.loop-i in
    frame_next _ _ l.frame l.i l.invariant (omega arith) _ refl c.to_bytes.ensures (omega arith)
