-- The stages so far stand one after the other.
use mathlib.Core.Path.{◌≡◌, refl, ap, ◌∙◌}
use Prim.Native.Nat.{◌+◌, ◌*◌}
use lib.ListN.{length}
use lib.Seq.{sets}
use native.Mathlib.Omega.{arith}
use Rattle.job_write.proofs.Writing.{stages_next}
use Rattle.job_write.proofs.put_stages.Goals as goal

pub loop-i-preserved : goal.loop-i-preserved
loop-i-preserved c =
    let l : length c.args.plan.stages ≡ 16 = c.well_formed.0.1.1.1.0.1.0.1 in
    stages_next c.args.out.now c.args.plan.stages c.loop-i.i _ _ (omega arith) refl c.loop-i.invariant (c.put.ensures ∙ ap (sets c.loop-i.out (1 + c.loop-i.i * 5)) c.stage_five.ensures)
