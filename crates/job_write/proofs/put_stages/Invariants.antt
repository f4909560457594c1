-- The stages so far stand one after the other.
use mathlib.Core.Path.{◌≡◌}
use lib.ListN.{take}
use lib.Seq.{sets}
use Rattle.job_read.specs.Layout.{stages_bytes}
use Rattle.job_write.proofs.put_stages.Given as goal

abbrev pub invariant-loop-i : goal.invariant-loop-i
invariant-loop-i l = l.out ≡ sets l.initial.out 1 (stages_bytes (take l.i l.plan.stages))
