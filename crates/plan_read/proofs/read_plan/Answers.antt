-- The count, then the stages that the bytes are cut into. `set-get_or` is for a copy of the bytes that is put byte by byte: the code makes none, but the edit `read_places` does, and with the right bytes in it that copy has to prove.
use mathlib.Core.Path.{◌≡◌, sym, ap, ◌∙◌}
use Prim.Native.Nat.{ℕ}
use lib.ListN.{take}
use lib.Seq.{set-get_or}
use native.Mathlib.Omega.{arith}
use Rattle.std.proofs.Common.{rules}
use Rattle.plan_record.specs.Plan.{count_number, plan_read, plan_given}
use Rattle.plan_record.proofs.Named.{counted}
use Rattle.plan_read.proofs.Chunks.{plan_of_cut}
use Rattle.plan_read.proofs.read_plan.Goals as goal

pub returns : goal.returns
returns c =
    let a = c.args in
    let e : c.from-n.result ≡ a.count = search rules in
    let n = counted a.count (sym (c.in_ok-judge_count.ensures ∙ ap count_number e)) in
    let cut : plan_given (take a.count c.as_chunks.result.0.now) ≡ plan_read a.count a.bytes.now = grind (arith, set-get_or, plan_of_cut) in
    c.plan_from.ensures ∙ ap (λ (n : ℕ). plan_given (take n c.as_chunks.result.0.now)) e ∙ cut
