-- The part's bytes are the five.
use mathlib.Core.Path.{◌≡◌, ap, ◌∙◌}
use Prim.Native.Nat.{ℕ, ◌+◌, ◌-◌}
use lib.ListN.{length}
use borrow.Rule.Slice.PartMut.{put_mid}
use native.Mathlib.Omega.{arith}
use Rattle.job_write.proofs.Writing.{put_sets}
use Rattle.job_write.proofs.put.Goals as goal

pub returns : goal.returns
returns c =
    let a = c.args in
    let e : a.at + 5 - a.at ≡ 5 = omega arith in
    let h : length a.five ≡ 5 = omega (arith, ap length c.copy_from_slice.ensures.after) in
    ap (λ (k : ℕ). put_mid a.at k a.out.now c.copy_from_slice.new.self) e ∙ put_sets a.out.now a.five c.copy_from_slice.new.self a.at 5 c.copy_from_slice.ensures.after h c.requires
