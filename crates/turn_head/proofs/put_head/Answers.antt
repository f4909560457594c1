-- Six bytes are stored.
use mathlib.Core.Path.{◌≡◌, ap, ◌∙◌}
use Prim.Native.Nat.{ℕ, ◌+◌, ◌-◌}
use native.Mathlib.Omega.{arith}
use lib.ListN.{length, take, drop, length-take, length-drop}
use Rattle.turn_head.proofs.Frame.{six_put}
use Rattle.turn_head.proofs.put_head.Goals as goal

pub returns : goal.returns
returns c =
    let a = c.args in
    let e : a.from + 5 - a.from ≡ 5 = omega arith in
    let l : length (take 5 (drop a.from a.bytes.now)) ≡ 5 = simp (length-take, length-drop) (omega arith) in
    six_put a.frame.now c.copy_from_slice.new.self (take 5 (drop a.from a.bytes.now)) c.requires.1 (c.copy_from_slice.ensures.after ∙ ap (λ (k : ℕ). take k (drop a.from a.bytes.now)) e) l
