-- The six bytes at the front of the frame, by the cases of its length.
use mathlib.Core.Path.{◌≡◌, ap, ◌∙◌}
use mathlib.Core.List.{List, [], ◌∷◌}
use Prim.Native.Nat.{ℕ, ◌≤◌}
use native.Mathlib.Omega.{arith}
use borrow.Rule.Slice.PartMut.{put_mid}
use Rattle.std.proofs.lemmas.Slice.{take-put_mid}
use lib.ListN.{length, take, set}

-- byte 2 and five bytes more, at the front of a frame
pub six_put : (frame new five : List ℕ) → 6 ≤ length frame → new ≡ five → length five ≡ 5 → take 6 (put_mid 1 5 (set frame 0 2) new) ≡ 2 ∷ five
six_put [] new five h e l = absurd (omega arith)
six_put (x ∷ frame) new five h e l = take-put_mid 1 5 (2 ∷ frame) new 6 (omega (arith, ap length e)) (omega arith) ∙ ap (λ m. 2 ∷ m) e
