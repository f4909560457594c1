-- A grey row's frame: the marker, and the row behind it. By which idea: the row is lent from place 1 on, so what comes back stands right behind the marker.
use mathlib.Core.Path.{◌≡◌, ◌∙◌}
use mathlib.Core.List.{List, [], ◌∷◌}
use Prim.Native.Nat.{ℕ, ◌+◌, ◌*◌, ◌≤◌, ◌<◌}
use native.Mathlib.Omega.{arith}
use borrow.Rule.Slice.PartMut.{mid_of, put_mid}
use lib.ListN.{length, take, drop, set, length-set, length-drop}
use lib.Seq.{take_at, length-take-le}
use Rattle.sample.specs.Samples.{greys}
use Rattle.memory.specs.Memory.{Memory}
use Rattle.picture_state.specs.declared.State.{State}
use Rattle.picture_state.specs.declared.Answer.{Answer}
use Rattle.picture_state.specs.Step.{RowStep, DrainStep}
use Rattle.answer.specs.Answer.{grey_rows}
use Rattle.turns.specs.Inner.{Framed}

-- the row's place in a frame whose marker is stored, and the frame with a row put there
abbrev part : ℕ → List ℕ → List ℕ
part k frame = mid_of 1 k (set frame 0 1)

abbrev filled : ℕ → List ℕ → List ℕ → List ℕ
filled k frame ys = put_mid 1 k (set frame 0 1) ys

part_long : (W k : ℕ) (frame : List ℕ) → W < length frame → k ≡ W → length (part k frame) ≡ W
part_long W k frame h e = length-take-le k (drop 1 (set frame 0 1)) (omega (arith, length-drop 1 (set frame 0 1), length-set frame 0 1)) ∙ e

marked : (W k : ℕ) (frame ys : List ℕ) → 0 < length frame → length ys ≡ W → take (1 + W * 1) (filled k frame ys) ≡ 1 ∷ ys
marked W k [] ys h e = absurd (omega arith)
marked W k (a ∷ frame) ys h e = take_at (1 ∷ ys) (drop k frame) (1 + W * 1) (omega arith)

-- a step on the row's place
pub framed : {S : State} {M M' : Memory ℕ} {answer : Answer} {S' : State} (bytes frame ys : List ℕ) (k : ℕ) → S.width < length frame → k ≡ S.width
    → length ys ≡ length (part k frame) → (S.step < S.rows → RowStep greys 0 S M (take S.width bytes) (part k frame) M' ys answer S')
    → (S.rows ≤ S.step → DrainStep greys 0 S M (part k frame) M' ys answer S') → Framed grey_rows 0 S M bytes M' (filled k frame ys) answer S'
framed {S} bytes frame ys k wide e kept offered drained =
    let long = part_long S.width k frame wide e in
    record {
      out = part k frame;
      out' = ys;
      long = long;
      offered = offered;
      drained = drained;
      stands = λ n c s. marked S.width k frame ys (omega arith) (kept ∙ long);
    }
