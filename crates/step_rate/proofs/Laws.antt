-- A row of floats from its bytes to its frame. By which idea: a row rests on its own bytes alone, and a part that is lent from the front comes back in its place.
use mathlib.Core.Path.{◌≡◌, sym, ap, ◌∙◌}
use mathlib.Core.Bool.{Bool, true, false}
use mathlib.Core.List.{List, ◌∷◌, ◌++◌}
use Prim.Native.Nat.{ℕ, ◌+◌, ◌*◌, ◌≤◌}
use native.Mathlib.Omega.{arith}
use lib.ListN.{length, take, drop, take-append-drop}
use lib.Seq.{take_at, length-take-le}
use lib.Ieee.{Float}
use Rattle.sample.specs.Bytes.{floats_of, bytes_of_row}
use Rattle.memory.specs.Memory.{Memory}
use Rattle.picture_state.specs.declared.State.{State}
use Rattle.picture_state.specs.declared.Answer.{Answer}
use Rattle.picture_state.specs.Step.{RowSaid, row, is_not_yet, refused}
use Rattle.answer.specs.Answer.{rate_rows}
use Rattle.turns.specs.Inner.{Framed}
use Rattle.answer.proofs.Codes.{rate_codes}
use Rattle.step_rate.specs.Inner.{FloatStep, InFrame}

-- the floats of a row's own bytes are those of all the bytes at hand
pub near : (W n : ℕ) (bytes : List ℕ) → n ≡ W → W * 4 ≤ length bytes → floats_of n (take (W * 4) bytes) ≡ floats_of W bytes
near W n bytes e h =
    ap (λ (k : ℕ). floats_of k (take (W * 4) bytes)) e
    ∙ sym (rate_codes.near W (take (W * 4) bytes) (drop (W * 4) bytes) (omega (arith, length-take-le (W * 4) bytes h)))
    ∙ ap (λ l. floats_of W l) (take-append-drop (W * 4) bytes)

-- ---- a row that is due

-- a row lent from the front of a longer one, when it is back
pub front_back : (W : ℕ) (came ys : List Float) → W ≤ length came → length ys ≡ length (take W came) → length (take W (ys ++ drop W came)) ≡ W
front_back W came ys h e =
    let long : length ys ≡ W = e ∙ length-take-le W came h in
    ap (λ l. length l) (take_at ys (drop W came) W long) ∙ long

abbrev pub is_row : RowSaid → Bool
is_row (row n c) = true
is_row (is_not_yet c) = false
is_row (refused n c) = false

pub not_due : {s : RowSaid} {n c : ℕ} → is_row s ≡ false → s ≡ row n c → ⊥
not_due e h =
    let apart : false ≡ true = sym e ∙ ap is_row h in
    let y : ◌≡◌ {A = ℕ} 0 1 = cc in
    omega arith

-- the rows and the frame are lent from the front
pub framed : {S : State} {M M' : Memory Float} {answer : Answer} {S' : State} (bytes frame marked rest : List ℕ) (came ys : List Float) → S.width ≤ length came
    → 1 + S.width * 4 ≤ length frame → length ys ≡ length (take S.width came) → length marked ≡ length (take (1 + S.width * 4) frame)
    → FloatStep S M bytes (take S.width came) M' ys answer S' → InFrame answer (take S.width (ys ++ drop S.width came)) marked → Framed rate_rows 1 S M bytes M' (marked ++ rest) answer S'
framed {S} bytes frame marked rest came ys h w a b step given =
    let long = length-take-le S.width came h in
    record {
      out = take S.width came;
      out' = ys;
      long = long;
      offered = step.offered;
      drained = step.drained;
      stands = λ n c s.
          take_at marked rest (1 + S.width * 4) (b ∙ length-take-le (1 + S.width * 4) frame w) ∙ given n c s
          ∙ ap (λ l. 1 ∷ bytes_of_row l) (take_at ys (drop S.width came) S.width (a ∙ long));
    }
