-- Laws of a row of floats and its bytes. By which idea: a float's bytes stand at four times its column.
use mathlib.Core.Path.{◌≡◌, refl, sym, ap, ◌∙◌}
use mathlib.Core.List.{List, [], ◌∷◌, ◌++◌, append-nil}
use Prim.Native.Nat.{ℕ, suc, ◌+◌, ◌*◌, ◌≤◌, ◌<◌}
use native.Mathlib.Numerals.{add-one}
use native.Mathlib.Omega.{arith}
use lib.Dec.{T}
use lib.ListN.{length, get_or, take, drop, set, length-set, drop_of_length-le}
use lib.Seq.{take-suc, take_all, take_at, drop_at, drop-drop, length-take-le}
use lib.Ieee.{Float, nan, binary32, fits}
use Rattle.morph.specs.Lists.{tabulate, Each}
use Rattle.morph.proofs.Lists.{length_tabulate, get_d_tabulate, tabulate_ext}
use Rattle.sample.proofs.Bytes.{float_back}
use Rattle.sample.specs.Bytes.{float_at, bytes_of, floats_of, bytes_of_row}

-- ---- from bytes

pub length_floats : (width : ℕ) (bytes : List ℕ) → length (floats_of width bytes) ≡ width
unfolding floats_of
length_floats width bytes = length_tabulate width (λ x. float_at bytes (x * 4))

pub get_d_floats : (width : ℕ) (bytes : List ℕ) (x : ℕ) → x < width → get_or (floats_of width bytes) x nan ≡ float_at bytes (x * 4)
unfolding floats_of
get_d_floats width bytes x h = get_d_tabulate width (λ x. float_at bytes (x * 4)) x nan h

-- ---- to bytes

pub bytes_append : (row more : List Float) → bytes_of_row (row ++ more) ≡ bytes_of_row row ++ bytes_of_row more
bytes_append [] more = refl
bytes_append (x ∷ row) more = ap (λ l. bytes_of x ++ l) (bytes_append row more)

pub length_bytes : (row : List Float) → length (bytes_of_row row) ≡ length row * 4
length_bytes [] = refl
length_bytes (x ∷ row) = omega (arith, length_bytes row)

-- the frame of the first i floats, and behind it what was there
pub record Framing (row : List Float) (before frame : List ℕ) (i : ℕ) : Type 0 where
  pub size : length before ≡ 1 + length row * 4
  pub kept : length frame ≡ length before
  pub within : i ≤ length row
  pub holds : frame ≡ (1 ∷ bytes_of_row (take i row)) ++ drop (1 + i * 4) before

marked : (l : List ℕ) → 0 < length l → set l 0 1 ≡ 1 ∷ drop 1 (set l 0 1)
marked [] k = absurd (omega arith)
marked (a ∷ l) k = refl

pub frame_first : (row : List Float) (frame : List ℕ) → length frame ≡ 1 + length row * 4 → Framing row (set frame 0 1) (set frame 0 1) 0
frame_first row frame h = record { size = length-set frame 0 1 ∙ h; kept = refl; within = omega arith; holds = marked frame (omega arith) }

module _ (row : List Float) (before frame : List ℕ) (i : ℕ) (f : Framing row before frame i) where
  abbrev front : List ℕ
  front = 1 ∷ bytes_of_row (take i row)

  front_long : (at : ℕ) → at ≡ 1 + i * 4 → length front ≡ at
  front_long at e = omega (arith, length_bytes (take i row), length-take-le i row f.within)

  module _ (h : i < length row) (at : ℕ) (e : at ≡ 1 + i * 4) where
    parted : frame ≡ front ++ drop at before
    parted = f.holds ∙ ap (λ (n : ℕ). front ++ drop n before) (sym e)

    behind : drop (at + 4) frame ≡ drop (at + 4) before
    behind = sym (drop-drop 4 at frame) ∙ ap (drop 4) (ap (drop at) parted ∙ drop_at front (drop at before) at (front_long at e)) ∙ drop-drop 4 at before

    more : bytes_of_row (take (i + 1) row) ≡ bytes_of_row (take i row) ++ bytes_of (get_or row i nan)
    more = ap (λ (n : ℕ). bytes_of_row (take n row)) (add-one i) ∙ ap bytes_of_row (take-suc row i nan h) ∙ bytes_append (take i row) (get_or row i nan ∷ [])

    pub frame_next : {frame' : List ℕ} → frame' ≡ take at frame ++ bytes_of (get_or row i nan) ++ drop (at + 4) frame → length frame' ≡ length frame → Framing row before frame' (i + 1)
    frame_next {frame'} g l =
        let x = get_or row i nan in
        let n : at + 4 ≡ 1 + (i + 1) * 4 = omega arith in
        record {
          size = f.size;
          kept = l ∙ f.kept;
          within = omega arith;
          holds =
              g ∙ ap (λ l. l ++ bytes_of x ++ drop (at + 4) frame) (ap (take at) parted ∙ take_at front (drop at before) at (front_long at e))
              ∙ ap (λ l. front ++ bytes_of x ++ l) behind ∙ ap (λ l. (1 ∷ l) ++ drop (at + 4) before) (sym more)
              ∙ ap (λ (n : ℕ). (1 ∷ bytes_of_row (take (i + 1) row)) ++ drop n before) n;
        }

  pub frame_last : length row ≤ i → frame ≡ 1 ∷ bytes_of_row row
  frame_last h =
      let z = f.size in
      f.holds ∙ ap (λ l. (1 ∷ bytes_of_row l) ++ drop (1 + i * 4) before) (take_all i row h)
      ∙ ap (λ l. (1 ∷ bytes_of_row row) ++ l) (drop_of_length-le before {i = 1 + i * 4} (omega arith)) ∙ append-nil (1 ∷ bytes_of_row row)

-- ---- a row of floats, to bytes and back

pub floats_back : (row : List Float) → Each (λ x. T (fits binary32 x)) row → floats_of (length row) (bytes_of_row row) ≡ row
unfolding floats_of
floats_back [] h = refl
floats_back (x ∷ row) (p, h) =
    let rest = bytes_of_row row in
    let tail : tabulate (length row) (λ k. float_at (bytes_of x ++ rest) (suc k * 4)) ≡ row
    = tabulate_ext (length row) (λ k. float_at (bytes_of x ++ rest) (suc k * 4)) (λ k. float_at rest (k * 4)) (λ k b. later x rest k) ∙ floats_back row h
    in
    ap (λ y. y ∷ tabulate (length row) (λ k. float_at (bytes_of x ++ rest) (suc k * 4))) (float_back x p) ∙ ap (λ l. x ∷ l) tail
  where
    later : (x : Float) (rest : List ℕ) (k : ℕ) → float_at (bytes_of x ++ rest) (suc k * 4) ≡ float_at rest (k * 4)
    later x rest k =
        let a : suc k * 4 ≡ suc (suc (suc (suc (k * 4)))) = omega arith in
        let b : suc k * 4 + 1 ≡ suc (suc (suc (suc (k * 4 + 1)))) = omega arith in
        let c : suc k * 4 + 2 ≡ suc (suc (suc (suc (k * 4 + 2)))) = omega arith in
        let d : suc k * 4 + 3 ≡ suc (suc (suc (suc (k * 4 + 3)))) = omega arith in
        rw (b, c, d, a) refl
