-- The two codings are such as the laws take. By which idea: a row rests on its own bytes alone, and each sample is written to as many bytes as it was read from.
use mathlib.Core.Path.{◌≡◌, refl}
use mathlib.Core.List.{List, [], ◌∷◌, ◌++◌}
use Prim.Native.Nat.{ℕ, ◌+◌, ◌*◌, ◌≤◌}
use native.Mathlib.Omega.{arith}
use lib.ListN.{length, get_or-append}
use lib.Seq.{take-append-le, length-take-le}
use lib.Ieee.{Float}
use Rattle.morph.proofs.Lists.{length_tabulate, tabulate_ext}
use Rattle.sample.specs.Bytes.{float_at, floats_of, bytes_of_row}
use Rattle.answer.specs.Answer.{Coding, grey_rows, rate_rows}

-- A row that is all there is as long as the width and rests on its own bytes alone; and a row is written to as many bytes as it takes.
pub record Codes {A : Type 0} (C : Coding A) : Type 0 where
  pub long : (width : ℕ) (bytes : List ℕ) → width * C.size ≤ length bytes → length (C.read width bytes) ≡ width
  pub near : (width : ℕ) (bytes rest : List ℕ) → width * C.size ≤ length bytes → C.read width (bytes ++ rest) ≡ C.read width bytes
  pub plain : (row : List A) → length (C.write row) ≡ length row * C.size

pub grey_codes : Codes grey_rows
grey_codes = record {
  long = λ width bytes h. length-take-le width bytes (omega arith);
  near = λ width bytes rest h. take-append-le width bytes rest (omega arith);
  plain = λ row. omega arith;
}

near_float : (bytes rest : List ℕ) (at : ℕ) → at + 4 ≤ length bytes → float_at (bytes ++ rest) at ≡ float_at bytes at
near_float bytes rest at h =
    cc (get_or-append bytes rest 0 at (omega arith), get_or-append bytes rest 0 (at + 1) (omega arith), get_or-append bytes rest 0 (at + 2) (omega arith), get_or-append bytes rest 0 (at + 3) (omega arith))

plain_floats : (row : List Float) → length (bytes_of_row row) ≡ length row * 4
plain_floats [] = refl
plain_floats (x ∷ row) = let i = plain_floats row in omega arith

pub rate_codes : Codes rate_rows
unfolding floats_of
rate_codes = record {
  long = λ width bytes h. length_tabulate width (λ x. float_at bytes (x * 4));
  near = λ width bytes rest h. tabulate_ext width (λ x. float_at (bytes ++ rest) (x * 4)) (λ x. float_at bytes (x * 4)) (λ x k. near_float bytes rest (x * 4) (omega arith));
  plain = plain_floats;
}
