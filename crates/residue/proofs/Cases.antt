-- The cases hold. By which idea: each side is computed.
use Rattle.std.proofs.Common.{◌≡◌, refl, ℕ, zero, suc, ◌+◌, ◌<◌, arith}
use mathlib.Core.List.{flatten}
use Rattle.morph.specs.Grey.{grey}
use Rattle.morph.specs.Picture.{pixel_at, apply_stage, apply_plan}
use Rattle.residue.specs.Residue.{row_residue, negative, residue_number, picture_residue}
use Rattle.residue.specs.Closing.{CutOut}
use Rattle.residue.specs.Table.{rod, rod_within, BandCases}

rod_same : (y x : ℕ) → y < 1 → x < 5 → pixel_at grey rod y x ≡ pixel_at grey rod_within (0 + y) (2 + x)
rod_same zero zero h k = refl
rod_same zero (suc zero) h k = refl
rod_same zero (suc (suc zero)) h k = refl
rod_same zero (suc (suc (suc zero))) h k = refl
rod_same zero (suc (suc (suc (suc zero)))) h k = refl
rod_same zero (suc (suc (suc (suc (suc x))))) h k = absurd (omega (arith, k))
rod_same (suc y) x h k = absurd (omega (arith, h))

rod_cut : CutOut grey 5 1 9 1 0 2 rod rod_within
rod_cut = record {
  sized = record { wide = (refl, tt); high = refl };
  larger = record { wide = (refl, tt); high = refl };
  low = omega arith;
  right = omega arith;
  same = rod_same;
}

pub band_cases : BandCases
unfolding row_residue negative residue_number picture_residue apply_stage apply_plan flatten
band_cases = record {
  row0 = refl;
  row1 = refl;
  row2 = refl;
  row3 = refl;
  row4 = refl;
  picture = refl;
  picture_whole = refl;
  row5 = refl;
  no_rows = refl;
  too_many_rows = refl;
  lighter_outside = refl;
  lighter_counted = refl;
  lighter_above = refl;
  four_columns = refl;
  five_columns = refl;
  two_rows = refl;
  two_rows_last = refl;
  three_rows_holds = refl;
  widest_empty = refl;
  widest_one = refl;
  other_sides = refl;
  lower_band = refl;
  lower_band_in = refl;
  right_32 = refl;
  up_32 = refl;
  down_32 = refl;
  extent_first = refl;
  size_next = refl;
  length_next = refl;
  band_next = refl;
  ends_cut = rod_cut;
  ends_closed = refl;
  ends_within = refl;
  ends_counted = refl;
  ends_not_counted = refl;
}
