-- The cases hold. By which idea: each side is computed.
use mathlib.Core.Path.{refl}
use Rattle.residue.specs.Residue.{row_residue, negative, closing_number}
use Rattle.worn.specs.Worn.{say_of, is_broken_of, pair_number, question_after}
use Rattle.worn.specs.Table.{WornCases}

pub worn_cases : WornCases
unfolding row_residue negative closing_number say_of is_broken_of pair_number question_after
worn_cases = record {
  over_10 = refl;
  after_10 = refl;
  not_over_13 = refl;
  after_13 = refl;
  over_12 = refl;
  over_6 = refl;
  at_7 = refl;
  over_none = refl;
  refused_16 = refl;
  kept_16 = refl;
  refused_7 = refl;
  length_first = refl;
  read_first = refl;
  row_4 = refl;
  row_3 = refl;
  sum_510 = refl;
  sum_511 = refl;
  sum_1 = refl;
  over_511 = refl;
  over_510 = refl;
  zeros = refl;
  empty_band_holds = refl;
  start = refl;
  start_3 = refl;
  start_4 = refl;
  start_no_rows = refl;
  start_21 = refl;
  start_band = refl;
  band_44 = refl;
  band_45 = refl;
  band_outside = refl;
}
