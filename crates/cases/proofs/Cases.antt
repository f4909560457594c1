-- The starred cases hold. By which idea: each side is computed.
use mathlib.Core.Path.{refl}
use mathlib.Core.List.{flatten}
use Rattle.morph.specs.Line.{output_at, filter_line, best_at, queue, comparisons, line_cost}
use Rattle.morph.specs.Origin.{answer_at, positions_line, origin_row_of, origin_column}
use Rattle.morph.specs.Picture.{across, apply_stage, apply_plan, look_ahead_of, row_at}
use Rattle.cases.specs.Table.{Cases}

pub cases : Cases
unfolding output_at filter_line best_at answer_at positions_line origin_row_of origin_column queue comparisons line_cost across apply_stage apply_plan look_ahead_of row_at flatten
cases = record {
  case1 = refl;
  case1_positions = refl;
  case2 = refl;
  case2_positions = refl;
  case3 = refl;
  case3_plan = refl;
  case4 = refl;
  case4_plan = refl;
  case5 = refl;
  case5_together = refl;
  case5_drain = refl;
  case6 = refl;
  case7 = refl;
  case7_comparisons = refl;
  case7_queued = refl;
  case8 = refl;
  case8_positions = refl;
  case8_queue = refl;
  case8_comparisons = refl;
  case9_dilated = λ v. refl;
  case9_eroded = λ v. refl;
  case10_dilated = refl;
  case10_eroded = refl;
  case10_opened = refl;
  case10_closed = refl;
  case10_dilated_rows = refl;
  case10_dilated_columns = refl;
  case10_eroded_rows = refl;
  case10_eroded_columns = refl;
  crossed_rows = refl;
  crossed_columns = refl;
}
