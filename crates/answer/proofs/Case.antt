-- Document 01's whole case, and damaged jobs, by the definition.
use mathlib.Core.Path.{◌≡◌, refl}
use mathlib.Core.List.{[], ◌∷◌}
use mathlib.Core.List.{flatten}
use Rattle.morph.specs.Picture.{apply_plan, apply_stage}
use lib.Ieee.{of_bits}
use Rattle.sample.specs.Bytes.{floats_of}
use Rattle.plan_record.specs.Plan.{stages_from, stages_number}
use Rattle.job_read.specs.Layout.{job_from}
use Rattle.job_read.specs.Job.{plan_section_number, head_number, head_section_number}
use Rattle.answer.specs.Answer.{opening_number, rows_in, end_number, rows_answer, answer_of}

-- "Whole case: input, hexadecimal, `01 01 01 00 00 00 00 03 00 01 00 05 02 07` .. Output: `02 00 03 00 01 00 01 05 07 07 00 00`."
pub whole_case : answer_of (1 ∷ 1 ∷ 1 ∷ 0 ∷ 0 ∷ 0 ∷ 0 ∷ 3 ∷ 0 ∷ 1 ∷ 0 ∷ 5 ∷ 2 ∷ 7 ∷ []) ≡ 2 ∷ 0 ∷ 3 ∷ 0 ∷ 1 ∷ 0 ∷ 1 ∷ 5 ∷ 7 ∷ 7 ∷ 0 ∷ 0 ∷ []
unfolding answer_of opening_number plan_section_number stages_number head_section_number head_number job_from stages_from rows_answer flatten rows_in apply_plan apply_stage end_number
whole_case = refl

-- the same job without its last byte, with one byte more, and cut before its head's last byte
pub short_case : answer_of (1 ∷ 1 ∷ 1 ∷ 0 ∷ 0 ∷ 0 ∷ 0 ∷ 3 ∷ 0 ∷ 1 ∷ 0 ∷ 5 ∷ 2 ∷ []) ≡ 2 ∷ 0 ∷ 3 ∷ 0 ∷ 1 ∷ 0 ∷ 0 ∷ 13 ∷ []
unfolding answer_of opening_number plan_section_number stages_number head_section_number head_number job_from stages_from rows_answer flatten rows_in apply_plan apply_stage end_number
short_case = refl

pub long_case : answer_of (1 ∷ 1 ∷ 1 ∷ 0 ∷ 0 ∷ 0 ∷ 0 ∷ 3 ∷ 0 ∷ 1 ∷ 0 ∷ 5 ∷ 2 ∷ 7 ∷ 9 ∷ []) ≡ 2 ∷ 0 ∷ 3 ∷ 0 ∷ 1 ∷ 0 ∷ 1 ∷ 5 ∷ 7 ∷ 7 ∷ 0 ∷ 14 ∷ []
unfolding answer_of opening_number plan_section_number stages_number head_section_number head_number job_from stages_from rows_answer flatten rows_in apply_plan apply_stage end_number
long_case = refl

pub headless_case : answer_of (1 ∷ 1 ∷ 1 ∷ 0 ∷ 0 ∷ 0 ∷ 0 ∷ 3 ∷ 0 ∷ 1 ∷ []) ≡ 0 ∷ 13 ∷ []
unfolding answer_of opening_number plan_section_number stages_number head_section_number head_number job_from stages_from rows_answer flatten rows_in apply_plan apply_stage end_number
headless_case = refl

-- three rows of one pixel, one dilation with up 1 (look-ahead 1), the third row missing: one row is due
pub ahead_case : answer_of (1 ∷ 1 ∷ 0 ∷ 0 ∷ 1 ∷ 0 ∷ 0 ∷ 1 ∷ 0 ∷ 3 ∷ 0 ∷ 5 ∷ 2 ∷ []) ≡ 2 ∷ 0 ∷ 1 ∷ 0 ∷ 3 ∷ 0 ∷ 1 ∷ 5 ∷ 0 ∷ 13 ∷ []
unfolding answer_of opening_number plan_section_number stages_number head_section_number head_number job_from stages_from rows_answer flatten rows_in apply_plan apply_stage end_number
ahead_case = refl

-- the same with its third row: all three are due
pub drained_case : answer_of (1 ∷ 1 ∷ 0 ∷ 0 ∷ 1 ∷ 0 ∷ 0 ∷ 1 ∷ 0 ∷ 3 ∷ 0 ∷ 5 ∷ 2 ∷ 7 ∷ []) ≡ 2 ∷ 0 ∷ 1 ∷ 0 ∷ 3 ∷ 0 ∷ 1 ∷ 5 ∷ 1 ∷ 7 ∷ 1 ∷ 7 ∷ 0 ∷ 0 ∷ []
unfolding answer_of opening_number plan_section_number stages_number head_section_number head_number job_from stages_from rows_answer flatten rows_in apply_plan apply_stage end_number
drained_case = refl

-- floats, one row of two: an infinite one, and the other's last byte missing; then the row is there, and one byte more
pub missing_case : answer_of (1 ∷ 1 ∷ 0 ∷ 0 ∷ 0 ∷ 0 ∷ 1 ∷ 2 ∷ 0 ∷ 1 ∷ 0 ∷ 0 ∷ 0 ∷ 128 ∷ 127 ∷ 0 ∷ 0 ∷ 0 ∷ []) ≡ 2 ∷ 1 ∷ 2 ∷ 0 ∷ 1 ∷ 0 ∷ 0 ∷ 13 ∷ []
unfolding answer_of opening_number plan_section_number stages_number head_section_number head_number job_from stages_from rows_answer flatten rows_in apply_plan apply_stage end_number floats_of of_bits
missing_case = refl

pub infinite_case : answer_of (1 ∷ 1 ∷ 0 ∷ 0 ∷ 0 ∷ 0 ∷ 1 ∷ 2 ∷ 0 ∷ 1 ∷ 0 ∷ 0 ∷ 0 ∷ 128 ∷ 127 ∷ 0 ∷ 0 ∷ 0 ∷ 0 ∷ 9 ∷ []) ≡ 2 ∷ 1 ∷ 2 ∷ 0 ∷ 1 ∷ 0 ∷ 0 ∷ 8 ∷ []
unfolding answer_of opening_number plan_section_number stages_number head_section_number head_number job_from stages_from rows_answer flatten rows_in apply_plan apply_stage end_number floats_of of_bits
infinite_case = refl
