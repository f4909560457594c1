-- Rows whose answers are worked out by hand, proved over the definitions. The extents are left 1, right 1, up 1, down 0 and the picture has 5 rows of 7 columns unless a case says otherwise:
-- columns 2, 3, 4 of rows 1, 2, 3 are counted.
use Rattle.std.specs.Prelude.{◌≡◌, List, [], ◌∷◌, ℕ, replicate}
use Rattle.morph.specs.Grey.{grey}
use Rattle.morph.specs.Picture.{Picture, apply_plan, closing}
use Rattle.residue.specs.declared.Residue.{Residue}
use Rattle.residue.specs.declared.Residue.TheVariants.{Sum, Refused}
use Rattle.residue.specs.Closing.{CutOut}
use Rattle.residue.specs.Residue.{row_residue, residue_number, residue_of, picture_residue}

abbrev pub nines : ℕ → List ℕ
nines n = replicate n 9

abbrev pub rising : List ℕ
rising = 1 ∷ 2 ∷ 3 ∷ 4 ∷ 5 ∷ 6 ∷ 7 ∷ []

-- the answer by the definitions
abbrev pub dark_by : ℕ → ℕ → ℕ → ℕ → ℕ → ℕ → List ℕ → List ℕ → Residue
dark_by a b c d row rows closed input = residue_of (residue_number a b c d row rows closed input) (row_residue a b c d row rows closed input)

abbrev pub dark_at : ℕ → ℕ → List ℕ → List ℕ → Residue
dark_at row rows closed input = dark_by 1 1 1 0 row rows closed input

-- a light rod between its dark ends, and the same with more of the dark on both sides, one row each
abbrev pub rod : Picture ℕ
rod = (0 ∷ 9 ∷ 9 ∷ 9 ∷ 0 ∷ []) ∷ []

abbrev pub rod_within : Picture ℕ
rod_within = (0 ∷ 0 ∷ 0 ∷ 9 ∷ 9 ∷ 9 ∷ 0 ∷ 0 ∷ 0 ∷ []) ∷ []

-- closed with left 1 and right 1
abbrev pub closed_by1 : Picture ℕ → Picture ℕ
closed_by1 p = apply_plan (closing grey 1 1 0 0) p

pub record BandCases : Type 0 where
  -- 6 + 5 + 4 in each row of the band, and 0 in those outside
  pub row0 : dark_at 0 5 (nines 7) rising ≡ Sum 0
  pub row1 : dark_at 1 5 (nines 7) rising ≡ Sum 15
  pub row2 : dark_at 2 5 (nines 7) rising ≡ Sum 15
  pub row3 : dark_at 3 5 (nines 7) rising ≡ Sum 15
  pub row4 : dark_at 4 5 (nines 7) rising ≡ Sum 0
  pub picture : picture_residue 1 1 1 0 (replicate 5 (nines 7)) (replicate 5 rising) ≡ 45
  -- with no extents every pixel is counted: 35 in each row
  pub picture_whole : picture_residue 0 0 0 0 (replicate 5 (nines 7)) (replicate 5 rising) ≡ 175
  -- 4: a row number not below the row count; no rows; 65,536 rows
  pub row5 : dark_at 5 5 (nines 7) rising ≡ Refused 4
  pub no_rows : dark_at 0 0 (nines 7) rising ≡ Refused 4
  pub too_many_rows : dark_at 0 65536 (nines 7) rising ≡ Refused 4
  -- 16: the input's column 0 is lighter and not counted; its column 3 is counted in row 2, and not in row 0
  pub lighter_outside : dark_at 2 5 (nines 7) (10 ∷ 2 ∷ 3 ∷ 4 ∷ 5 ∷ 6 ∷ 7 ∷ []) ≡ Sum 15
  pub lighter_counted : dark_at 2 5 (nines 7) (1 ∷ 2 ∷ 3 ∷ 10 ∷ 5 ∷ 6 ∷ 7 ∷ []) ≡ Refused 16
  pub lighter_above : dark_at 0 5 (nines 7) (1 ∷ 2 ∷ 3 ∷ 10 ∷ 5 ∷ 6 ∷ 7 ∷ []) ≡ Sum 0
  -- 21: 4 columns are too few, and of 5 the one in the middle is counted; 2 rows are too few, and of 3 the one in the middle is
  pub four_columns : dark_at 2 5 (nines 4) (1 ∷ 2 ∷ 3 ∷ 4 ∷ []) ≡ Refused 21
  pub five_columns : dark_at 2 5 (nines 5) (1 ∷ 2 ∷ 3 ∷ 4 ∷ 5 ∷ []) ≡ Sum 6
  pub two_rows : dark_at 0 2 (nines 7) rising ≡ Refused 21
  pub two_rows_last : dark_at 1 2 (nines 7) rising ≡ Refused 21
  pub three_rows_holds : dark_at 1 3 (nines 7) rising ≡ Sum 15
  pub widest_empty : dark_by 31 31 1 0 1 3 (nines 124) (replicate 124 2) ≡ Refused 21
  pub widest_one : dark_by 31 31 1 0 1 3 (nines 125) (replicate 125 2) ≡ Sum 7
  -- the extents to both sides are added: the same columns and rows; row 1 of 5 is outside where down is 2; all four are looked at
  pub other_sides : dark_by 0 2 0 1 1 5 (nines 7) rising ≡ Sum 15
  pub lower_band : dark_by 2 0 0 2 1 5 (nines 7) rising ≡ Sum 0
  pub lower_band_in : dark_by 2 0 0 2 2 5 (nines 7) rising ≡ Sum 15
  pub right_32 : dark_by 0 32 0 0 0 5 (nines 7) rising ≡ Refused 3
  pub up_32 : dark_by 0 0 32 0 0 5 (nines 7) rising ≡ Refused 3
  pub down_32 : dark_by 0 0 0 32 0 5 (nines 7) rising ≡ Refused 3
  -- two at once: 3 before 4, 4 before 7, 7 before 21; and 21 where a pixel is lighter that is not counted, as none is
  pub extent_first : dark_by 32 1 1 0 0 0 (nines 7) rising ≡ Refused 3
  pub size_next : dark_at 5 5 (nines 7) (1 ∷ 2 ∷ 3 ∷ 4 ∷ 5 ∷ 6 ∷ []) ≡ Refused 4
  pub length_next : dark_at 2 5 (nines 4) (1 ∷ 2 ∷ 3 ∷ []) ≡ Refused 7
  pub band_next : dark_at 2 5 (nines 4) (1 ∷ 2 ∷ 10 ∷ 4 ∷ []) ≡ Refused 21
  -- "The residue counts rod ends as cracks.": at the edge the closing makes them light, and they add 18 without the band and nothing with it. Where there is more of the dark the closing leaves them as they are
  pub ends_cut : CutOut grey 5 1 9 1 0 2 rod rod_within
  pub ends_closed : closed_by1 rod ≡ nines 5 ∷ []
  pub ends_within : closed_by1 rod_within ≡ rod_within
  pub ends_counted : picture_residue 0 0 0 0 (closed_by1 rod) rod ≡ 18
  pub ends_not_counted : picture_residue 1 1 0 0 (closed_by1 rod) rod ≡ 0
