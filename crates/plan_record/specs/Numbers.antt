-- The numbers of an image's head.
use Rattle.std.specs.Prelude.{◌||◌, ℕ, ltb}
use Rattle.morph.specs.Numbers.{given, outside}

-- "5 | sample kind is not 0 (grey) or 1 (float) .."
abbrev pub sample_number : ℕ → ℕ
sample_number sample = given 5 (ltb 1 sample)

-- "4 | width is 0 or over 4,096, or a row count .. is 0 or over 65,535"
abbrev pub size_number : ℕ → ℕ → ℕ
size_number width rows = given 4 (outside 4096 width || outside 65535 rows)
