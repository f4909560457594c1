-- "a float is 4 bytes, low byte first": the float of four bytes, the four bytes of a float, and a row of them.
-- The bit pattern in between is that of IEEE 754's binary32, which the library's `of_bits` reads and `to_bits` writes.
use Rattle.std.specs.Prelude.{List, [], ◌∷◌, ◌++◌, ℕ, ◌+◌, ◌*◌, ◌/◌, ◌%◌, get_or, Float}
use Rattle.std.specs.Float.{binary32}
use Rattle.std.specs.Float.Ieee.{of_bits, to_bits}
use Rattle.morph.specs.Lists.{tabulate}

-- four bytes as one number, and a number below 2 ^ 32 as four bytes, low byte first
abbrev pub four_bytes : ℕ → ℕ → ℕ → ℕ → ℕ
four_bytes a b c d = a + b * 256 + c * 65536 + d * 16777216

abbrev pub digits_of : ℕ → List ℕ
digits_of n = n % 256 ∷ n / 256 % 256 ∷ n / 65536 % 256 ∷ n / 16777216 ∷ []

-- the float of four bytes; each pattern of a NaN is read as the one NaN, which is not finite
abbrev pub float_of : ℕ → ℕ → ℕ → ℕ → Float
float_of a b c d = of_bits binary32 (four_bytes a b c d)

-- the float whose bytes stand at a place
abbrev pub float_at : List ℕ → ℕ → Float
float_at bytes at = float_of (get_or bytes at 0) (get_or bytes (at + 1) 0) (get_or bytes (at + 2) 0) (get_or bytes (at + 3) 0)

-- the four bytes of a float
abbrev pub bytes_of : Float → List ℕ
bytes_of x = digits_of (to_bits binary32 x)

-- ---- rows

-- the floats of a row of that width
unfoldable pub floats_of : ℕ → List ℕ → List Float
floats_of width bytes = tabulate width (λ x. float_at bytes (x * 4))

-- the bytes of a row
abbrev pub bytes_of_row : List Float → List ℕ
bytes_of_row [] = []
bytes_of_row (x ∷ row) = bytes_of x ++ bytes_of_row row
