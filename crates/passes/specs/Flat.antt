-- A whole picture in one list, row after row, and the row that is lent beside it.
use Rattle.std.specs.Prelude.{◌≡◌, List, ℕ, ◌+◌, ◌*◌, length, drop}
use Rattle.std.proofs.Math.Seq.{slice}
use Rattle.morph.specs.Lists.{tabulate}
use Rattle.morph.specs.Picture.{Picture}

module _ {A : Type 0} where
  -- row y, of W columns
  abbrev pub flat_row : ℕ → List A → ℕ → List A
  flat_row W xs y = slice (y * W) (y * W + W) xs

  -- the picture of H such rows
  unfoldable pub flat_rows : ℕ → ℕ → List A → Picture A
  flat_rows W H xs = tabulate H (flat_row W xs)

-- a lent row of which at most the first W places were written to: it is as long as it was, and what lies past them is as it was
pub record UsedUpTo {A : Type 0} (W : ℕ) (row row' : List A) : Type 0 where
  pub long : length row' ≡ length row
  pub past : drop W row' ≡ drop W row
