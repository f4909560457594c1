-- What the memory and the rows hold that a step with origins is lent: when it is given them, and when it is done with them.
use Rattle.std.specs.Prelude.{List, ℕ}
use Rattle.std.proofs.Common.{MutBor}
use Rattle.picture_origin.specs.Numbers.{OriginMemory, OriginRows as ThreeRows, five_slices, three_rows}
use Rattle.picture_origin_step.specs.declared.OriginLent.{OriginLent}
use Rattle.picture_origin_step.specs.declared.OriginRows.{OriginRows}

module _ {A : Type 0} where
  abbrev pub given : OriginLent A → OriginMemory A
  given m = five_slices m.values.now m.positions.now m.columns.now m.starts.now m.lengths.now

  -- at the end a struct is told as its fields in nested pairs
  abbrev pub left : MutBor (List A) × (MutBor (List ℕ) × (MutBor (List ℕ) × (MutBor (List ℕ) × (MutBor (List ℕ) × Unit {0})))) → OriginMemory A
  left m = five_slices m.0.now m.1.0.now m.1.1.0.now m.1.1.1.0.now m.1.1.1.1.0.now

  abbrev pub given_rows : OriginRows A → ThreeRows A
  given_rows r = three_rows r.pixels.now r.rows.now r.columns.now

  abbrev pub left_rows : MutBor (List A) × (MutBor (List ℕ) × (MutBor (List ℕ) × Unit {0})) → ThreeRows A
  left_rows r = three_rows r.0.now r.1.0.now r.1.1.0.now
