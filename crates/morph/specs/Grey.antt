-- Grey samples: bytes, in the order of their numbers.
use Rattle.std.specs.Prelude.{ℕ, leb}
use Rattle.std.proofs.Common.{le_of_lt, le_trans, leb-true, leb-false, le-leb}
use Rattle.morph.specs.Order.{Order}

abbrev pub grey : Order ℕ
grey = record {
  le = leb;
  total = λ a b h. le-leb b a (le_of_lt (leb-false a b h));
  trans = λ a b c p q. le-leb a c (le_trans (leb-true a b p) (leb-true b c q));
  blank = 0;
}
