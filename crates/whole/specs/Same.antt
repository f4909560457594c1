-- What a caller cannot tell apart of two outcomes of a call on a whole picture. The front of the lent row, which is there to work in, is not looked at.
use Rattle.std.specs.Prelude.{◌≡◌, List, ℕ, length, drop}
use Rattle.whole_judge.specs.declared.Filtered.{Filtered}

pub record SameWhole {A : Type 0} (width : ℕ) (picture₁ picture₂ row₁ row₂ : List A) (r₁ r₂ : Filtered) : Type 0 where
  pub answer : r₁ ≡ r₂
  pub picture : picture₁ ≡ picture₂
  pub long : length row₁ ≡ length row₂
  pub past : drop width row₁ ≡ drop width row₂
