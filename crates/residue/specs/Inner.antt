-- What the functions inside the residue's call are held to: all of a row's numbers but 16, and the part of a row that is in the band.
use Rattle.std.specs.Prelude.{Result, Ok, Err, Bool, not, List, [], ◌∷◌, ℕ, ◌+◌, ◌-◌, eqb, leb, length, get_or}
use Rattle.morph.specs.Lists.{sum_to}
use Rattle.morph.specs.Numbers.{given, first_of, extent_number}
use Rattle.plan_record.specs.Numbers.{size_number}
use Rattle.morph.specs.declared.refusal.Refusal.{Refusal}
use Rattle.morph.specs.Refusals.{refusal_number}
use Rattle.residue.specs.declared.Residue.{Residue}
use Rattle.residue.specs.declared.Residue.TheVariants.{Sum, Refused}
use Rattle.residue.specs.Residue.{empty_band, some_to, darker}

-- 3, 4, 7, 21, of a closed row of this width and an input row of this length
unfoldable pub band_number : ℕ → ℕ → ℕ → ℕ → ℕ → ℕ → ℕ → ℕ → ℕ
band_number a b c d row rows width long =
    first_of
    (extent_number (a ∷ b ∷ c ∷ d ∷ [])
    ∷ size_number width rows
    ∷ given 4 (leb rows row)
    ∷ given 7 (not (eqb long width))
    ∷ given 21 (empty_band (a + b) (c + d) width rows)
    ∷ [])

-- of two parts of one length, each column counted
unfoldable pub part_residue : List ℕ → List ℕ → ℕ
part_residue closed input = sum_to (length closed) (λ x. get_or closed x 0 - get_or input x 0)

unfoldable pub part_negative : List ℕ → List ℕ → Bool
part_negative closed input = some_to (length closed) (darker closed input)

-- a sum or a refusal, as the answer that says it
abbrev pub residue_as : Result ℕ Refusal → Residue
residue_as (Ok sum) = Sum sum
residue_as (Err refusal) = Refused (refusal_number refusal)
