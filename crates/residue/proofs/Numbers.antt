-- The numbers that do not look at a pixel: the first broken rule of 3, 4, 7, 21, and what holds where none is broken.
use Rattle.std.proofs.Common.{◌≡◌, refl, sym, not, List, [], ◌∷◌, ℕ, zero, suc, ◌+◌, ◌*◌, ◌≤◌, ◌<◌, leb-false, eqb-true, eq-eqb, eqb, leb}
use Rattle.std.proofs.lemmas.Bool.{lt-leb, not-false}
use Rattle.morph.specs.Lists.{Each}
use Rattle.morph.specs.Numbers.{given, first_of, outside, extent_number}
use Rattle.morph.proofs.Lists.{neither}
use Rattle.morph.proofs.Numbers.{first_zero, given_zero, skip, inside, extents_fit}
use Rattle.plan_record.specs.Numbers.{size_number}
use Rattle.residue.specs.Residue.{empty_band, closing_number}
use Rattle.residue.specs.Inner.{band_number}

-- a row that is refused none of them
pub record Within (a b c d row rows width long : ℕ) : Type 0 where
  pub extents_fit : Each (λ e. e ≤ 31) (a ∷ b ∷ c ∷ d ∷ [])
  pub width_fits : (0 < width) × (width ≤ 4096)
  pub rows_fit : (0 < rows) × (rows ≤ 65535)
  pub there : row < rows
  pub even : long ≡ width
  pub across : 2 * (a + b) < width
  pub down : 2 * (c + d) < rows

module _ (a b c d row rows width long : ℕ) where
  abbrev extents : ℕ
  extents = extent_number (a ∷ b ∷ c ∷ d ∷ [])

  abbrev size : ℕ
  size = size_number width rows

  abbrev late : ℕ
  late = given 4 (leb rows row)

  abbrev uneven : ℕ
  uneven = given 7 (not (eqb long width))

  abbrev empty : ℕ
  empty = given 21 (empty_band (a + b) (c + d) width rows)

  -- what is first broken where the extents fit, and where the size does too
  module _ (fit : 0 ≡ extents) where
    pub by_size : {n : ℕ} → n ≡ first_of (size ∷ late ∷ uneven ∷ empty ∷ []) → n ≡ band_number a b c d row rows width long
    unfolding band_number
    by_size e = skip extents (size ∷ late ∷ uneven ∷ empty ∷ []) (sym fit) e

    pub by_rest : {n : ℕ} → 0 ≡ size → n ≡ first_of (late ∷ uneven ∷ empty ∷ []) → n ≡ band_number a b c d row rows width long
    by_rest f e = by_size (skip size (late ∷ uneven ∷ empty ∷ []) (sym f) e)

  pub within : band_number a b c d row rows width long ≡ 0 → Within a b c d row rows width long
  unfolding band_number
  within z =
      let (e, r₁) = first_zero extents (size ∷ late ∷ uneven ∷ empty ∷ []) z in
      let (s, r₂) = first_zero size (late ∷ uneven ∷ empty ∷ []) r₁ in
      let (l, r₃) = first_zero late (uneven ∷ empty ∷ []) r₂ in
      let (u, r₄) = first_zero uneven (empty ∷ []) r₃ in
      let (m, _) = first_zero empty [] r₄ in
      let (w, r) = neither (outside 4096 width) (outside 65535 rows) (given_zero 3 _ s) in
      let (x, y) = neither (leb width (2 * (a + b))) (leb rows (2 * (c + d))) (given_zero 20 _ m) in
      record {
        extents_fit = extents_fit (a ∷ b ∷ c ∷ d ∷ []) (given_zero 2 _ e);
        width_fits = inside 4096 width w;
        rows_fit = inside 65535 rows r;
        there = leb-false rows row (given_zero 3 _ l);
        even = eqb-true long width (not-false _ (given_zero 6 _ u));
        across = leb-false width (2 * (a + b)) x;
        down = leb-false rows (2 * (c + d)) y;
      }

  -- the same of a judgement
  pub taken : 0 ≡ band_number a b c d row rows width long → Within a b c d row rows width long
  taken e = within (sym e)

-- ---- the numbers that every row of a picture has alike

-- two rules that are not broken where those before them are not
first_without : (m n x y : ℕ) (l : List ℕ) → (n ≡ 0 → x ≡ 0) → y ≡ 0 → first_of (m ∷ n ∷ l) ≡ first_of (m ∷ n ∷ x ∷ y ∷ l)
first_without zero zero x y l h e = rw (h refl, e) refl
first_without zero (suc n) x y l h e = refl
first_without (suc m) n x y l h e = refl

-- a row that is there, both of that width, is refused these alone
pub closing_band : (a b c d row rows width : ℕ) → (0 < rows → row < rows) → closing_number a b c d width rows ≡ band_number a b c d row rows width width
unfolding closing_number band_number
closing_band a b c d row rows width there =
    first_without (extents a b c d row rows width width) (size a b c d row rows width width) (late a b c d row rows width width) (uneven a b c d row rows width width) (empty a b c d row rows width width ∷ [])
    (λ s. let (_, r) = neither (outside 4096 width) (outside 65535 rows) (given_zero 3 _ s) in rw (lt-leb rows row (there (inside 65535 rows r).0)) refl)
    (rw (eq-eqb width width refl) refl)
