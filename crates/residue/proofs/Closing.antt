-- Why only the band is counted: from a counted pixel no window of the closing is cut, and from no other; so what lies beyond the picture's edge has no part in its value. And a closing's own rows are never refused 16.
use Rattle.std.proofs.Common.{◌≡◌, refl, sym, ap, ◌∙◌, true, false, List, [], ◌∷◌, map, ℕ, zero, suc, ◌+◌, ◌-◌, ◌*◌, ◌≤◌, ◌<◌, not-suc-le-zero, arith, leb-true, leb-false, le-ltb, eq-eqb, leb, length, get_or, ext_get_or, get_or-take, get_or-drop}
use Rattle.std.proofs.lemmas.Bool.{lt-leb}
use Rattle.std.proofs.lemmas.List.{length-map}
use Rattle.std.proofs.Math.Seq.{slice, length-slice}
use mathlib.Core.List.{flatten}
use Rattle.morph.specs.Lists.{tabulate}
use Rattle.morph.specs.Numbers.{extent_number}
use Rattle.morph.specs.Order.{Order}
use Rattle.morph.specs.Grey.{grey}
use Rattle.morph.specs.Line.{best}
use Rattle.morph.specs.Picture.{Picture, pixel_at, Stage, erosion, dilation, rows_at, under, apply_stage, apply_plan, closing}
use Rattle.morph.proofs.Lists.{both, neither, split}
use Rattle.morph.proofs.Numbers.{first_skip}
use Rattle.plan_record.specs.Numbers.{size_number}
use Rattle.laws.specs.Laws.{Sized}
use Rattle.laws.proofs.Stage.{row_wide, stage_pixel, sized_stage, sized_plan}
use Rattle.laws.proofs.Adjoint.{closed_above}
use Rattle.residue.specs.Residue.{in_band, counted_at, empty_band, some_to, row_residue, negative, residue_number, RowsAnswered}
use Rattle.residue.specs.Closing.{Uncut, ClosingUncut, CutOut}
use Rattle.residue.proofs.Laws.{taken_rows}
use Rattle.residue.proofs.Totals.{total_none, some_total}
use Rattle.residue.proofs.Band.{in_band_law, band_in}

-- ---- a counted pixel is one from which no window of the closing is cut

module _ (a b c d W H y x : ℕ) where
  counted_both : counted_at a b c d W H y x ≡ true → (c + d ≤ y) × (y + (c + d) < H) × (a + b ≤ x) × (x + (a + b) < W)
  counted_both e =
      let (f, g) = both (in_band (c + d) H y) (in_band (a + b) W x) e in
      let (h, k) = band_in (c + d) H y f in
      let (i, j) = band_in (a + b) W x g in
      (h, k, i, j)

  pub counted_uncut : {A : Type 0} (O : Order A) → counted_at a b c d W H y x ≡ true → ClosingUncut O a b c d W H y x
  counted_uncut O e =
      let (h, k, i, j) = counted_both e in
      record {
        eroded = record { left = omega arith; right = omega arith; up = omega arith; down = omega arith };
        dilated = λ y' x' p q r s. record { left = omega arith; right = omega arith; up = omega arith; down = omega arith };
      }

  pub uncut_counted : {A : Type 0} (O : Order A) → ClosingUncut O a b c d W H y x → counted_at a b c d W H y x ≡ true
  uncut_counted O u =
      let e = u.eroded in
      let first = u.dilated (y - c) (x - a) (omega (arith, e.up)) (omega arith) (omega (arith, e.left)) (omega arith) in
      let last = u.dilated (y + d) (x + b) (omega arith) (omega arith) (omega arith) (omega arith) in
      rw (in_band_law (c + d) H y (omega (arith, e.up, first.up)) (omega (arith, last.down)), in_band_law (a + b) W x (omega (arith, e.left, first.left)) (omega (arith, last.right)))

-- ---- the same window of two pictures

module _ {A : Type 0} where
  map_at : {B : Type 0} (f : A → B) (l : List A) (k : ℕ) (d : A) (e : B) → k < length l → get_or (map f l) k e ≡ f (get_or l k d)
  map_at f [] k d e h = absurd (not-suc-le-zero h)
  map_at f (a ∷ l) zero d e h = refl
  map_at f (a ∷ l) (suc k) d e h = map_at f l k d e (omega arith)

  slice_at : (i t : ℕ) (l : List A) (k : ℕ) (d : A) → i + k < t → get_or (slice i t l) k d ≡ get_or l (i + k) d
  slice_at i t l k d h = rw (get_or-drop, get_or-take t l (i + k) d h)

  slice_same : (d : A) (i t j u : ℕ) (l m : List A) → t ≤ length l → u ≤ length m → t - i ≡ u - j → ((k : ℕ) → i + k < t → get_or l (i + k) d ≡ get_or m (j + k) d) → slice i t l ≡ slice j u m
  slice_same d i t j u l m h g e same =
      let n = length-slice i t l h in
      ext_get_or d (slice i t l) (slice j u m) (n ∙ e ∙ sym (length-slice j u m g))
      (λ k b. slice_at i t l k d (omega (arith, n)) ∙ same k (omega (arith, n)) ∙ sym (slice_at j u m k d (omega (arith, n))))

module _ {A : Type 0} (S : Stage A) (W H W' H' v h : ℕ) (p q : Picture A) (z : Sized W H p) (z' : Sized W' H' q) (low : v + H ≤ H') (right : h + W ≤ W') (y x : ℕ) (u : Uncut S W H y x)
    (same : (y' x' : ℕ) → y ≤ y' + S.above → y' ≤ y + S.below → x ≤ x' + S.back → x' ≤ x + S.ahead → pixel_at S.order p y' x' ≡ pixel_at S.order q (v + y') (h + x')) where
  -- row number k under the window
  row_same : (k : ℕ) → k < S.above + S.below + 1
      → slice (x - S.back) (x + S.ahead + 1) (get_or p (y - S.above + k) []) ≡ slice (h + x - S.back) (h + x + S.ahead + 1) (get_or q (v + y - S.above + k) [])
  row_same k b =
      let i : y - S.above + k < H = omega (arith, u.up, u.down) in
      let e : v + y - S.above + k ≡ v + (y - S.above + k) = omega (arith, u.up) in
      let l = row_wide W H p z (y - S.above + k) i in
      let m = row_wide W' H' q z' (v + (y - S.above + k)) (omega arith) in
      rw e
      (slice_same S.order.blank (x - S.back) (x + S.ahead + 1) (h + x - S.back) (h + x + S.ahead + 1) (get_or p (y - S.above + k) []) (get_or q (v + (y - S.above + k)) [])
      (omega (arith, l, u.right)) (omega (arith, m, u.right)) (omega (arith, u.left))
      (λ n r.
      let f : h + x - S.back + n ≡ h + (x - S.back + n) = omega (arith, u.left) in
      rw f (same (y - S.above + k) (x - S.back + n) (omega (arith, u.up)) (omega (arith, u.up)) (omega (arith, u.left)) (omega (arith, u.left)))))

  under_same : under S p y x ≡ under S q (v + y) (h + x)
  under_same =
      let n : length (rows_at S p y) ≡ S.above + S.below + 1 = length-slice (y - S.above) (y + S.below + 1) p (omega (arith, z.high, u.down)) ∙ omega (arith, u.up) in
      let m : length (rows_at S q (v + y)) ≡ S.above + S.below + 1 = length-slice (v + y - S.above) (v + y + S.below + 1) q (omega (arith, z'.high, u.down)) ∙ omega (arith, u.up) in
      let cut = slice (x - S.back) (x + S.ahead + 1) in
      let cut' = slice (h + x - S.back) (h + x + S.ahead + 1) in
      ap flatten
      (ext_get_or [] (map cut (rows_at S p y)) (map cut' (rows_at S q (v + y))) (rw (length-map (rows_at S p y), length-map (rows_at S q (v + y))) (n ∙ sym m))
      (λ k b.
      let r : k < S.above + S.below + 1 = rw (length-map (rows_at S p y), n) at b in
      map_at cut (rows_at S p y) k [] [] (omega (arith, n)) ∙ ap cut (slice_at (y - S.above) (y + S.below + 1) p k [] (omega (arith, u.up)))
      ∙ row_same k r
      ∙ sym (map_at cut' (rows_at S q (v + y)) k [] [] (omega (arith, m)) ∙ ap cut' (slice_at (v + y - S.above) (v + y + S.below + 1) q k [] (omega (arith, u.up))))))

  -- a stage gives the same there
  stage_same : pixel_at S.order (apply_stage S p) y x ≡ pixel_at S.order (apply_stage S q) (v + y) (h + x)
  stage_same =
      stage_pixel S W H p z y x (omega (arith, u.down)) (omega (arith, u.right)) ∙ ap (best S.order) under_same
      ∙ sym (stage_pixel S W' H' q z' (v + y) (h + x) (omega (arith, u.down)) (omega (arith, u.right)))

-- ---- what lies beyond the picture's edge has no part in the closing of a counted pixel

module _ {A : Type 0} (O : Order A) (a b c d W H W' H' v h : ℕ) (p q : Picture A) (cut : CutOut O W H W' H' v h p q) where
  pub closing_inside : (y x : ℕ) → counted_at a b c d W H y x ≡ true
      → pixel_at O (apply_plan (closing O a b c d) p) y x ≡ pixel_at O (apply_plan (closing O a b c d) q) (v + y) (h + x)
  unfolding apply_plan
  closing_inside y x e =
      let u = counted_uncut a b c d W H y x O e in
      let wide = dilation O a b c d in
      stage_same (erosion O a b c d) W H W' H' v h (apply_stage wide p) (apply_stage wide q) (sized_stage W H wide p cut.sized) (sized_stage W' H' wide q cut.larger) cut.low cut.right y x u.eroded
      (λ y' x' i j k l.
      let w = u.dilated y' x' i j k l in
      stage_same wide W H W' H' v h p q cut.sized cut.larger cut.low cut.right y' x' w
      (λ y'' x'' m n r s. cut.same y'' x'' (omega (arith, w.down)) (omega (arith, w.right))))

-- ---- the rows of a grey picture and of its closing are never refused 16: where nothing else is wrong, each is answered with its sum

module _ (a b c d W H : ℕ) (p : Picture ℕ) (z : Sized W H p) where
  abbrev closed : Picture ℕ
  closed = apply_plan (closing grey a b c d) p

  sized : Sized W H closed
  sized = sized_plan W H (closing grey a b c d) p z

  pub closing_not_negative : (y rows : ℕ) → y < H → negative a b c d y rows (get_or closed y []) (get_or p y []) ≡ false
  unfolding negative
  closing_not_negative y rows h =
      let w = row_wide W H closed sized y h in
      total_none false some_to some_total (length (get_or closed y [])) _ (λ x k.
      let above = leb-true _ _ (closed_above grey W H a b c d p z y x h (omega (arith, w))) in
      rw (le-ltb (pixel_at grey closed y x) (pixel_at grey p y x) above) (split (counted_at a b c d (length (get_or closed y [])) rows y x) (λ t. rw t) (λ t. rw t)))

  module _ (extents : extent_number (a ∷ b ∷ c ∷ d ∷ []) ≡ 0) (size : size_number W H ≡ 0) (some : empty_band (a + b) (c + d) W H ≡ false) where
    row_taken : (y : ℕ) → y < H → residue_number a b c d y H (get_or closed y []) (get_or p y []) ≡ 0
    unfolding residue_number
    row_taken y h =
        rw (row_wide W H closed sized y h, row_wide W H p z y h, some, lt-leb H y h, eq-eqb W W refl, closing_not_negative y H h)
        (first_skip (extent_number (a ∷ b ∷ c ∷ d ∷ [])) (size_number W H ∷ 0 ∷ 0 ∷ 0 ∷ 0 ∷ []) extents ∙ first_skip (size_number W H) (0 ∷ 0 ∷ 0 ∷ 0 ∷ []) size)

    high : 0 < H
    high = let (_, g) = neither (leb W (2 * (a + b))) (leb H (2 * (c + d))) some in omega (arith, leb-false H (2 * (c + d)) g)

    pub closing_answered : RowsAnswered a b c d closed p (tabulate (length closed) (λ y. row_residue a b c d y (length closed) (get_or closed y []) (get_or p y [])))
    closing_answered = taken_rows a b c d closed p (rw sized.high high) (z.high ∙ sym sized.high) (λ y h. rw sized.high (row_taken y (omega (arith, sized.high))))
