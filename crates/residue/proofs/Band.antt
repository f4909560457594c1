-- The band: a row's sum and its test are those of one part of the row, or 0 and false; which pixels are counted.
use Rattle.std.proofs.Common.{◌≡◌, sym, ap, ◌∙◌, Bool, true, false, cond, ◌&&◌, List, ℕ, ◌+◌, ◌-◌, ◌*◌, ◌≤◌, ◌<◌, arith, leb-true, leb-false, ltb-true, le-leb, lt-ltb, le-ltb, leb, ltb, length, take, drop, get_or, length-take, length-drop, get_or-take, get_or-drop}
use Rattle.std.proofs.lemmas.Bool.{false≢true, lt-leb}
use Rattle.morph.specs.Lists.{sum_to}
use Rattle.morph.proofs.Lists.{both, neither, split}
use Rattle.residue.specs.Residue.{in_band, counted_at, empty_band, some_to, darker, row_residue, negative}
use Rattle.residue.specs.Inner.{part_residue, part_negative}
use Rattle.residue.proofs.Totals.{total_none, total_same, total_cut, sum_total, some_total}

-- ---- the band of n places, `reach` from both ends

module _ (reach n at : ℕ) where
  pub in_band_law : reach ≤ at → at + reach < n → in_band reach n at ≡ true
  in_band_law h k = rw (le-leb reach at h, lt-ltb (at + reach) n k)

  pub band_in : in_band reach n at ≡ true → (reach ≤ at) × (at + reach < n)
  band_in e = let (h, k) = both (leb reach at) (ltb (at + reach) n) e in (leb-true reach at h, ltb-true (at + reach) n k)

  pub before_band : at < reach → in_band reach n at ≡ false
  before_band h = rw (lt-leb reach at h)

  pub behind_band : n ≤ at + reach → in_band reach n at ≡ false
  behind_band h = rw (le-ltb (at + reach) n h) (split (leb reach at) (λ e. rw e) (λ e. rw e))

-- ---- a row

module _ (a b c d row rows : ℕ) (closed input : List ℕ) where
  abbrev lo : ℕ
  lo = a + b

  abbrev hi : ℕ
  hi = length closed - lo

  -- the columns from a+b up to, not including, W-(a+b)
  abbrev part : List ℕ → List ℕ
  part l = take (hi - lo) (drop lo l)

  abbrev term : ℕ → ℕ
  term x = cond (counted_at a b c d (length closed) rows row x) (get_or closed x 0 - get_or input x 0) 0

  abbrev test : ℕ → Bool
  test x = counted_at a b c d (length closed) rows row x && darker closed input x

  module _ (out : in_band (c + d) rows row ≡ false) where
    -- "A row outside that band adds 0.", and has nothing to test
    pub outside_sum : row_residue a b c d row rows closed input ≡ 0
    unfolding row_residue
    outside_sum = total_none 0 sum_to sum_total (length closed) term (λ x _. rw out)

    pub outside_test : negative a b c d row rows closed input ≡ false
    unfolding negative
    outside_test = total_none false some_to some_total (length closed) test (λ x _. rw out)

  module _ (within : in_band (c + d) rows row ≡ true) (across : 2 * (a + b) < length closed) where
    counted_in : (k : ℕ) → k < hi - lo → counted_at a b c d (length closed) rows row (lo + k) ≡ true
    counted_in k h = rw (within, in_band_law (a + b) (length closed) (a + b + k) (omega arith) (omega arith))

    counted_before : (k : ℕ) → k < lo → counted_at a b c d (length closed) rows row k ≡ false
    counted_before k h = rw (within, before_band (a + b) (length closed) k h)

    counted_behind : (k : ℕ) → hi ≤ k → counted_at a b c d (length closed) rows row k ≡ false
    counted_behind k h = rw (within, behind_band (a + b) (length closed) k (omega arith))

    part_long : length (part closed) ≡ hi - lo
    part_long = rw (length-take, length-drop) (omega arith)

    part_at : (l : List ℕ) (k : ℕ) → k < hi - lo → get_or (part l) k 0 ≡ get_or l (lo + k) 0
    part_at l k h = rw (get_or-take (hi - lo) (drop lo l) k 0 h, get_or-drop)

    -- the sum and the test of a row in the band are those of that part
    pub band_sum : row_residue a b c d row rows closed input ≡ part_residue (part closed) (part input)
    unfolding row_residue part_residue
    band_sum =
        total_cut 0 sum_to sum_total lo hi (length closed) term (λ k. get_or (part closed) k 0 - get_or (part input) k 0) (omega arith) (omega arith)
        (λ k h. rw (counted_before k h)) (λ k h. rw (counted_behind k h)) (λ k h. rw (counted_in k h, part_at closed k h, part_at input k h))
        ∙ ap (λ (n : ℕ). sum_to n (λ k. get_or (part closed) k 0 - get_or (part input) k 0)) (sym part_long)

    pub band_test : negative a b c d row rows closed input ≡ part_negative (part closed) (part input)
    unfolding negative part_negative
    band_test =
        total_cut false some_to some_total lo hi (length closed) test (darker (part closed) (part input)) (omega arith) (omega arith)
        (λ k h. rw (counted_before k h)) (λ k h. rw (counted_behind k h)) (λ k h. rw (counted_in k h, part_at closed k h, part_at input k h))
        ∙ ap (λ (n : ℕ). some_to n (darker (part closed) (part input))) (sym part_long)

-- ---- the band of a picture

module _ (a b c d W H : ℕ) where
  -- it has no pixel exactly where 21 says so
  pub band_empty : empty_band (a + b) (c + d) W H ≡ true → (y x : ℕ) → counted_at a b c d W H y x ≡ false
  band_empty e y x =
      split (counted_at a b c d W H y x)
      (λ t.
      let (f, g) = both (in_band (c + d) H y) (in_band (a + b) W x) t in
      let (h, k) = band_in (c + d) H y f in
      let (i, j) = band_in (a + b) W x g in
      absurd (false≢true (rw (lt-leb W (2 * (a + b)) (omega arith), lt-leb H (2 * (c + d)) (omega arith)) at e)))
      (λ f. f)

  pub band_some : empty_band (a + b) (c + d) W H ≡ false → (c + d < H) × (a + b < W) × (counted_at a b c d W H (c + d) (a + b) ≡ true)
  band_some e =
      let (f, g) = neither (leb W (2 * (a + b))) (leb H (2 * (c + d))) e in
      let i = leb-false W (2 * (a + b)) f in
      let j = leb-false H (2 * (c + d)) g in
      (omega arith, omega arith, rw (in_band_law (c + d) H (c + d) (omega arith) (omega arith), in_band_law (a + b) W (a + b) (omega arith) (omega arith)))

-- with extents 0 the band is the whole picture: every pixel is counted, and the sum of a row is that over all its columns
module _ (row rows : ℕ) (closed input : List ℕ) (there : row < rows) where
  all_counted : (x : ℕ) → x < length closed → counted_at 0 0 0 0 (length closed) rows row x ≡ true
  all_counted x h = rw (in_band_law 0 rows row (omega arith) (omega arith), in_band_law 0 (length closed) x (omega arith) (omega arith))

  pub band_whole : row_residue 0 0 0 0 row rows closed input ≡ part_residue closed input
  unfolding row_residue part_residue
  band_whole = total_same 0 sum_to sum_total (length closed) (term 0 0 0 0 row rows closed input) (λ x. get_or closed x 0 - get_or input x 0) (λ x h. rw (all_counted x h))

  pub test_whole : negative 0 0 0 0 row rows closed input ≡ part_negative closed input
  unfolding negative part_negative
  test_whole = total_same false some_to some_total (length closed) (test 0 0 0 0 row rows closed input) (darker closed input) (λ x h. rw (all_counted x h))
