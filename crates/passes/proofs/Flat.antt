-- What is reached by passes is what the definitions say: of a line, of the columns of a picture in one list, and so of a stage.
-- By which idea: of values that are told apart only one is a greatest.
use Rattle.std.proofs.Common.{◌≡◌, refl, sym, ap, ◌∙◌, subst, true, List, [], ◌∷◌, map, inl, inr, ⊎_elim, ℕ, zero, suc, ◌+◌, ◌-◌, ◌*◌, ◌/◌, ◌%◌, ◌≤◌, ◌<◌, mul-le-mul_right, mul-one, suc-mul, mod-lt, mul-zero, div-add-mod', div-lt_iff_lt-mul, arith, length, get_or, length-take, length-drop, ext_get_or, get_or-take, get_or-drop}
use Rattle.std.proofs.lemmas.List.{length-map}
use Rattle.std.proofs.Math.ListN.{get_or-map}
use Rattle.std.proofs.Math.Seq.{slice, length-slice}
use Rattle.morph.specs.Lists.{tabulate, Each, In}
use Rattle.morph.specs.Order.{Order}
use Rattle.morph.specs.Line.{best_at, filter_line}
use Rattle.morph.specs.Picture.{Wide, Stage, apply_stage, across, column, down}
use Rattle.morph.proofs.Lists.{length_tabulate, get_d_tabulate, tabulate_ext, each_get_d, each_tabulate, in_slice, slice_in, each_slice}
use Rattle.morph.proofs.Line.{length_line, line_at, line_each, best_in, best_greatest}
use Rattle.morph.proofs.Picture.{separable}
use Rattle.laws.specs.Laws.{Told}
use Rattle.passes.specs.Flat.{flat_row, flat_rows}
use Rattle.passes.specs.Inner.{Near, Greatest, Reached, ThenBack, Crossed}
use Rattle.passes.proofs.Reach.{below_or}

-- a window of a line, by its ends
near_of : (B F n i k : ℕ) → i - B ≤ k → k < i + F + 1 → k < n → Near 1 B F n i k
near_of B F n i k a b l =
    (l, ⊎_elim (λ (p : i ≤ k). inl (k - i, omega arith, rw mul-one (omega arith))) (λ (p : suc k ≤ i). inr (i - k, omega arith, rw mul-one (omega arith))) (below_or i k))

module _ {A : Type 0} (O : Order A) where
  -- the answer at a place is a greatest of its window
  line_greatest : (B F : ℕ) (xs : List A) (i : ℕ) → i < length xs → Greatest O (λ k. get_or xs k O.blank) (Near 1 B F (length xs) i) (best_at O B F xs i)
  unfolding best_at
  line_greatest B F xs i h = record {
    place =
        let (k, a, b, l, e) = in_slice O.blank (i - B) (i + F + 1) xs _ (best_in O (slice (i - B) (i + F + 1) xs) (rw (length-drop, length-take) (omega arith))) in
        (k, near_of B F (length xs) i k a b l, e);
    over = λ k w. best_greatest O (slice (i - B) (i + F + 1) xs) (get_or xs k O.blank) (inside k w);
  }
    where
      inside : (k : ℕ) → Near 1 B F (length xs) i k → In (get_or xs k O.blank) (slice (i - B) (i + F + 1) xs)
      inside k (l, w) =
          ⊎_elim
          (λ p. let (d, m, e) = p in let f : k ≡ i + d = e ∙ rw (mul-one d) refl in slice_in O.blank (i - B) (i + F + 1) xs k (omega arith) (omega arith) l)
          (λ p. let (d, m, e) = p in let f : i ≡ k + d = e ∙ rw (mul-one d) refl in slice_in O.blank (i - B) (i + F + 1) xs k (omega arith) (omega arith) l) w

  module _ (P : A → Type 0) (told : Told O P) where
    -- only one is a greatest
    greatest_one : (f g : ℕ → A) (S T : ℕ → Type 0) (v w : A) → Greatest O f S v → Greatest O g T w → P v → P w
        → ((k : ℕ) → S k → (j : ℕ) × T j × (f k ≡ g j)) → ((j : ℕ) → T j → (k : ℕ) × S k × (g j ≡ f k)) → v ≡ w
    greatest_one f g S T v w a b p q to from = told v w p q below above
      where
        below : O.le v w ≡ true
        below = let (k, s, e) = a.place in let (j, t, r) = to k s in rw (e, r) (b.over j t)

        above : O.le w v ≡ true
        above = let (j, t, e) = b.place in let (k, s, r) = from j t in rw (e, r) (a.over k s)

    -- a line by passes
    reached_line : (B F : ℕ) (xs ys : List A) → Each P xs → Reached O 1 B F xs ys → ys ≡ filter_line O B F xs
    reached_line B F xs ys all a =
        ext_get_or O.blank ys (filter_line O B F xs) (a.long ∙ sym (length_line O B F xs)) (λ i h. same i (omega (arith, a.long)))
      where
        same : (i : ℕ) → i < length xs → get_or ys i O.blank ≡ get_or (filter_line O B F xs) i O.blank
        same i h =
            let g = line_greatest B F xs i h in
            let (k, w, e) = g.place in
            let (j, v, d) = (a.has i h).place in
            greatest_one (λ k. get_or xs k O.blank) (λ k. get_or xs k O.blank) _ _ _ _ (a.has i h) g
            (subst P (sym d) (each_get_d P xs j O.blank all v.0)) (subst P (sym e) (each_get_d P xs k O.blank all w.0)) (λ k s. (k, s, refl)) (λ k s. (k, s, refl))
            ∙ sym (line_at O B F xs i O.blank h)

    -- what two loops leave of it, one ahead and one back
    pub line_made : (B F : ℕ) (xs ys zs : List A) → Each P xs → Reached O 1 0 F xs ys → ThenBack O P 1 B F ys zs → zs ≡ filter_line O B F xs
    line_made B F xs ys zs all a b = reached_line B F xs zs all (b xs all a)

-- ---- a picture in one list

-- a place in row y and column x
pub place_fits : (W H y x : ℕ) → y < H → x < W → y * W + x < H * W
place_fits W H y x h k = omega (arith, mul-le-mul_right {m = suc y} {n = H} W h, suc-mul y W)

row_fits : (W H y : ℕ) → y < H → y * W + W ≤ H * W
row_fits W H y h = omega (arith, mul-le-mul_right {m = suc y} {n = H} W h, suc-mul y W)

rows_tab : {A : Type 0} (W H : ℕ) (xs : List A) → flat_rows W H xs ≡ tabulate H (flat_row W xs)
unfolding flat_rows
rows_tab W H xs = refl

module _ {A : Type 0} (W H : ℕ) (xs : List A) (n : length xs ≡ H * W) where
  pub row_length : (y : ℕ) → y < H → length (flat_row W xs y) ≡ W
  row_length y h = length-slice (y * W) (y * W + W) xs (omega (arith, row_fits W H y h)) ∙ omega arith

  pub row_at : (y x : ℕ) (d : A) → x < W → get_or (flat_row W xs y) x d ≡ get_or xs (y * W + x) d
  row_at y x d h = rw (get_or-drop, get_or-take (y * W + W) xs (y * W + x) d (omega arith))

  pub rows_at : (y : ℕ) → y < H → get_or (flat_rows W H xs) y [] ≡ flat_row W xs y
  unfolding flat_rows
  rows_at y h = get_d_tabulate H (flat_row W xs) y [] h

  pub rows_high : length (flat_rows W H xs) ≡ H
  unfolding flat_rows
  rows_high = length_tabulate H (flat_row W xs)

  pub rows_wide : Wide W (flat_rows W H xs)
  unfolding flat_rows
  rows_wide = each_tabulate _ H (flat_row W xs) row_length

-- ---- down the columns

-- the window of W units at row y and column x, and the column's own
module _ (W H lo hi y x : ℕ) (h : y < H) (c : x < W) where
  to_column : (k : ℕ) → Near W lo hi (H * W) (y * W + x) k → (j : ℕ) × Near 1 lo hi H y j × (k ≡ j * W + x)
  to_column k (l, w) =
      ⊎_elim
      (λ p. let (d, m, e) = p in
      ⊎_elim
      (λ (q : H ≤ y + d). let r : H * W ≤ (y + d) * W = mul-le-mul_right W q in absurd (omega arith))
      (λ (q : suc (y + d) ≤ H). (y + d, near_of lo hi H y (y + d) (omega arith) (omega arith) q, omega arith)) (below_or H (y + d)))
      (λ p. let (d, m, e) = p in
      ⊎_elim
      (λ (q : d ≤ y). let g : y - d + d ≡ y = omega arith in let f : y * W ≡ (y - d + d) * W = rw g refl in
      (y - d, near_of lo hi H y (y - d) (omega arith) (omega arith) (omega arith), omega arith))
      (λ (q : suc y ≤ d). let r : suc y * W ≤ d * W = mul-le-mul_right W q in absurd (omega (arith, suc-mul y W))) (below_or d y)) w

  from_column : (j : ℕ) → Near 1 lo hi H y j → Near W lo hi (H * W) (y * W + x) (j * W + x)
  from_column j (l, w) = (
    place_fits W H j x l c,
    ⊎_elim
        (λ p. let (d, m, e) = p in let f : j ≡ y + d = e ∙ rw (mul-one d) refl in inl (d, m, rw f (omega arith)))
        (λ p. let (d, m, e) = p in let f : y ≡ j + d = e ∙ rw (mul-one d) refl in inr (d, m, rw f (omega arith))) w,
  )

module _ {A : Type 0} (S : Stage A) (P : A → Type 0) (told : Told S.order P) (W H : ℕ) (xs : List A) (n : length xs ≡ H * W) (all : Each P xs) where
  abbrev blank : A
  blank = S.order.blank

  column_long : (x : ℕ) → length (column S x (flat_rows W H xs)) ≡ H
  column_long x = length-map (flat_rows W H xs) (λ r. get_or r x S.order.blank) ∙ rows_high W H xs n

  column_at_law : (x j : ℕ) → x < W → j < H → get_or (column S x (flat_rows W H xs)) j S.order.blank ≡ get_or xs (j * W + x) S.order.blank
  column_at_law x j c h =
      get_or-map (λ r. get_or r x S.order.blank) (flat_rows W H xs) j []
      ∙ ap (λ r. get_or r x S.order.blank) (rows_at W H xs n j h) ∙ row_at W H xs n j x S.order.blank c

  down_at : (ys : List A) → Reached S.order W S.above S.below xs ys → (y x : ℕ) → y < H → x < W
      → get_or ys (y * W + x) S.order.blank ≡ best_at S.order S.above S.below (column S x (flat_rows W H xs)) y
  down_at ys a y x h c =
      let i = place_fits W H y x h c in
      let l : y * W + x < length xs = omega (arith, n) in
      let t = column_long x in
      let u : y < length (column S x (flat_rows W H xs)) = omega arith in
      let g = line_greatest S.order S.above S.below (column S x (flat_rows W H xs)) y u in
      let v = a.has (y * W + x) l in
      let (k, w, e) = v.place in
      let (j, b, d) = g.place in
      let q : j < H = omega (arith, b.0) in
      greatest_one S.order P told (λ k. get_or xs k S.order.blank) (λ k. get_or (column S x (flat_rows W H xs)) k S.order.blank) _ _ _ _ v g
      (subst P (sym e) (each_get_d P xs k S.order.blank all w.0))
      (subst P (sym (d ∙ column_at_law x j c q)) (each_get_d P xs (j * W + x) S.order.blank all (omega (arith, place_fits W H j x q c, n))))
      (λ k s. let (j, r, f) = to_column W H S.above S.below y x h c k (rw n at s) in (j, rw t r, ap (λ (m : ℕ). get_or xs m S.order.blank) f ∙ sym (column_at_law x j c r.0)))
      (λ j s. let r = rw t at s in (j * W + x, rw n (from_column W H S.above S.below y x h c j r), column_at_law x j c r.0))

  down_row : (ys : List A) → Reached S.order W S.above S.below xs ys → (y : ℕ) → y < H
      → flat_row W ys y ≡ tabulate W (λ x. best_at S.order S.above S.below (column S x (flat_rows W H xs)) y)
  down_row ys a y h =
      let m : length ys ≡ H * W = a.long ∙ n in
      let l = row_length W H ys m y h in
      ext_get_or S.order.blank _ _ (l ∙ sym (length_tabulate W _)) (λ x k.
      let c : x < W = omega arith in
      row_at W H ys m y x S.order.blank c ∙ down_at ys a y x h c ∙ sym (get_d_tabulate W _ x _ c))

  pub reached_down : (ys : List A) → Reached S.order W S.above S.below xs ys → flat_rows W H ys ≡ down S (flat_rows W H xs)
  unfolding down
  reached_down ys a =
      rw (rows_high W H xs n)
      (rows_tab W H ys ∙ tabulate_ext H _ _ (λ y h.
      down_row ys a y h ∙ ap (λ (m : ℕ). tabulate m (λ x. best_at S.order S.above S.below (column S x (flat_rows W H xs)) y)) (sym (ap length (rows_at W H xs n y h) ∙ row_length W H xs n y h))))

-- ---- a stage

map_tabulate : {A B : Type 0} (f : A → B) (n : ℕ) (g : ℕ → A) → map f (tabulate n g) ≡ tabulate n (λ k. f (g k))
map_tabulate f zero g = refl
map_tabulate f (suc n) g = rw (map_tabulate f n (λ k. g (suc k)))

pub each_of : {A : Type 0} (P : A → Type 0) (d : A) (l : List A) → ((i : ℕ) → i < length l → P (get_or l i d)) → Each P l
each_of P d [] h = tt
each_of P d (a ∷ l) h = (h 0 (omega arith), each_of P d l (λ i k. h (suc i) (omega arith)))

pub some_wide : (W H i : ℕ) → i < H * W → 0 < W
some_wide zero H i h = absurd (omega (arith, mul-zero H))
some_wide (suc W) H i h = omega arith

module _ {A : Type 0} (O : Order A) (P : A → Type 0) (W H B F : ℕ) (xs zs : List A) (n : length xs ≡ H * W) (all : Each P xs) (a : Crossed O W H B F xs zs) where
  pub crossed_each : Each P zs
  crossed_each = each_of P O.blank zs (λ i h. here i (omega (arith, a.long)))
    where
      here : (i : ℕ) → i < length xs → P (get_or zs i O.blank)
      here i h =
          let w : 0 < W = some_wide W H i (rw n at h) in
          let y : i / W < H = (div-lt_iff_lt-mul w).1 (rw n at h) in
          let x : i % W < W = mod-lt i w in
          let e : i / W * W + i % W ≡ i = div-add-mod' i W in
          let l = each_slice P (i / W * W) (i / W * W + W) xs all in
          let m = row_length W H xs n (i / W) y in
          subst P (row_at W H zs (a.long ∙ n) (i / W) (i % W) O.blank x ∙ ap (λ (k : ℕ). get_or zs k O.blank) e)
          (rw (a.rows (i / W) y) (each_get_d P (filter_line O B F (flat_row W xs (i / W))) (i % W) O.blank (line_each O P B F (flat_row W xs (i / W)) l) (rw (length_line O B F (flat_row W xs (i / W)), m) x)))

module _ {A : Type 0} (S : Stage A) (P : A → Type 0) (told : Told S.order P) (W H : ℕ) (xs : List A) (n : length xs ≡ H * W) (all : Each P xs) (zs : List A) (a : Crossed S.order W H S.back S.ahead xs zs) where
  crossed_across : flat_rows W H zs ≡ across S (flat_rows W H xs)
  unfolding across
  crossed_across =
      rows_tab W H zs ∙ tabulate_ext H _ _ a.rows ∙ sym (ap (map (filter_line S.order S.back S.ahead)) (rows_tab W H xs) ∙ map_tabulate (filter_line S.order S.back S.ahead) H (flat_row W xs))

  -- across by rows, and then down in units of a row, is the stage
  pub stage_done : (ys : List A) → Reached S.order W S.above S.below zs ys → flat_rows W H ys ≡ apply_stage S (flat_rows W H xs)
  stage_done ys b =
      reached_down S P told W H zs (a.long ∙ n) (crossed_each S.order P W H S.back S.ahead xs zs n all a) ys b
      ∙ ap (down S) crossed_across ∙ sym (separable S W (flat_rows W H xs) (rows_wide W H xs n))

-- what holds of each value holds of each that is reached
pub reached_all : {A : Type 0} (O : Order A) (P : A → Type 0) (u lo hi : ℕ) (xs ys : List A) → Each P xs → Reached O u lo hi xs ys → Each P ys
reached_all O P u lo hi xs ys all a =
    each_of P O.blank ys (λ i h. let (k, w, e) = (a.has i (omega (arith, a.long))).place in subst P (sym e) (each_get_d P xs k O.blank all w.0))
