-- Rows of a picture in one list, filtered one after another in place.
use Rattle.std.proofs.Common.{◌≡◌, refl, sym, ap, ◌∙◌, List, [], ◌∷◌, ◌++◌, append-nil, append_assoc, ⊎_elim, ℕ, zero, suc, ◌+◌, ◌-◌, ◌*◌, ◌≤◌, ◌<◌, zero-add, zero-mul, suc-add, mul-le-mul_right, suc-mul, eq-or-lt_of_le, arith, length, take, drop, length-append, length-drop, take-take, drop-drop, take_at, drop_at, length-take-le, take-add, take_all}
use Rattle.std.proofs.Math.Seq.{slice, take-nil, drop-nil}
use borrow.Rule.Slice.PartMut.{put_mid, post_of, take_put, drop_put, same_len_mid}
use mathlib.Core.List.{flatten}
use Rattle.laws.specs.Laws.{Told}
use Rattle.morph.specs.declared.Kind.{Kind}
use Rattle.morph.specs.declared.Kind.TheVariants.{Erosion, Dilation}
use Rattle.morph.specs.Lists.{tabulate, Each}
use Rattle.morph.proofs.Lists.{tabulate_snoc, each_slice}
use Rattle.morph.specs.Order.{Order, order_of}
use Rattle.morph.specs.Line.{filter_line}
use Rattle.morph.proofs.Line.{length_line}
use Rattle.passes.specs.Flat.{flat_row, flat_rows, UsedUpTo}
use Rattle.passes.proofs.Flat.{row_length}

-- values that are told apart are so in the order held round
pub told_of : {A : Type 0} (O : Order A) (P : A → Type 0) → Told O P → (kind : Kind) → Told (order_of kind O) P
told_of O P t Erosion a b p q h k = t a b p q k h
told_of O P t Dilation a b p q h k = t a b p q h k

module _ {A : Type 0} where
  pub mid_slice : (a k : ℕ) (l : List A) → take k (drop a l) ≡ slice a (a + k) l
  mid_slice zero k l = rw zero-add refl
  mid_slice (suc a) k [] = rw (take-nil, take-nil, drop-nil) refl
  mid_slice (suc a) k (x ∷ l) = rw suc-add (mid_slice a k l)

  module _ (a k : ℕ) (xs ys : List A) (fits : a + k ≤ length xs) (long : length ys ≡ k) where
    -- the part itself, and what lies wholly before or behind it
    put_there : slice a (a + k) (put_mid a k xs ys) ≡ ys
    put_there = sym (mid_slice a k (put_mid a k xs ys)) ∙ rw (drop_at (take a xs) (ys ++ post_of a k xs) a (length-take-le a xs (omega arith)), take_at ys (post_of a k xs) k long)

    put_before : (i j : ℕ) → j ≤ a → slice i j (put_mid a k xs ys) ≡ slice i j xs
    put_before i j h =
        ap (drop i) (sym (take-take j a (put_mid a k xs ys) h) ∙ ap (take j) (take_put a k xs ys (omega arith)) ∙ take-take j a xs h)

    put_behind : (i m : ℕ) → a + k ≤ i → slice i (i + m) (put_mid a k xs ys) ≡ slice i (i + m) xs
    put_behind i m h =
        let e : a + k + (i - (a + k)) ≡ i = omega arith in
        let f : a + k - a ≡ k = omega arith in
        let g = rw f at (drop_put a (a + k) xs ys (omega arith) fits (omega arith)) in
        sym (mid_slice i m (put_mid a k xs ys)) ∙ ap (take m) (ap (λ (n : ℕ). drop n (put_mid a k xs ys)) (sym e) ∙ sym (drop-drop (i - (a + k)) (a + k) (put_mid a k xs ys))
        ∙ ap (drop (i - (a + k))) g ∙ drop-drop (i - (a + k)) (a + k) xs ∙ ap (λ (n : ℕ). drop n xs) e) ∙ mid_slice i m xs

-- the rows before y are filtered, and the others are as they were
pub record Crossing {A : Type 0} (O : Order A) (W H lo hi y : ℕ) (xs zs : List A) : Type 0 where
  pub whole : length xs ≡ H * W
  pub long : length zs ≡ length xs
  pub within : y ≤ H
  pub done : (k : ℕ) → k < y → flat_row W zs k ≡ filter_line O lo hi (flat_row W xs k)
  pub left : (k : ℕ) → y ≤ k → k < H → flat_row W zs k ≡ flat_row W xs k

module _ {A : Type 0} (O : Order A) (W H B F : ℕ) (xs : List A) where
  module _ (y : ℕ) (zs : List A) (c : Crossing O W H B F y xs zs) where
    module _ (h : y < H) where
      pub row_within : y * W + W ≤ length zs
      row_within = omega (arith, mul-le-mul_right {m = suc y} {n = H} W h, suc-mul y W, c.long, c.whole)

      -- the row that is lent next holds what the picture held
      pub row_each : (P : A → Type 0) (hi : ℕ) → hi ≡ y * W + W → Each P xs → Each P (take (hi - y * W) (drop (y * W) zs))
      row_each P hi g v =
          let w : hi - y * W ≡ W = omega arith in
          rw (w, mid_slice (y * W) W zs, c.left y (omega arith) h) (each_slice P (y * W) (y * W + W) xs v)

      plain_next : (ys : List A) → ys ≡ filter_line O B F (flat_row W zs y) → length ys ≡ W → Crossing O W H B F (y + 1) xs (put_mid (y * W) W zs ys)
      plain_next ys e l = record {
        whole = c.whole;
        long = same_len_mid (y * W) W zs ys (l ∙ sym (length-take-le W (drop (y * W) zs) (rw length-drop (omega (arith, row_within))))) ∙ c.long;
        within = omega arith;
        done = λ k p. ⊎_elim
            (λ (q : k ≡ y). rw q (put_there (y * W) W zs ys row_within l ∙ e ∙ ap (filter_line O B F) (c.left y (omega arith) h)))
            (λ (q : k < y). put_before (y * W) W zs ys row_within l (k * W) (k * W + W) (omega (arith, mul-le-mul_right {m = suc k} {n = y} W q, suc-mul k W)) ∙ c.done k q)
            (eq-or-lt_of_le (omega arith));
        left = λ k p q. put_behind (y * W) W zs ys row_within l (k * W) W (omega (arith, mul-le-mul_right {m = suc y} {n = k} W (omega arith), suc-mul y W)) ∙ c.left k (omega arith) q;
      }

      pub cross_next : (hi : ℕ) (ys : List A) → hi ≡ y * W + W → ys ≡ filter_line O B F (take (hi - y * W) (drop (y * W) zs)) → Crossing O W H B F (y + 1) xs (put_mid (y * W) (hi - y * W) zs ys)
      cross_next hi ys g e =
          let w : hi - y * W ≡ W = omega arith in
          let f : ys ≡ filter_line O B F (flat_row W zs y) = e ∙ ap (filter_line O B F) (ap (λ (m : ℕ). take m (drop (y * W) zs)) w ∙ mid_slice (y * W) W zs) in
          let l : length ys ≡ W = ap length f ∙ length_line O B F (flat_row W zs y) ∙ row_length W H zs (c.long ∙ c.whole) y h in
          rw w (plain_next ys f l)

-- ---- the lent row

module _ {A : Type 0} (W : ℕ) (row : List A) where
  pub unused : UsedUpTo W row row
  unused = record { long = refl; past = refl }

  -- its front is lent once more, and comes back as long as it was
  pub used_again : (row' p : List A) → W ≤ length row → length (p ++ drop W row') ≡ length row' → UsedUpTo W row row' → UsedUpTo W row (p ++ drop W row')
  used_again row' p h e u =
      let l : length p ≡ W = omega (arith, rw (length-append, length-drop) at e, u.long) in
      record { long = e ∙ u.long; past = drop_at p (drop W row') W l ∙ u.past }

-- ---- the rows, joined again

flatten_snoc : {A : Type 0} (ls : List (List A)) (l : List A) → flatten (ls ++ (l ∷ [])) ≡ flatten ls ++ l
unfolding flatten
flatten_snoc [] l = append-nil l
flatten_snoc (m ∷ ls) l = rw (flatten_snoc ls l, append_assoc m (flatten ls) l) refl

flatten_rows_take : {A : Type 0} (W n : ℕ) (xs : List A) → flatten (tabulate n (flat_row W xs)) ≡ take (n * W) xs
unfolding flatten
flatten_rows_take W zero xs = rw (zero-mul W) refl
flatten_rows_take W (suc n) xs =
    let i = flatten_rows_take W n xs in
    ap flatten (tabulate_snoc n (flat_row W xs)) ∙ flatten_snoc (tabulate n (flat_row W xs)) (flat_row W xs n)
    ∙ rw (i, suc-mul n W) (ap (λ l. take (n * W) xs ++ l) (sym (mid_slice (n * W) W xs)) ∙ sym (take-add (n * W) W xs))

-- a picture in one list is its rows, joined
pub flatten_rows : {A : Type 0} (W H : ℕ) (xs : List A) → length xs ≡ H * W → flatten (flat_rows W H xs) ≡ xs
unfolding flat_rows
flatten_rows W H xs n = flatten_rows_take W H xs ∙ take_all (H * W) xs (omega arith)
