-- A queue in cells that keep remainders, read by the steps done, takes its steps as the queue itself does. By which idea: an entry of a window is at most 63 steps old, and among the last 128 rows each remainder is there once.
use mathlib.Core.Path.{◌≡◌, refl, sym, ap, ◌∙◌}
use mathlib.Core.Bool.{Bool}
use mathlib.Core.List.{List, [], ◌∷◌, ◌++◌, map}
use Prim.Native.Nat.{ℕ, suc, ◌+◌, ◌-◌, ◌*◌, ◌/◌, ◌%◌, ◌≤◌, ◌<◌}
use native.Mathlib.Nat.{mod-lt, mod-add-div', mod-eq_of_lt}
use native.Mathlib.Omega.{arith}
use borrow.Author.Tests.{eqb-true, eqb-false, eq-eqb, ne_eqb, leb-true, le-leb, ltb-true, lt-ltb, le-ltb}
use lib.Dec.{leb, ltb, eqb}
use lib.Arith.{digits_mod}
use lib.ListN.{length, take, drop, length-map}
use Rattle.morph.specs.Order.{Order}
use Rattle.morph.specs.Lists.{Each}
use Rattle.morph.specs.Line.{Entry, front, queue}
use Rattle.morph.specs.Inner.{popped, roomed, stepped, step_cost, cells_go, cells_roomed, cells_stepped}
use Rattle.morph.specs.Cell.{age_of, row_of, read_at}
use Rattle.morph.proofs.Lists.{split, take_map, each_in, each_take, each_drop}
use Rattle.morph.proofs.Line.{queue_sound}

-- of the last 128 rows each is told by its remainder
pub age_row : (s q : ℕ) → q < s → s ≤ q + 128 → age_of s (q % 128) ≡ s - q
unfolding age_of
age_row s q h k =
    let m : q % 128 < 128 = mod-lt q (omega arith) in
    let d = mod-add-div' q 128 in
    let z : q % 128 % 128 ≡ q % 128 = mod-eq_of_lt m in
    let e : s + 255 - q % 128 ≡ (q / 128 + 2) * 128 + (s - 1 - q) = omega arith in
    let f : ((q / 128 + 2) * 128 + (s - 1 - q)) % 128 ≡ s - 1 - q = digits_mod (q / 128 + 2) (omega arith) in
    rw (z, e, f) (omega arith)

pub row_kept : (s q : ℕ) → q < s → s ≤ q + 128 → row_of s (q % 128) ≡ q
unfolding row_of
row_kept s q h k = let a = age_row s q h k in rw (lt-ltb (q % 128) 128 (mod-lt q (omega arith)), a, le-leb (s - q) s (omega arith)) (omega arith)

-- what is read as a row that has been read
pub row_read : (s r : ℕ) → row_of s r < s → (r < 128) × (age_of s r ≤ s) × (row_of s r ≡ s - age_of s r)
unfolding row_of
row_read s r h =
    split (ltb r 128)
    (λ a. split (leb (age_of s r) s) (λ b. (ltb-true r 128 a, leb-true (age_of s r) s b, rw (a, b))) (λ b. absurd (let z : s < s = rw (a, b) at h in omega arith)))
    (λ a. absurd (let z : s < s = rw a at h in omega arith))

pub age_some : (s r : ℕ) → (0 < age_of s r) × (age_of s r ≤ 128)
unfolding age_of
age_some s r = let m : (s + 255 - r % 128) % 128 < 128 = mod-lt (s + 255 - r % 128) (omega arith) in (omega arith, omega arith)

-- it has the remainder that the cell keeps
row_remainder : (s r : ℕ) → row_of s r < s → row_of s r % 128 ≡ r
unfolding age_of
row_remainder s r h =
    let (a, b, c) = row_read s r h in
    let z : r % 128 ≡ r = mod-eq_of_lt a in
    let x = s + 255 - r % 128 in
    let d = mod-add-div' x 128 in
    let m : x % 128 < 128 = mod-lt x (omega arith) in
    let n = x / 128 in
    let e : s - (x % 128 + 1) ≡ (x / 128 - 2) * 128 + r = omega arith in
    ap (λ k. k % 128) (c ∙ e) ∙ digits_mod (x / 128 - 2) a

-- a step later it is one step older
age_next : (s r : ℕ) → age_of s r < 128 → age_of (suc s) r ≡ suc (age_of s r)
unfolding age_of
age_next s r h =
    let m : r % 128 < 128 = mod-lt r (omega arith) in
    let x = s + 255 - r % 128 in
    let n : x % 128 + 1 < 128 = h in
    let d = mod-add-div' x 128 in
    let e : suc s + 255 - r % 128 ≡ x / 128 * 128 + (x % 128 + 1) = omega arith in
    rw (e, digits_mod (x / 128) n) (omega arith)

row_is : (s r : ℕ) → r < 128 → age_of s r ≤ s → row_of s r ≡ s - age_of s r
unfolding row_of
row_is s r a b = rw (lt-ltb r 128 a, le-leb (age_of s r) s b)

pub row_next : (s r : ℕ) → row_of s r < s → s < row_of s r + 128 → row_of (suc s) r ≡ row_of s r
row_next s r h k =
    let (a, b, c) = row_read s r h in
    let e = age_next s r (omega (arith, (age_some s r).0)) in
    row_is (suc s) r a (omega arith) ∙ rw (e, c) (omega arith)

-- ---- a step on the cells, and on what is read of them

-- read after t steps, an entry is one of the last w rows
abbrev pub Fresh : {A : Type 0} → ℕ → ℕ → Entry A → Type 0
Fresh w t e = (row_of t e.position < t) × (t ≤ row_of t e.position + w)

each_unmap : {A B : Type 0} (P : B → Type 0) (f : A → B) (l : List A) → Each P (map f l) → Each (λ a. P (f a)) l
each_unmap P f [] h = tt
each_unmap P f (a ∷ l) h = (h.0, each_unmap P f l h.1)

map_append : {A B : Type 0} (f : A → B) (l m : List A) → map f (l ++ m) ≡ map f l ++ map f m
map_append f [] m = refl
map_append f (a ∷ l) m = ap (λ r. f a ∷ r) (map_append f l m)

-- such an entry keeps the remainder of t - w exactly where step t finds it too old
cell_too_old : (w t r : ℕ) → 0 < w → w ≤ 127 → row_of t r < t → t ≤ row_of t r + w → eqb r ((t + 128 - w) % 128) ≡ ltb (row_of t r) (suc t - w)
cell_too_old w t r z l h k =
    let p = row_of t r in
    let m = row_remainder t r h in
    let d = mod-add-div' (row_of t r) 128 in
    let x = t + 128 - w in
    let f = mod-add-div' x 128 in
    split (eqb (row_of t r + w) t)
    (λ a.
    let b = eqb-true (row_of t r + w) t a in
    let e : t + 128 - w ≡ row_of t r / 128 * 128 + r + 128 = omega arith in
    let g : t + 128 - w ≡ (row_of t r / 128 + 1) * 128 + r = omega arith in
    let i : (t + 128 - w) % 128 ≡ r = rw g (digits_mod (row_of t r / 128 + 1) (row_read t r h).0) in
    eq-eqb r ((t + 128 - w) % 128) (sym i) ∙ sym (lt-ltb (row_of t r) (suc t - w) (omega arith)))
    (λ a.
    let b = eqb-false (row_of t r + w) t a in
    ne_eqb r ((t + 128 - w) % 128) (λ c. b (omega arith)) ∙ sym (le-ltb (row_of t r) (suc t - w) (omega arith)))

module _ {A : Type 0} where
  popped_read : (f : A → Bool) (s : ℕ) (q : List (Entry A)) → popped f (map (read_at s) q) ≡ popped f q
  popped_read f s [] = refl
  popped_read f s (e ∷ q) = rw (popped_read f s q, length-map q (read_at s))

  -- reading changes no value: neither the comparisons nor the front
  pub cost_read : (f : A → Bool) (s : ℕ) (q : List (Entry A)) → step_cost f (map (read_at s) q) ≡ step_cost f q
  unfolding step_cost
  cost_read f s q = rw (popped_read f s q, length-map q (read_at s))

  pub front_read : (O : Order A) (s : ℕ) (q : List (Entry A)) → front O (map (read_at s) q) ≡ front O q
  front_read O s [] = refl
  front_read O s (e ∷ q) = refl

  cells_roomed_law : (w t : ℕ) (q : List (Entry A)) → 0 < w → w ≤ 127 → Each (Fresh w t) q → map (read_at t) (cells_roomed w t q) ≡ roomed w t (map (read_at t) q)
  unfolding cells_roomed cells_go roomed
  cells_roomed_law w t [] z l h = split (leb w 0) (λ p. rw p) (λ p. rw p)
  cells_roomed_law w t (e ∷ q) z l h =
      let a = cell_too_old w t e.position z l h.0.0 h.0.1 in
      split (leb w (suc (length q)))
      (λ p. rw (length-map q (read_at t), p))
      (λ p. split (eqb e.position ((t + 128 - w) % 128)) (λ b. rw (length-map q (read_at t), p, b, sym a ∙ b)) (λ b. rw (length-map q (read_at t), p, b, sym a ∙ b)))

  cells_later : (w t : ℕ) (q : List (Entry A)) → w ≤ 127 → Each (Fresh w t) q → map (read_at (suc t)) q ≡ map (read_at t) q
  cells_later w t [] l h = refl
  cells_later w t (e ∷ q) l h =
      let r : row_of (suc t) e.position ≡ row_of t e.position = row_next t e.position h.0.0 (omega (arith, h.0.1)) in
      rw (r, cells_later w t q l h.1)

  pub cells_drained : (w t : ℕ) (q : List (Entry A)) → 0 < w → w ≤ 127 → Each (Fresh w t) q → map (read_at (suc t)) (cells_roomed w t q) ≡ roomed w t (map (read_at t) q)
  unfolding cells_roomed
  cells_drained w t q z l h = cells_later w t (drop (cells_go w t q) q) l (each_drop (Fresh w t) (cells_go w t q) q h) ∙ cells_roomed_law w t q z l h

  pub cells_stepped_law : (f : A → Bool) (w t : ℕ) (v : A) (q : List (Entry A)) → 0 < w → w ≤ 127 → Each (Fresh w t) q
      → map (read_at (suc t)) (cells_stepped f w t v q) ≡ stepped f w t v (map (read_at t) q)
  unfolding cells_stepped stepped
  cells_stepped_law f w t v q z l h =
      let n : read_at (suc t) (record { value = v; position = t % 128 }) ≡ record { value = v; position = t } = ap (λ r. record { value = v; position = r }) (row_kept (suc t) t (omega arith) (omega arith)) in
      rw (length-map q (read_at t), popped_read f t q, take_map)
      (map_append (read_at (suc t)) (cells_roomed w t (take (length q - popped f q) q)) (record { value = v; position = t % 128 } ∷ [])
      ∙ ap (λ r. map (read_at (suc t)) (cells_roomed w t (take (length q - popped f q) q)) ++ (r ∷ [])) n
      ∙ ap (λ m. m ++ (record { value = v; position = t } ∷ [])) (cells_drained w t (take (length q - popped f q) q) z l (each_take (Fresh w t) (length q - popped f q) q h)))

-- the cells of a queue of a run have such entries alone
pub held_fresh : {A : Type 0} (O : Order A) (w : ℕ) (xs : List A) (t : ℕ) (q : List (Entry A)) → map (read_at t) q ≡ queue O w xs t → Each (Fresh w t) q
held_fresh O w xs t q e =
    each_unmap (λ r. (r.position < t) × (t ≤ r.position + w)) (read_at t) q
    (rw e (each_in (queue O w xs t) (λ r i. let s = queue_sound O w xs t r i in (s.done, s.recent))))

-- two queues of such entries that are read alike are alike cell by cell
pub read_same : {A : Type 0} (w t : ℕ) (q r : List (Entry A)) → Each (Fresh w t) q → Each (Fresh w t) r → map (read_at t) q ≡ map (read_at t) r → q ≡ r
read_same w t [] [] h k e = refl
read_same w t [] (b ∷ r) h k e = absurd (let z : ◌≡◌ {A = ℕ} 0 (suc (length (map (read_at t) r))) = ap length e in omega arith)
read_same w t (a ∷ q) [] h k e = absurd (let z : ◌≡◌ {A = ℕ} (suc (length (map (read_at t) q))) 0 = ap length e in omega arith)
read_same w t (a ∷ q) (b ∷ r) h k e =
    let f : read_at t a ≡ read_at t b = cc in
    let g : map (read_at t) q ≡ map (read_at t) r = cc in
    let p : row_of t a.position ≡ row_of t b.position = ap (λ i. i.position) f in
    let m : a.position ≡ b.position = sym (row_remainder t a.position h.0.0) ∙ ap (λ i. i % 128) p ∙ row_remainder t b.position k.0.0 in
    let v : a.value ≡ b.value = ap (λ i. i.value) f in
    let one : a ≡ b = ap (λ n. record { value = a.value; position = n }) m ∙ ap (λ n. record { value = n; position = b.position }) v in
    ap (λ i. i ∷ q) one ∙ ap (λ l. b ∷ l) (read_same w t q r h.1 k.1 g)
