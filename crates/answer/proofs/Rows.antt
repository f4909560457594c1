-- The rows that stand behind a place, all of them or up to the first that is refused. By which idea: row by row, a row's bytes are there, or they are missing and with them those of
-- all rows; a row that is all there is refused by 8 alone.
use mathlib.Core.Path.{◌≡◌, refl, sym, ap, ◌∙◌}
use mathlib.Core.Bool.{true, false, cond, not, true≢false}
use mathlib.Core.List.{List, [], ◌∷◌, map}
use mathlib.Core.Logic.{◌⊎◌, inl, inr, ⊎_elim}
use Prim.Native.Nat.{ℕ, zero, suc, ◌+◌, ◌*◌, ◌≤◌, ◌<◌}
use native.Mathlib.Nat.{suc-mul}
use native.Mathlib.Omega.{arith}
use borrow.Author.Tests.{lt-ltb, le-ltb, eq-eqb, ltb-true, ltb-false}
use lib.Dec.{ltb}
use lib.ListN.{length, drop, length-drop}
use lib.Seq.{drop-drop}
use Rattle.morph.specs.Lists.{tabulate, all}
use Rattle.morph.proofs.Lists.{split, tabulate_ext}
use Rattle.morph.specs.Numbers.{given, first_of}
use Rattle.morph.proofs.Numbers.{first_one, first_skip, first_found}
use Rattle.plan_record.specs.declared.Plan.{Plan}
use Rattle.job_read.specs.Job.{missing}
use Rattle.answer.specs.Answer.{Coding, row_group_number, rows_in, end_number}

-- 13 or 14 by how many bytes there are beside how many there should be
abbrev pub length_number : ℕ → List ℕ → ℕ
length_number n bytes = first_of (missing n bytes ∷ given 14 (ltb n (length bytes)) ∷ [])

ltb_same : (a b c d : ℕ) → (a < b → c < d) → (b ≤ a → d ≤ c) → ltb a b ≡ ltb c d
ltb_same a b c d h k = split (ltb a b) (λ e. e ∙ sym (lt-ltb c d (h (ltb-true a b e)))) (λ e. e ∙ sym (le-ltb c d (k (ltb-false a b e))))

length_behind : (at n : ℕ) (bytes : List ℕ) → at ≤ length bytes → length_number n (drop at bytes) ≡ length_number (at + n) bytes
length_behind at n bytes h =
    let e = length-drop at bytes in
    let m = ltb_same (length (drop at bytes)) n (length bytes) (at + n) (λ l. omega arith) (λ l. omega arith) in
    let o = ltb_same n (length (drop at bytes)) (at + n) (length bytes) (λ l. omega arith) (λ l. omega arith) in
    cc

module _ {A : Type 0} (C : Coding A) (plan : Plan) (width rows : ℕ) (bytes : List ℕ) where
  abbrev pub size : ℕ
  size = width * C.size

  -- row y behind a place
  abbrev pub row_at : ℕ → ℕ → List A
  row_at at y = C.read width (drop (at + y * size) bytes)

  abbrev pub BadBehind : ℕ → ℕ → Type 0
  BadBehind n at = (y : ℕ) × (y < n) × (at + (y + 1) * size ≤ length bytes) × (all C.samples.good (row_at at y) ≡ false)

  -- the number of the first row
  module _ (at : ℕ) where
    group : ℕ
    group = row_group_number C width (drop at bytes)

    group_short : at ≤ length bytes → length bytes < at + size → group ≡ 13
    unfolding group
    group_short h l =
        let e : missing size (drop at bytes) ≡ 13 = simp (lt-ltb (length (drop at bytes)) size (omega (arith, length-drop at bytes))) in
        rw e refl

    group_there : at + size ≤ length bytes → group ≡ given 8 (not (all C.samples.good (C.read width (drop at bytes))))
    unfolding group
    group_there h =
        let e : missing size (drop at bytes) ≡ 0 = simp (le-ltb (length (drop at bytes)) size (omega (arith, length-drop at bytes))) in
        first_skip (missing size (drop at bytes)) (given 8 (not (all C.samples.good (C.read width (drop at bytes)))) ∷ []) e
        ∙ first_one (given 8 (not (all C.samples.good (C.read width (drop at bytes)))))

  first_row : (at : ℕ) → row_at at 0 ≡ C.read width (drop at bytes)
  first_row at = let z : at + 0 * size ≡ at = omega arith in ap (λ (n : ℕ). C.read width (drop n bytes)) z

  next_row : (at y : ℕ) → row_at (at + size) y ≡ row_at at (suc y)
  next_row at y = let z : at + size + y * size ≡ at + suc y * size = omega (arith, suc-mul y size) in ap (λ (n : ℕ). C.read width (drop n bytes)) z

  -- what is left behind the first row
  after : (at : ℕ) → drop size (drop at bytes) ≡ drop (at + size) bytes
  after at = drop-drop size at bytes

  bad_later : (n at : ℕ) → BadBehind n (at + size) → BadBehind (suc n) at
  bad_later n at (y, h, l, b) = (suc y, omega arith, omega (arith, suc-mul y size), sym (ap (all C.samples.good) (next_row at y)) ∙ b)

  bad_first : (n at : ℕ) → BadBehind (suc n) at → (all C.samples.good (C.read width (drop at bytes)) ≡ true) → BadBehind n (at + size)
  bad_first n at (zero, h, l, b) g = absurd (true≢false (sym g ∙ sym (ap (all C.samples.good) (first_row at)) ∙ b))
  bad_first n at (suc y, h, l, b) g = (y, omega arith, omega (arith, suc-mul y size), ap (all C.samples.good) (next_row at y) ∙ b)

  -- the number at the end of n rows behind a place: 8 where one that is all there is bad, else 13 or 14 by the length
  abbrev pub Judged : ℕ → ℕ → Type 0
  Judged n at =
      (BadBehind n at × (end_number C width n (drop at bytes) ≡ 8)) ⊎ ((BadBehind n at → ⊥) × (end_number C width n (drop at bytes) ≡ length_number (at + n * size) bytes))

  none_judged : (at : ℕ) → at ≤ length bytes → end_number C width 0 (drop at bytes) ≡ length_number (at + 0 * size) bytes
  unfolding end_number
  none_judged at h =
      let e : missing 0 (drop at bytes) ≡ 0 = simp (le-ltb (length (drop at bytes)) 0 (omega arith)) in
      sym (first_one (given 14 (ltb 0 (length (drop at bytes))))) ∙ sym (first_skip (missing 0 (drop at bytes)) (given 14 (ltb 0 (length (drop at bytes))) ∷ []) e)
      ∙ length_behind at 0 bytes h ∙ ap (λ (n : ℕ). length_number (at + n) bytes) (omega arith)

  end_found : (n at number : ℕ) → group at ≡ number → (number ≡ 0 → ⊥) → end_number C width (suc n) (drop at bytes) ≡ number
  unfolding end_number group
  end_found n at number e h = first_found (group at) (end_number C width n (drop size (drop at bytes)) ∷ []) (λ z. h (sym e ∙ z)) ∙ e

  end_skip : (n at : ℕ) → group at ≡ 0 → end_number C width (suc n) (drop at bytes) ≡ end_number C width n (drop (at + size) bytes)
  unfolding end_number group
  end_skip n at e =
      first_skip (group at) (end_number C width n (drop size (drop at bytes)) ∷ []) e ∙ first_one (end_number C width n (drop size (drop at bytes)))
      ∙ ap (end_number C width n) (after at)

  pub rows_judged : (n at : ℕ) → at ≤ length bytes → Judged n at
  rows_judged zero at h = inr (λ (y, l, _, _). omega arith, none_judged at h)
  rows_judged (suc n) at h =
      let m : suc n * size ≡ n * size + size = suc-mul n size in
      split (ltb (length bytes) (at + size))
      (λ e.
      let l = ltb-true (length bytes) (at + size) e in
      let k : length_number (at + suc n * size) bytes ≡ 13 = simp (lt-ltb (length bytes) (at + suc n * size) (omega arith)) in
      inr (λ (y, _, b, _). omega (arith, suc-mul y size), end_found n at 13 (group_short at h l) (λ z. omega arith) ∙ sym k))
      (λ e.
      let l = ltb-false (length bytes) (at + size) e in
      split (all C.samples.good (C.read width (drop at bytes)))
      (λ g.
      let z : group at ≡ 0 = group_there at l ∙ rw g refl in
      let t = end_skip n at z in
      ⊎_elim
      (λ (b, q). inl (bad_later n at b, t ∙ q))
      (λ (b, q). inr (λ c. b (bad_first n at c g), t ∙ q ∙ ap (λ (k : ℕ). length_number k bytes) (omega arith)))
      (rows_judged n (at + size) l))
      (λ g. inl ((0, omega arith, omega arith, ap (all C.samples.good) (first_row at) ∙ g), end_found n at 8 (group_there at l ∙ rw g refl) (λ z. omega arith))))

  -- rows that are all there and good
  pub rows_full : (n at : ℕ) → at + n * size ≤ length bytes → ((y : ℕ) → y < n → all C.samples.good (row_at at y) ≡ true)
      → rows_in C width n (drop at bytes) ≡ tabulate n (λ y. map C.samples.taken (row_at at y))
  unfolding rows_in group
  rows_full zero at h good = refl
  rows_full (suc n) at h good =
      let m : suc n * size ≡ n * size + size = suc-mul n size in
      let g = sym (ap (all C.samples.good) (first_row at)) ∙ good 0 (omega arith) in
      let z : group at ≡ 0 = group_there at (omega arith) ∙ rw g refl in
      let i = rows_full n (at + size) (omega arith) (λ y l. ap (all C.samples.good) (next_row at y) ∙ good (suc y) (omega arith)) in
      let t = tabulate_ext n (λ y. map C.samples.taken (row_at (at + size) y)) (λ y. map C.samples.taken (row_at at (suc y))) (λ y l. ap (map C.samples.taken) (next_row at y)) in
      let r = map C.samples.taken (C.read width (drop at bytes)) in
      ap (λ b. cond b (r ∷ rows_in C width n (drop size (drop at bytes))) []) (eq-eqb (group at) 0 z)
      ∙ ap (λ l. r ∷ rows_in C width n l) (after at) ∙ ap (λ q. r ∷ q) (i ∙ t)
      ∙ ap (λ p. map C.samples.taken p ∷ tabulate n (λ y. map C.samples.taken (row_at at (suc y)))) (sym (first_row at))
