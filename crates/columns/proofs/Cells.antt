-- The cells of a column, as a part of the stage's that is lent and comes back. By which idea: the cells of one column end before those of a later one begin.
use Rattle.std.proofs.Common.{◌≡◌, sym, ap, ◌∙◌, List, [], ◌∷◌, ◌≢◌, ◌⊎◌, inl, inr, ⊎_elim, ℕ, zero, suc, ◌+◌, ◌-◌, ◌*◌, ◌≤◌, ◌<◌, zero-add, suc-add, suc-mul, mul-le-mul_right, eq-or-lt_of_le, add-one, arith, ltb-true, ltb-false, ltb, length, take, drop, get_or, take-take, drop-drop, take_at, drop_at, length-take-le, get_or-take, get_or-drop}
use Rattle.std.proofs.Math.Seq.{slice, take-nil}
use borrow.Rule.Slice.PartMut.{put_mid, take_put, drop_put}
use Rattle.morph.proofs.Lists.{split}
use Rattle.columns.specs.Inner.{Lent}
use Rattle.memory.specs.Memory.{cells_at}

pub ends_before : (P j x : ℕ) → j < x → j * P + P ≤ x * P
ends_before P j x h = let e : suc j * P ≡ j * P + P = suc-mul j P in let l : suc j * P ≤ x * P = mul-le-mul_right P h in omega arith

-- a column's cells are there, and its record is sound
pub column_in : (P W x lo : ℕ) (ps ss ls : List ℕ) → Lent P W ps ss ls → lo ≡ x * P → x < W → (lo + P ≤ length ps) × (get_or ss x 0 < P) × (get_or ls x 0 ≤ P)
column_in P W x lo ps ss ls l e h = (omega (arith, ends_before P x W h, l.positions_long), l.sound.below x h, l.sound.fits x h)

-- the next column's begin where they end
pub next_cells : (P x lo : ℕ) → lo ≡ x * P → lo + P ≡ (x + 1) * P
next_cells P x lo e = rw (e, add-one) (sym (suc-mul x P))

apart : (j x : ℕ) → j ≢ x → (j < x) ⊎ (x < j)
apart j x n = split (ltb j x) (λ t. inl (ltb-true j x t)) (λ t. ⊎_elim (λ e. absurd (n (sym e))) (λ h. inr h) (eq-or-lt_of_le (ltb-false j x t)))

module _ {A : Type 0} where
  slice_part : (a n : ℕ) (xs : List A) → slice a (a + n) xs ≡ take n (drop a xs)
  slice_part zero n xs = rw zero-add
  slice_part (suc a) n [] = rw (take-nil n, suc-add a n)
  slice_part (suc a) n (x ∷ xs) = rw suc-add (slice_part a n xs)

  pub cells_part : (P x : ℕ) (xs : List A) → take P (drop (x * P) xs) ≡ cells_at P x xs
  cells_part P x xs = sym (slice_part (x * P) P xs)

  -- place k of a column, in the stage's cells
  pub cells_place : (P x k : ℕ) (xs : List A) (d : A) → k < P → get_or (cells_at P x xs) k d ≡ get_or xs (x * P + k) d
  cells_place P x k xs d h = rw (get_or-drop, get_or-take (x * P + P) xs (x * P + k) d (omega arith))

  -- the cells of two lists are the same outside column x's
  abbrev pub Beside : ℕ → ℕ → List A → List A → Type 0
  Beside P x xs xs' = (j : ℕ) → j ≢ x → cells_at P j xs' ≡ cells_at P j xs

  -- column x's cells, put back as ys
  module _ (P x : ℕ) (xs ys : List A) (h : x * P + P ≤ length xs) (e : length ys ≡ P) where
    abbrev put : List A
    put = put_mid (x * P) P xs ys

    pub put_here : cells_at P x put ≡ ys
    put_here = slice_part (x * P) P put ∙ ap (take P) (drop_at (take (x * P) xs) _ (x * P) (length-take-le (x * P) xs (omega arith))) ∙ take_at ys _ P e

    put_after : drop (x * P + P) put ≡ drop (x * P + P) xs
    put_after = let l : x * P + P - x * P ≡ P = omega arith in rw l at (drop_put (x * P) (x * P + P) xs ys (omega arith) h (rw l e))

    -- two lists that agree from column x's end on agree in a later column's cells
    later : (j : ℕ) (zs : List A) → x < j → cells_at P j zs ≡ take P (drop (j * P - (x * P + P)) (drop (x * P + P) zs))
    later j zs b =
        let k : x * P + P + (j * P - (x * P + P)) ≡ j * P = omega (arith, ends_before P x j b) in rw (slice_part (j * P) P zs, drop-drop (j * P - (x * P + P)) (x * P + P) zs, k)

    -- and an earlier column's are among those before column x's
    earlier : (j : ℕ) (zs : List A) → j < x → cells_at P j zs ≡ drop (j * P) (take (j * P + P) (take (x * P) zs))
    earlier j zs b = rw (take-take (j * P + P) (x * P) zs (ends_before P j x b))

    pub put_beside : Beside P x xs put
    put_beside j n =
        ⊎_elim
        (λ b. earlier j put b ∙ ap (λ l. drop (j * P) (take (j * P + P) l)) (take_put (x * P) P xs ys (omega arith)) ∙ sym (earlier j xs b))
        (λ b. later j put b ∙ ap (λ l. take P (drop (j * P - (x * P + P)) l)) put_after ∙ sym (later j xs b))
        (apart j x n)
