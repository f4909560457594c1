-- The ring of rows of columns: each of the last P rows has its own place, which the row P later takes over. By which idea: numbers less than P apart have different remainders by P.
use Rattle.std.proofs.Common.{◌≡◌, sym, ap, ◌∙◌, List, [], ◌++◌, append_assoc, ◌≢◌, ℕ, ◌+◌, ◌-◌, ◌*◌, ◌%◌, ◌≤◌, ◌<◌, mod-lt, mod-eq_of_lt, arith, ltb-true, ltb-false, eqb-true, le-leb, ltb, eqb, length, get_or, take, drop, take-append-drop, take-take, length-take-le}
use Rattle.std.proofs.lemmas.Bool.{eqb-false, lt-leb}
use Rattle.std.proofs.lemmas.List.{drop-append-le}
use Rattle.std.proofs.Math.Nat.{mod-add-mod, mod-eq-sub-mod}
use Rattle.morph.specs.Picture.{Picture, Stage as Filter}
use Rattle.morph.specs.Origin.{positions_line}
use Rattle.morph.proofs.Lists.{split}
use Rattle.memory.specs.Memory.{cells_at}
use Rattle.columns.proofs.Cells.{ends_before}
use Rattle.origin.specs.Kept.{ColumnsKept, columns_put}
use Rattle.origin.specs.Inner.{slot_of}

-- ---- remainders

-- n and a steps later: the remainder goes on by a, and past P from 0 again
later : {C : Type 0} (P n a : ℕ) → 0 < P → a ≤ P → (n % P + a < P → (n + a) % P ≡ n % P + a → C) → (P ≤ n % P + a → (n + a) % P ≡ n % P + a - P → C) → C
later P n a z h f g =
    let b : n % P < P = mod-lt n z in
    split (ltb (n % P + a) P)
    (λ p. let l = ltb-true (n % P + a) P p in f l (sym (mod-add-mod n P a) ∙ mod-eq_of_lt l))
    (λ p. let l = ltb-false (n % P + a) P p in let k : n % P + a - P < P = omega arith in g l (sym (mod-add-mod n P a) ∙ mod-eq-sub-mod l ∙ mod-eq_of_lt k))

module _ (P s a : ℕ) (z : 0 < P) (o : 0 < a) (l : a ≤ P) (k : a ≤ s) where
  -- the place of the row that is a steps old
  pub slot_row : slot_of P s a ≡ (s - a) % P
  unfolding slot_of
  slot_row =
      let b : (s - a) % P < P = mod-lt (s - a) z in
      let e : s - a + a ≡ s = omega arith in
      later P (s - a) a z l
      (λ p q. let r : s % P ≡ (s - a) % P + a = rw e at q in rw (r, le-leb a ((s - a) % P + a) (omega arith)) (omega arith))
      (λ p q. let r : s % P ≡ (s - a) % P + a - P = rw e at q in rw (r, lt-leb a ((s - a) % P + a - P) (omega arith)) (omega arith))

  pub slot_below : slot_of P s a < P
  slot_below = rw slot_row (mod-lt (s - a) z)

pub remainders_apart : (P r t : ℕ) → r < t → t < r + P → r % P ≢ t % P
remainders_apart P r t h k =
    let e : r + (t - r) ≡ t = omega arith in
    later P r (t - r) (omega arith) (omega arith) (λ p q n. let m : t % P ≡ r % P + (t - r) = rw e at q in omega arith) (λ p q n. let m : t % P ≡ r % P + (t - r) - P = rw e at q in omega arith)

-- ---- the columns that are kept

module _ {A : Type 0} (F : Filter A) (P W : ℕ) (p : Picture A) where
  module _ (t : ℕ) (columns : List ℕ) (kept : ColumnsKept F P W p t columns) where
    -- row t's are in their place, and the others stay
    pub kept_read : (columns' : List ℕ) → ((j : ℕ) → j ≢ t % P → cells_at W j columns' ≡ cells_at W j columns)
        → cells_at W (t % P) columns' ≡ positions_line F.order F.back F.ahead (get_or p t []) → ColumnsKept F P W p (t + 1) columns'
    kept_read columns' beside here r a b c =
        split (eqb r t)
        (λ e. rw (eqb-true r t e) here)
        (λ e.
        let n : r ≢ t = eqb-false r t e in
        let l : r < t = omega arith in
        beside (r % P) (remainders_apart P r t l (omega arith)) ∙ kept r l b (omega arith))

    -- no row is left to read
    pub kept_drained : length p ≤ t → ColumnsKept F P W p (t + 1) columns
    kept_drained h r a b c = kept r (omega arith) b (omega arith)

-- ---- the columns needed, with others in the place of one row's, before those past the need

pub put_back : (W P j : ℕ) (new columns : List ℕ) → j < P → W * P ≤ length columns → columns_put W j new (take (W * P) columns) ++ drop (W * P) columns ≡ columns_put W j new columns
put_back W P j new columns h l =
    let e : j * W + W ≤ W * P = omega (arith, ends_before W j P h) in
    let a : take (j * W) (take (W * P) columns) ≡ take (j * W) columns = take-take (j * W) (W * P) columns (omega arith) in
    let m : length (take (W * P) columns) ≡ W * P = length-take-le (W * P) columns l in
    let d : drop (j * W + W) (take (W * P) columns) ++ drop (W * P) columns ≡ drop (j * W + W) columns =
    sym (drop-append-le (j * W + W) (take (W * P) columns) (drop (W * P) columns) (omega arith)) ∙ ap (drop (j * W + W)) (take-append-drop (W * P) columns) in
    append_assoc (take (j * W) (take (W * P) columns)) (new ++ drop (j * W + W) (take (W * P) columns)) (drop (W * P) columns)
    ∙ ap (λ k. k ++ ((new ++ drop (j * W + W) (take (W * P) columns)) ++ drop (W * P) columns)) a
    ∙ ap (λ k. take (j * W) columns ++ k) (append_assoc new (drop (j * W + W) (take (W * P) columns)) (drop (W * P) columns) ∙ ap (λ k. new ++ k) d)
