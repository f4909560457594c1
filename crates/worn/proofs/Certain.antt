-- Yes is certain exactly where the sum so far is over the limit. By which idea: sums grow, and rows that equal their closed rows pass and add nothing.
use mathlib.Core.Path.{◌≡◌, refl, ap, ◌∙◌}
use mathlib.Core.Bool.{false, cond, ◌&&◌}
use mathlib.Core.List.{List, []}
use Prim.Native.Nat.{ℕ, zero, suc, ◌-◌, ◌≤◌, ◌<◌}
use native.Mathlib.Omega.{arith}
use borrow.Author.Tests.{leb-true, leb-false, lt-ltb, le-ltb}
use lib.Dec.{ltb, leb}
use lib.ListN.{length, get_or}
use Rattle.morph.specs.Lists.{sum_to, tabulate}
use Rattle.morph.specs.Picture.{Picture}
use Rattle.morph.specs.Numbers.{given}
use Rattle.morph.proofs.Lists.{split, get_d_tabulate, sum_to_same}
use Rattle.residue.specs.Residue.{counted_at, some_to, darker, row_residue, negative, residue_number, picture_residue}
use Rattle.residue.proofs.Numbers.{within}
use Rattle.residue.proofs.Laws.{passes, only_negative}
use Rattle.residue.proofs.Totals.{total_none, sum_total, some_total}
use Rattle.worn.specs.declared.Question.{Question}
use Rattle.worn.specs.declared.Worn.{Worn}
use Rattle.worn.specs.declared.Worn.TheVariants.{Yes, NotYet}
use Rattle.worn.specs.Runs.{residue_at, WornRun, AllPass, Certain}
use Rattle.worn.proofs.Sums.{sum_grows}
use Rattle.worn.proofs.Runs.{run_ran}

-- a sum of which nothing is added from place t on
sum_stops : (f : ℕ → ℕ) (t n : ℕ) → ((k : ℕ) → t ≤ k → k < n → f k ≡ 0) → sum_to n f ≤ sum_to t f
sum_stops f t zero h = omega arith
sum_stops f t (suc n) h =
    split (leb t n)
    (λ e. let z = h n (leb-true t n e) (omega arith) in omega (arith, z, sum_stops f t n (λ k l m. h k l (omega (arith, m)))))
    (λ e. sum_grows f (suc n) t (omega (arith, leb-false t n e)))

-- a row that equals its closed row adds nothing, and passes where another does
module _ (a b c d row rows : ℕ) (closed input : List ℕ) where
  even_adds : row_residue a b c d row rows closed closed ≡ 0
  unfolding row_residue
  even_adds =
      total_none 0 sum_to sum_total (length closed) (λ x. cond (counted_at a b c d (length closed) rows row x) (get_or closed x 0 - get_or closed x 0) 0)
      (λ x _. let z : get_or closed x 0 - get_or closed x 0 ≡ 0 = omega arith in split (counted_at a b c d (length closed) rows row x) (λ e. rw (e, z)) (λ e. rw e))

  even_negative : negative a b c d row rows closed closed ≡ false
  unfolding negative
  even_negative =
      total_none false some_to some_total (length closed) (λ x. counted_at a b c d (length closed) rows row x && darker closed closed x)
      (λ x _. let z = le-ltb (get_or closed x 0) (get_or closed x 0) (omega arith) in split (counted_at a b c d (length closed) rows row x) (λ e. rw (e, z)) (λ e. rw e))

  even_passes : residue_number a b c d row rows closed input ≡ 0 → residue_number a b c d row rows closed closed ≡ 0
  even_passes z =
      let (e, _) = passes a b c d row rows closed input z in
      let l = (within a b c d row rows (length closed) (length input) e).even in
      only_negative a b c d row rows closed closed (rw l at e) ∙ ap (given 16) even_negative

module _ (a b c d width rows limit : ℕ) (closed input : Picture ℕ) where
  abbrev residues : ℕ → ℕ
  residues = residue_at a b c d width rows limit closed input

  pub over_certain : (t : ℕ) → t ≤ rows → limit < sum_to t residues → Certain a b c d width rows limit closed input t
  unfolding picture_residue
  over_certain t l o closed' input' g _ =
      let residues' = residue_at a b c d width rows limit closed' input' in
      let s = sum_to_same t residues residues' (λ y m. rw (g.closed_same y m, g.input_same y m) refl) in
      rw g.high (omega (arith, o, s, sum_grows residues' t rows l))

  -- ---- where it is not over yet

  module _ (p : AllPass a b c d width rows limit closed input) (high : length closed ≡ rows) (t : ℕ) (l : t ≤ rows) where
    -- the input from row t on as its closing
    abbrev rest : ℕ → List ℕ
    rest y = cond (ltb y t) (get_or input y []) (get_or closed y [])

    abbrev input' : Picture ℕ
    input' = tabulate rows rest

    row_before : (y : ℕ) → y < t → get_or input' y [] ≡ get_or input y []
    row_before y m = get_d_tabulate rows rest y [] (omega (arith, l, m)) ∙ rw (lt-ltb y t m)

    row_after : (y : ℕ) → t ≤ y → y < rows → get_or input' y [] ≡ get_or closed y []
    row_after y m k = get_d_tabulate rows rest y [] k ∙ rw (le-ltb y t m)

    rest_passes : AllPass a b c d width rows limit closed input'
    rest_passes = record {
      some = p.some;
      wide = p.wide;
      bytes = p.bytes;
      pass = λ y k.
          split (leb t y)
          (λ e. rw (row_after y (leb-true t y e) k) (even_passes a b c d y rows (get_or closed y []) (get_or input y []) (p.pass y k)))
          (λ e. rw (row_before y (leb-false t y e)) (p.pass y k));
    }

    pub certain_over : Certain a b c d width rows limit closed input t → limit < sum_to t residues
    unfolding picture_residue
    certain_over h =
        let residues' = residue_at a b c d width rows limit closed input' in
        let o = h closed input' (record { high = high; closed_same = λ y _. refl; input_same = row_before }) rest_passes in
        let s = sum_to_same t residues' residues (λ y m. rw (row_before y m) refl) in
        let e = sum_stops residues' t rows (λ k m n. rw (row_after k m n) (even_adds a b c d k rows (get_or closed k []) [])) in
        omega (arith, rw high at o, s, e)

  -- ---- the answers of a run

  pub yes_certain : {t : ℕ} {Q : Question} {said : List Worn} → WornRun a b c d width rows limit closed input t Q said
      → (k : ℕ) → k < t → k < rows → get_or said k NotYet ≡ Yes → Certain a b c d width rows limit closed input (suc k)
  yes_certain run k h l y = over_certain (suc k) l ((run_ran a b c d width rows limit closed input run).only k h y)

  pub certain_yes : AllPass a b c d width rows limit closed input → length closed ≡ rows → {t : ℕ} {Q : Question} {said : List Worn} → WornRun a b c d width rows limit closed input t Q said
      → (k : ℕ) → k < t → k < rows → Certain a b c d width rows limit closed input (suc k) → get_or said k NotYet ≡ Yes
  certain_yes p high run k h l s = (run_ran a b c d width rows limit closed input run).yes k h (certain_over p high (suc k) l s)
