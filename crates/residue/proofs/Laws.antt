-- Laws of the loops over a row, of the answer by its number, and of a picture by the answers of its rows.
use Rattle.std.proofs.Common.{Result, Ok, Err, ◌≡◌, refl, sym, ap, ◌∙◌, Bool, true, false, cond, not, ◌||◌, List, [], ◌∷◌, ◌++◌, ⊎_elim, ℕ, zero, suc, ◌+◌, ◌-◌, ◌*◌, ◌≤◌, ◌<◌, not-suc-le-zero, eq-or-lt_of_le, le_of_suc-le-suc, add-one, arith, eqb, leb, length, get_or}
use Rattle.std.proofs.lemmas.Bool.{false≢true}
use Rattle.std.specs.Result.{IsErrAnd}
use Rattle.morph.specs.declared.refusal.Refusal.{Refusal}
use Rattle.morph.specs.Refusals.{refusal_number}
use Rattle.morph.specs.Lists.{sum_to, tabulate}
use Rattle.morph.specs.Picture.{Picture}
use Rattle.morph.specs.Numbers.{given, first_of, extent_number}
use Rattle.morph.proofs.Lists.{split, neither, length_tabulate, get_d_tabulate, sum_to_same, sum_to_le}
use Rattle.morph.proofs.Numbers.{first_one, first_skip, first_found, first_zero, given_zero}
use Rattle.plan_record.specs.Numbers.{size_number}
use Rattle.plan_record.proofs.Exits.{refused_some}
use Rattle.residue.specs.declared.Residue.{Residue}
use Rattle.residue.specs.declared.Residue.TheVariants.{Sum, Refused}
use Rattle.residue.specs.Residue.{counted_at, empty_band, some_to, row_residue, negative, residue_number, residue_said, residue_of, Answered, picture_residue, RowsAnswered}
use Rattle.residue.specs.Inner.{band_number, residue_as}

-- ---- one column more

pub sum_next : (n : ℕ) (f : ℕ → ℕ) {s v : ℕ} → s ≡ sum_to n f → v ≡ f n → s + v ≡ sum_to (n + 1) f
sum_next n f e q = rw (add-one n, e, q) refl

pub some_next : (n : ℕ) (p : ℕ → Bool) {s t : Bool} → t ≡ (p n || s) → s ≡ some_to n p → t ≡ some_to (n + 1) p
some_next n p e q = rw (add-one n) (e ∙ ap (λ s. p n || s) q)

pub none_at : (n : ℕ) (p : ℕ → Bool) → some_to n p ≡ false → (k : ℕ) → k < n → p k ≡ false
none_at zero p e k h = absurd (not-suc-le-zero h)
none_at (suc n) p e k h =
    let z = neither (p n) (some_to n p) e in
    ⊎_elim (λ q. ap p q ∙ z.0) (λ l. none_at n p z.1 k l) (eq-or-lt_of_le (le_of_suc-le-suc h))

-- ---- the answer, by its number

-- a rule behind others: it decides where they all hold
first_last : (l : List ℕ) (n : ℕ) → first_of (l ++ n ∷ []) ≡ first_of (first_of l ∷ n ∷ [])
first_last [] n = refl
first_last (zero ∷ l) n = first_last l n
first_last (suc m ∷ l) n = refl

said_of : (n s : ℕ) → residue_said (residue_of n s) ≡ n
said_of zero s = refl
said_of (suc n) s = refl

refused_of : (n s : ℕ) → (n ≡ 0 → ⊥) → Refused n ≡ residue_of n s
refused_of zero s h = absurd (h refl)
refused_of (suc n) s h = refl

module _ (a b c d row rows : ℕ) (closed input : List ℕ) where
  abbrev sixteen : ℕ
  sixteen = given 16 (negative a b c d row rows closed input)

  abbrev before : ℕ
  before = band_number a b c d row rows (length closed) (length input)

  abbrev number : ℕ
  number = residue_number a b c d row rows closed input

  abbrev sum : ℕ
  sum = row_residue a b c d row rows closed input

  -- 16 comes behind the others
  last_rule : number ≡ first_of (before ∷ sixteen ∷ [])
  unfolding residue_number band_number
  last_rule =
      first_last
      (extent_number (a ∷ b ∷ c ∷ d ∷ [])
      ∷ size_number (length closed) rows
      ∷ given 4 (leb rows row)
      ∷ given 7 (not (eqb (length input) (length closed)))
      ∷ given 21 (empty_band (a + b) (c + d) (length closed) rows)
      ∷ [])
      sixteen

  -- a row that is refused nothing is refused none of the others, and no counted pixel is negative
  pub passes : number ≡ 0 → (before ≡ 0) × (negative a b c d row rows closed input ≡ false)
  passes z =
      let (e, r) = first_zero before (sixteen ∷ []) (sym last_rule ∙ z) in
      (e, given_zero 15 _ (sym (first_one sixteen) ∙ r))

  pub answered : {r : Residue} → r ≡ residue_of number sum → Answered a b c d row rows closed input r
  answered e = record { exact = e; number = ap residue_said e ∙ said_of number sum }

  pub refusal : {n : ℕ} → n ≡ before → (n ≡ 0 → ⊥) → Answered a b c d row rows closed input (Refused n)
  refusal {n} e h =
      let f : number ≡ n = last_rule ∙ first_found before (sixteen ∷ []) (λ z. h (e ∙ z)) ∙ sym e in
      answered (refused_of n sum h ∙ ap (λ (k : ℕ). residue_of k sum) (sym f))

  -- the same of a refusal that is handed up
  pub refusal_up : (why : Refusal) (r : Result ℕ Refusal) → IsErrAnd r (λ e. e ≡ why) → refusal_number why ≡ before → Answered a b c d row rows closed input (residue_as r)
  refusal_up why (Ok _) h e = absurd h
  refusal_up why (Err _) h e = rw h (refusal e (refused_some why))

  -- a row that is refused none of 3, 4, 7 and 21 has 16 alone, and is answered by that and its sum
  pub only_negative : before ≡ 0 → number ≡ sixteen
  only_negative z = last_rule ∙ first_skip before (sixteen ∷ []) z ∙ first_one sixteen

  pub judged : {r : Residue} {flag : Bool} {s : ℕ} → before ≡ 0 → negative a b c d row rows closed input ≡ flag → sum ≡ s → r ≡ residue_of (given 16 flag) s → Answered a b c d row rows closed input r
  judged {r} {flag} {s} z e f q =
      let g : number ≡ given 16 flag = only_negative z ∙ ap (given 16) e in
      answered (q ∙ rw (g, f))

  -- two answers to the same rows are the same
  pub answered_once : {r s : Residue} → Answered a b c d row rows closed input r → Answered a b c d row rows closed input s → r ≡ s
  answered_once h k = h.exact ∙ sym k.exact

  abbrev sum_in : Residue → ℕ
  sum_in (Sum s) = s
  sum_in (Refused n) = 0

  abbrev is_sum : Residue → Bool
  is_sum (Sum s) = true
  is_sum (Refused n) = false

  -- a refusal has a number
  pub refused_number : {n : ℕ} → Answered a b c d row rows closed input (Refused n) → n ≡ 0 → ⊥
  refused_number h z = false≢true (ap is_sum (h.exact ∙ ap (λ (k : ℕ). residue_of k sum) (sym h.number ∙ z)))

  -- a row of bytes adds at most 255 for each pixel
  pub row_bound : ((x : ℕ) → get_or closed x 0 < 256) → sum ≤ length closed * 255
  unfolding row_residue
  row_bound h =
      sum_to_le (length closed) 255 (λ x. cond (counted_at a b c d (length closed) rows row x) (get_or closed x 0 - get_or input x 0) 0)
      (λ x _. split (counted_at a b c d (length closed) rows row x) (λ e. rw e (omega (arith, h x))) (λ e. rw e (omega arith)))

  -- a row's sum is its residue
  pub row_sum : {s : ℕ} → Answered a b c d row rows closed input (Sum s) → s ≡ sum
  row_sum h = ap sum_in (h.exact ∙ ap (λ (k : ℕ). residue_of k sum) (sym h.number))

  -- and a row that is refused nothing is answered with it
  pub sum_answer : {s : ℕ} → number ≡ 0 → s ≡ sum → Answered a b c d row rows closed input (Sum s)
  sum_answer e q = answered (ap Sum q ∙ ap (λ (k : ℕ). residue_of k sum) (sym e))

-- ---- a picture, by the answers of its rows

module _ (a b c d : ℕ) (closed input : Picture ℕ) where
  abbrev residue_at : ℕ → ℕ
  residue_at y = row_residue a b c d y (length closed) (get_or closed y []) (get_or input y [])

  abbrev number_at : ℕ → ℕ
  number_at y = residue_number a b c d y (length closed) (get_or closed y []) (get_or input y [])

  -- "The picture's residue is the sum over its rows.": of the sums that its rows are answered with
  pub picture_sum : (sums : List ℕ) → RowsAnswered a b c d closed input sums → sum_to (length sums) (λ y. get_or sums y 0) ≡ picture_residue a b c d closed input
  unfolding picture_residue
  picture_sum sums h = rw h.rows (sum_to_same (length closed) (λ y. get_or sums y 0) residue_at (λ y l. row_sum a b c d y (length closed) (get_or closed y []) (get_or input y []) (h.each y l)))

  -- there are such sums exactly where no row is refused
  pub rows_taken : (sums : List ℕ) → RowsAnswered a b c d closed input sums → (y : ℕ) → y < length closed → number_at y ≡ 0
  rows_taken sums h y l = sym (h.each y l).number

  pub taken_rows : 0 < length closed → length input ≡ length closed → ((y : ℕ) → y < length closed → number_at y ≡ 0) → RowsAnswered a b c d closed input (tabulate (length closed) residue_at)
  taken_rows n e h = record {
    some = n;
    same = e;
    rows = length_tabulate (length closed) residue_at;
    each = λ y l. sum_answer a b c d y (length closed) (get_or closed y []) (get_or input y []) (h y l) (get_d_tabulate (length closed) residue_at y 0 l);
  }
