-- The rest of an answer, once some rows are read and some steps taken. By which idea: a step takes one row off the bytes to come and puts one frame off the rows that are due,
-- so that what was to be written is what the step writes, and then the rest after it.
use mathlib.Core.Path.{◌≡◌, sym, ap, ◌∙◌}
use mathlib.Core.List.{List, [], ◌∷◌, ◌++◌, map, flatten, append_assoc, append-nil}
use Prim.Native.Nat.{ℕ, zero, suc, ◌+◌, ◌-◌, ◌*◌, ◌≤◌, ◌<◌, min}
use native.Mathlib.Omega.{arith}
use borrow.Author.Tests.{eq-eqb, ne_eqb, eqb-true, eqb-false, leb-true, leb-false, ltb-true, ltb-false}
use lib.Dec.{eqb, ltb, leb}
use lib.ListN.{length, get_or, take, drop, length-append, length-take, drop_of_length-le}
use lib.Seq.{drop-cons, get_or-take, take-append_seam}
use Rattle.morph.specs.Picture.{Picture, Stage as Filter, apply_plan}
use Rattle.morph.proofs.Lists.{split}
use Rattle.morph.proofs.Picture.{plan_length, plan_row}
use Rattle.plan_record.specs.declared.Plan.{Plan}
use Rattle.morph.specs.Numbers.{given}
use Rattle.plan_record.specs.Plan.{stages_of, plan_ahead}
use Rattle.morph.proofs.Numbers.{first_skip, first_found, first_one}
use Rattle.plan_record.proofs.Named.{look_ahead_plan}
use Rattle.answer.specs.Inner.{all_rows, rest_answer, put_at}
use Rattle.answer.specs.Answer.{Coding, row_group_number, rows_in, end_number, due_of, rows_due, framed, rows_answer, ending}

none_left : {A : Type 0} (n : ℕ) (l : List A) → drop n (take n l) ≡ []
none_left n l = let e = length-take n l in drop_of_length-le (take n l) {i = n} (omega arith)

module _ {A : Type 0} (C : Coding A) (plan : Plan) (width rows : ℕ) where
  abbrev D : ℕ
  D = plan_ahead plan

  abbrev Ss : List (Filter A)
  Ss = stages_of C.samples.order plan

  -- before the first step
  pub rest_first : (bytes : List ℕ) → rest_answer C plan width rows 0 [] bytes ≡ rows_answer C plan width rows bytes
  unfolding rows_answer
  rest_first bytes = let z : 0 - D ≡ 0 = omega arith in let n : rows - 0 ≡ rows = omega arith in rw (z, n)

  pub rows_few : (n : ℕ) (bytes : List ℕ) → length (rows_in C width n bytes) ≤ n
  unfolding rows_in
  rows_few zero bytes = omega arith
  rows_few (suc n) bytes =
      let i = rows_few n (drop (width * C.size) bytes) in
      split (eqb (row_group_number C width bytes) 0) (λ e. rw e (omega arith)) (λ e. rw e (omega arith))

  -- ---- a row that is refused

  module _ (n : ℕ) (bytes : List ℕ) (number : ℕ) (judged : row_group_number C width bytes ≡ number) where
    refused_rows : (number ≡ 0 → ⊥) → rows_in C width (suc n) bytes ≡ []
    unfolding rows_in
    refused_rows h = rw (judged, ne_eqb number 0 h)

    refused_end : (number ≡ 0 → ⊥) → end_number C width (suc n) bytes ≡ number
    unfolding end_number
    refused_end h = rw judged (first_found number (end_number C width n (drop (width * C.size) bytes) ∷ []) h)

  pub rest_refused : (t : ℕ) (p : Picture A) (bytes : List ℕ) (number : ℕ) → length p ≡ t → t < rows → row_group_number C width bytes ≡ number → (number ≡ 0 → ⊥)
      → rest_answer C plan width rows t p bytes ≡ ending number
  unfolding flatten
  rest_refused t p bytes number e l j h =
      let n : rows - t ≡ suc (rows - t - 1) = omega arith in
      let r : all_rows C plan width rows t p bytes ≡ p = ap (λ m. p ++ rows_in C width m bytes) n ∙ ap (λ q. p ++ q) (refused_rows (rows - t - 1) bytes number j h) ∙ append-nil p in
      let d : due_of plan rows (length p) ≡ t - D = rw (ne_eqb (length p) rows (λ z. omega arith)) (omega arith) in
      let k : end_number C width (rows - t) bytes ≡ number = ap (λ m. end_number C width m bytes) n ∙ refused_end (rows - t - 1) bytes number j h in
      let o : drop (t - D) (rows_due C plan rows p) ≡ [] =
      ap (λ (m : ℕ). drop (t - D) (take m (apply_plan Ss p))) d ∙ none_left (t - D) (apply_plan Ss p) in
      ap (λ q. flatten (map (framed C) (drop (t - D) (rows_due C plan rows q))) ++ ending (end_number C width (rows - t) bytes)) r
      ∙ ap (λ q. flatten (map (framed C) q) ++ ending (end_number C width (rows - t) bytes)) o ∙ ap ending k

  -- ---- a row that is read, and a step without a row: the rows of the whole run stay

  module _ (n : ℕ) (bytes : List ℕ) (judged : row_group_number C width bytes ≡ 0) where
    abbrev next : List ℕ
    next = drop (width * C.size) bytes

    read_rows : rows_in C width (suc n) bytes ≡ map C.samples.taken (C.read width bytes) ∷ rows_in C width n next
    unfolding rows_in
    read_rows = rw (eq-eqb (row_group_number C width bytes) 0 judged)

    read_end : end_number C width (suc n) bytes ≡ end_number C width n next
    unfolding end_number
    read_end = first_skip (row_group_number C width bytes) (end_number C width n next ∷ []) judged ∙ first_one (end_number C width n next)

  -- the rows and the end are those that are to come after the step
  pub record Carries (t : ℕ) (p : Picture A) (bytes : List ℕ) (p' : Picture A) (bytes' : List ℕ) : Type 0 where
    pub same_rows : all_rows C plan width rows t p bytes ≡ all_rows C plan width rows (t + 1) p' bytes'
    pub same_end : end_number C width (rows - t) bytes ≡ end_number C width (rows - (t + 1)) bytes'

  pub carries_row : (t : ℕ) (p : Picture A) (bytes : List ℕ) → t < rows → row_group_number C width bytes ≡ 0
      → Carries t p bytes (p ++ (map C.samples.taken (C.read width bytes) ∷ [])) (drop (width * C.size) bytes)
  carries_row t p bytes l j =
      let n : rows - t ≡ suc (rows - (t + 1)) = omega arith in
      let row = map C.samples.taken (C.read width bytes) in
      let q = rows_in C width (rows - (t + 1)) (drop (width * C.size) bytes) in
      record {
        same_rows = ap (λ m. p ++ rows_in C width m bytes) n ∙ ap (λ r. p ++ r) (read_rows (rows - (t + 1)) bytes j) ∙ sym (append_assoc p (row ∷ []) q);
        same_end = ap (λ m. end_number C width m bytes) n ∙ read_end (rows - (t + 1)) bytes j;
      }

  pub carries_drain : (t : ℕ) (p : Picture A) (bytes : List ℕ) → rows ≤ t → Carries t p bytes p bytes
  carries_drain t p bytes l =
      let n : rows - t ≡ rows - (t + 1) = omega arith in
      record { same_rows = ap (λ m. p ++ rows_in C width m bytes) n; same_end = ap (λ m. end_number C width m bytes) n }

  -- ---- a step: what was to be written is what it writes, and then the rest

  module _ (t : ℕ) (p : Picture A) (bytes : List ℕ) (within : t < rows + D) (long : length p ≡ min (t + 1) rows) where
    abbrev P : Picture A
    P = all_rows C plan width rows (t + 1) p bytes

    abbrev due : ℕ
    due = due_of plan rows (length P)

    long_all : (length P ≤ rows) × (length p ≤ length P)
    long_all =
        let r = rows_few (rows - (t + 1)) bytes in
        let e = length-append p (rows_in C width (rows - (t + 1)) bytes) in
        (omega arith, omega arith)

    -- the row is among those due
    is_due : D ≤ t → (t - D < due) × (due ≤ length P)
    is_due d =
        let (a, b) = long_all in
        split (eqb (length P) rows)
        (λ e. let z = eqb-true (length P) rows e in rw e (omega arith, omega arith))
        (λ e. let z = eqb-false (length P) rows e in rw e (omega arith, omega arith))

    -- and no row after those that are read takes part in it
    no_more : rows ≤ t → P ≡ p
    unfolding rows_in
    no_more l = let n : rows - (t + 1) ≡ 0 = omega arith in rw n (append-nil p)

    same_row : D ≤ t → get_or (apply_plan Ss P) (t - D) [] ≡ get_or (apply_plan Ss p) (t - D) []
    same_row d =
        let a = look_ahead_plan C.samples.order plan in
        split (ltb t rows)
        (λ e.
        let l = ltb-true t rows e in
        plan_row Ss (t - D) (length p) P (omega arith)
        ∙ ap (λ q. get_or (apply_plan Ss q) (t - D) []) (take-append_seam p (rows_in C width (rows - (t + 1)) bytes)))
        (λ e. ap (λ q. get_or (apply_plan Ss q) (t - D) []) (no_more (ltb-false t rows e)))

    row_off : D ≤ t → drop (t - D) (rows_due C plan rows P) ≡ get_or (apply_plan Ss p) (t - D) [] ∷ drop (t + 1 - D) (rows_due C plan rows P)
    row_off d =
        let (a, b) = is_due d in
        let l : t - D < length (take due (apply_plan Ss P)) = omega (arith, length-take due (apply_plan Ss P), plan_length Ss P) in
        let n : suc (t - D) ≡ t + 1 - D = omega arith in
        drop-cons (take due (apply_plan Ss P)) (t - D) [] l
        ∙ ap (λ r. r ∷ drop (suc (t - D)) (rows_due C plan rows P)) (get_or-take due (apply_plan Ss P) (t - D) [] a ∙ same_row d)
        ∙ ap (λ (m : ℕ). get_or (apply_plan Ss p) (t - D) [] ∷ drop m (rows_due C plan rows P)) n

    step_rows : flatten (map (framed C) (drop (t - D) (rows_due C plan rows P)))
        ≡ put_at C plan width rows t p ++ flatten (map (framed C) (drop (t + 1 - D) (rows_due C plan rows P)))
    unfolding flatten
    step_rows =
        split (leb D t)
        (λ e. ap (λ l. flatten (map (framed C) l)) (row_off (leb-true D t e)) ∙ rw e)
        (λ e.
        let l = leb-false D t e in
        let n : t - D ≡ t + 1 - D = omega arith in
        ap (λ (m : ℕ). flatten (map (framed C) (drop m (rows_due C plan rows P)))) n ∙ rw e)

  pub rest_step : (t : ℕ) (p : Picture A) (bytes : List ℕ) (p' : Picture A) (bytes' : List ℕ) → Carries t p bytes p' bytes' → t < rows + D → length p' ≡ min (t + 1) rows
      → rest_answer C plan width rows t p bytes ≡ put_at C plan width rows t p' ++ rest_answer C plan width rows (t + 1) p' bytes'
  rest_step t p bytes p' bytes' c w l =
      let F : Picture A → List ℕ = λ q. flatten (map (framed C) (drop (t - D) (rows_due C plan rows q))) in
      let G = flatten (map (framed C) (drop (t + 1 - D) (rows_due C plan rows (all_rows C plan width rows (t + 1) p' bytes')))) in
      ap (λ q. F q ++ ending (end_number C width (rows - t) bytes)) c.same_rows
      ∙ ap (λ (n : ℕ). F (all_rows C plan width rows (t + 1) p' bytes') ++ ending n) c.same_end
      ∙ ap (λ r. r ++ ending (end_number C width (rows - (t + 1)) bytes')) (step_rows t p' bytes' w l)
      ∙ append_assoc (put_at C plan width rows t p') G (ending (end_number C width (rows - (t + 1)) bytes'))

  -- ---- after the last step

  pub rest_tail : (t : ℕ) (p : Picture A) (bytes : List ℕ) → t ≡ rows + D → length p ≡ rows → rest_answer C plan width rows t p bytes ≡ ending (given 14 (ltb 0 (length bytes)))
  unfolding flatten rows_in end_number
  rest_tail t p bytes e l =
      let n : rows - t ≡ 0 = omega arith in
      let m : t - D ≡ rows = omega arith in
      let d : due_of plan rows (length p) ≡ rows = rw (eq-eqb (length p) rows l) in
      let o : drop (t - D) (rows_due C plan rows p) ≡ [] =
      ap (λ (k : ℕ). drop k (rows_due C plan rows p)) m ∙ ap (λ (k : ℕ). drop rows (take k (apply_plan Ss p))) d ∙ none_left rows (apply_plan Ss p) in
      rw (n, append-nil p, o)
