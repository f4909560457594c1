-- What comes of a run. By which idea: a pair that is taken moves the question from one row to the next, or leaves it once the sum is over the limit.
use mathlib.Core.Path.{◌≡◌, refl, sym, ap, ◌∙◌, subst}
use mathlib.Core.Bool.{Bool, true, false, cond, false≢true}
use mathlib.Core.List.{List, [], ◌∷◌, ◌++◌}
use mathlib.Core.Logic.{⊎_elim}
use Prim.Native.Nat.{ℕ, zero, suc, ◌+◌, ◌-◌, ◌≤◌, ◌<◌}
use native.Mathlib.Nat.{eq-or-lt_of_le, le_of_suc-le-suc, not-suc-le-zero}
use native.Mathlib.Numerals.{add-one}
use native.Mathlib.Omega.{arith}
use borrow.Author.Tests.{ltb-true, ltb-false, lt-ltb, le-ltb, eqb-true, eqb-false}
use lib.Dec.{eqb, ltb}
use lib.ListN.{length, get_or}
use Rattle.morph.specs.Lists.{sum_to, tabulate}
use Rattle.morph.specs.Picture.{Picture}
use Rattle.morph.proofs.Lists.{split, get_d_tabulate, tabulate_snoc}
use Rattle.residue.specs.Residue.{row_residue, closing_number, picture_residue}
use Rattle.residue.proofs.Numbers.{within, closing_band}
use Rattle.residue.proofs.Laws.{row_bound, passes}
use Rattle.worn.specs.declared.Question.{Question}
use Rattle.worn.specs.declared.Worn.{Worn}
use Rattle.worn.specs.declared.Worn.TheVariants.{Yes, No, NotYet, Refused}
use Rattle.worn.specs.declared.Asked.{Asked}
use Rattle.worn.specs.Worn.{first_question, over_limit, say_of, is_broken_of, question_with, pair_number, question_after, begun_of, asked_of, WornPair}
use Rattle.worn.specs.Runs.{Bytes, residue_at, answer_for, looked_at, question_at, WornRun, begun, paired, pair_refused, WornRan, AllPass}
use Rattle.worn.specs.Inner.{Awaits}
use Rattle.worn.proofs.Sound.{Sound, sound, unbroken}
use Rattle.worn.proofs.Answers.{number_yes, number_taken, number_residue, after_yes_law, after_row, pair_kept, pair_taken, pair_stays, pair_there, start_taken}
use Rattle.worn.proofs.Sums.{sum_grows, looked_all, looked_same}

-- ---- answers are told apart

abbrev is_yes : Worn → Bool
is_yes Yes = true
is_yes No = false
is_yes NotYet = false
is_yes (Refused number) = false

abbrev is_no : Worn → Bool
is_no Yes = false
is_no No = true
is_no NotYet = false
is_no (Refused number) = false

-- ---- no pair of bytes breaks a question's rules

module _ (Q : Question) (closed input : List ℕ) where
  sound_row : is_broken_of Q ≡ false → pair_number Q closed input ≡ 0 → over_limit Q ≡ false → Bytes closed
      → Sound (question_with Q (row_residue Q.left Q.right Q.up Q.down Q.row Q.rows closed input))
  sound_row e z o b =
      let s = sound Q e in
      let (l, w) = number_taken Q closed input z o in
      let k = row_bound Q.left Q.right Q.up Q.down Q.row Q.rows closed input b in
      record { taken = s.taken; there = omega (arith, l); small = omega (arith, s.small, rw w at k) }

  taken_sound : is_broken_of Q ≡ false → pair_number Q closed input ≡ 0 → (over_limit Q ≡ false → Bytes closed) → is_broken_of (question_after Q closed input) ≡ false
  taken_sound e z b =
      split (over_limit Q)
      (λ o. ap is_broken_of (after_yes_law Q closed input o) ∙ e)
      (λ o. ap is_broken_of (after_row Q closed input o) ∙ unbroken _ (sound_row e z o (b o)))

  pub pair_sound : (r : Asked) → WornPair Q closed input r → (over_limit Q ≡ false → Bytes closed) → is_broken_of Q ≡ false → is_broken_of r.question ≡ false
  pair_sound r h b e =
      split (eqb (pair_number Q closed input) 0)
      (λ t. let z = eqb-true (pair_number Q closed input) 0 t in ap (λ (s : Asked). is_broken_of s.question) (pair_taken Q closed input h z) ∙ taken_sound e z b)
      (λ t. ap (λ (s : Asked). is_broken_of s.question) (pair_kept Q closed input h (eqb-false (pair_number Q closed input) 0 t)) ∙ e)

module _ (a b c d width rows limit : ℕ) (closed input : Picture ℕ) where
  abbrev residues : ℕ → ℕ
  residues = residue_at a b c d width rows limit closed input

  abbrev asking : ℕ → Question
  asking = question_at a b c d width rows limit closed input

  abbrev answers : ℕ → Worn
  answers = answer_for a b c d width rows limit closed input

  abbrev looked : ℕ → ℕ
  looked = looked_at a b c d width rows limit closed input

  abbrev Run : ℕ → Question → List Worn → Type 0
  Run = WornRun a b c d width rows limit closed input

  abbrev closed_row : ℕ → List ℕ
  closed_row t = get_or closed t []

  abbrev input_row : ℕ → List ℕ
  input_row t = get_or input t []

  -- ---- one pair more

  module _ (t : ℕ) where
    abbrev Q : Question
    Q = asking t

    over_at : over_limit Q ≡ ltb limit (sum_to t residues)
    over_at = looked_same a b c d width rows limit closed input t

    -- after a yes
    module _ (o : limit < sum_to t residues) where
      over_said : over_limit Q ≡ true
      over_said = over_at ∙ lt-ltb limit (sum_to t residues) o

      over_after : (x y : List ℕ) → question_after Q x y ≡ asking (suc t)
      over_after x y = after_yes_law Q x y over_said ∙ rw (lt-ltb limit (sum_to t residues) o)

      over_says : say_of (asking (suc t)) ≡ answers t
      unfolding say_of
      over_says =
          let m : limit < sum_to t residues + residues t = omega (arith, o) in
          rw (lt-ltb limit (sum_to t residues) o, over_said, lt-ltb limit (sum_to t residues + residues t) m)

    -- before it
    module _ (u : sum_to t residues ≤ limit) where
      all_looked : looked t ≡ t
      all_looked = looked_all a b c d width rows limit closed input t u

      under_said : over_limit Q ≡ false
      under_said = over_at ∙ le-ltb limit (sum_to t residues) u

      under_after : question_after Q (closed_row t) (input_row t) ≡ asking (suc t)
      under_after = after_row Q (closed_row t) (input_row t) under_said ∙ rw (all_looked, le-ltb limit (sum_to t residues) u, add-one t)

      under_says : say_of (asking (suc t)) ≡ answers t
      unfolding say_of
      under_says = rw (le-ltb limit (sum_to t residues) u)

      under_rows : pair_number Q (closed_row t) (input_row t) ≡ 0 → t < rows
      under_rows z = rw all_looked at (number_taken Q (closed_row t) (input_row t) z under_said).0

    next_says : say_of (asking (suc t)) ≡ answers t
    next_says = split (ltb limit (sum_to t residues)) (λ e. over_says (ltb-true limit (sum_to t residues) e)) (λ e. under_says (ltb-false limit (sum_to t residues) e))

    next_question : (x y : List ℕ) → (over_limit Q ≡ false → (x ≡ closed_row t) × (y ≡ input_row t)) → question_after Q x y ≡ asking (suc t)
    next_question x y h =
        split (ltb limit (sum_to t residues))
        (λ e. over_after (ltb-true limit (sum_to t residues) e) x y)
        (λ e. let u = ltb-false limit (sum_to t residues) e in let (p, q) = h (under_said u) in rw (p, q) (under_after u))

    next_asked : (x y : List ℕ) {r : Asked} → (over_limit Q ≡ false → (x ≡ closed_row t) × (y ≡ input_row t)) → WornPair Q x y r → pair_number Q x y ≡ 0
        → r ≡ record { answer = answers t; question = asking (suc t) }
    next_asked x y h p z = pair_taken Q x y p z ∙ rw (next_question x y h, next_says)

    next_there : (x y : List ℕ) → (over_limit Q ≡ false → (x ≡ closed_row t) × (y ≡ input_row t)) → pair_number Q x y ≡ 0 → sum_to t residues ≤ limit → t < rows
    next_there x y h z u = let (p, q) = h (under_said u) in under_rows u (rw (p, q) at z)

  -- ---- all pairs

  -- the question and the answers so far, that the start was taken, and that each pair that was looked at is one of the picture's
  record Going (t : ℕ) (Q : Question) (said : List Worn) : Type 0 where
    question : Q ≡ asking t
    says : said ≡ tabulate t answers
    taken : closing_number a b c d width rows ≡ 0
    there : (k : ℕ) → k < t → sum_to k residues ≤ limit → k < rows

  going_on : {t : ℕ} {said : List Worn} (x y : List ℕ) {r : Asked} → Going t (asking t) said → (over_limit (asking t) ≡ false → (x ≡ closed_row t) × (y ≡ input_row t))
      → pair_number (asking t) x y ≡ 0 → WornPair (asking t) x y r → Going (suc t) r.question (said ++ (r.answer ∷ []))
  going_on {t} {said} x y {r} g m z h =
      let e = next_asked t x y m h z in
      record {
        question = ap (λ (s : Asked). s.question) e;
        says = rw (g.says, ap (λ (s : Asked). s.answer) e) (sym (tabulate_snoc t answers));
        taken = g.taken;
        there = λ k l u. ⊎_elim (λ q. rw q (next_there t x y m z (rw q at u))) (λ n. g.there k n u) (eq-or-lt_of_le (le_of_suc-le-suc l));
      }

  going : {t : ℕ} {Q : Question} {said : List Worn} → Run t Q said → Going t Q said
  going (begun r h z) =
      let n = sym h.number ∙ z in
      record {
        question = ap (λ s. s.question) h.exact ∙ ap (λ (k : ℕ). (begun_of k (first_question a b c d width rows limit)).question) n;
        says = refl;
        taken = n;
        there = λ k l _. absurd (not-suc-le-zero l);
      }
  going (paired {t} {Q} {said} x y r run m z h) =
      let g = going run in
      let q = g.question in
      going_on x y (subst (λ (P : Question). Going t P said) q g) (subst (λ (P : Question). over_limit P ≡ false → (x ≡ closed_row t) × (y ≡ input_row t)) q m)
      (subst (λ (P : Question). pair_number P x y ≡ 0) q z) (subst (λ (P : Question). WornPair P x y r) q h)
  going (pair_refused {t} {Q} {said} x y r run z h) =
      let g = going run in
      let e = ap (λ (s : Asked). s.question) (pair_kept Q x y h z) in
      subst (λ (P : Question). Going t P said) (sym e) g

  -- ---- what document 02 says of a run

  module _ {t : ℕ} {Q : Question} {said : List Worn} (run : Run t Q said) where
    answer_at : (k : ℕ) → k < t → get_or said k NotYet ≡ answers k
    answer_at k l = ap (λ (s : List Worn). get_or s k NotYet) (going run).says ∙ get_d_tabulate t answers k NotYet l

    yes_over : (k : ℕ) → k < t → limit < sum_to (suc k) residues → get_or said k NotYet ≡ Yes
    yes_over k l o = answer_at k l ∙ rw (lt-ltb limit (sum_to k residues + residues k) o)

    not_yes : (k : ℕ) → ltb limit (sum_to (suc k) residues) ≡ false → answers k ≡ cond (ltb (suc k) rows) NotYet No
    not_yes k e = rw e

    over_yes : (k : ℕ) → k < t → get_or said k NotYet ≡ Yes → limit < sum_to (suc k) residues
    over_yes k l y =
        split (ltb limit (sum_to (suc k) residues))
        (λ e. ltb-true limit (sum_to (suc k) residues) e)
        (λ e.
        let f = sym (not_yes k e) ∙ sym (answer_at k l) ∙ y in
        split (ltb (suc k) rows) (λ g. absurd (false≢true (ap is_yes (rw g at f)))) (λ g. absurd (false≢true (ap is_yes (rw g at f)))))

    no_last : (k : ℕ) → k < t → get_or said k NotYet ≡ No → (suc k ≡ rows) × (sum_to rows residues ≤ limit)
    no_last k l n =
        split (ltb limit (sum_to (suc k) residues))
        (λ e. absurd (false≢true (ap is_no (sym (yes_over k l (ltb-true limit (sum_to (suc k) residues) e)) ∙ n))))
        (λ e.
        let u : sum_to (suc k) residues ≤ limit = ltb-false limit (sum_to (suc k) residues) e in
        let f = sym (not_yes k e) ∙ sym (answer_at k l) ∙ n in
        split (ltb (suc k) rows)
        (λ g. absurd (false≢true (ap is_no (rw g at f))))
        (λ g.
        let h = (going run).there k l (omega (arith, u)) in
        let q : suc k ≡ rows = omega (arith, ltb-false (suc k) rows g, h) in
        (q, subst (λ (n : ℕ). sum_to n residues ≤ limit) q u)))

    last_right : t ≡ rows → length closed ≡ rows → get_or said (rows - 1) NotYet ≡ cond (ltb limit (picture_residue a b c d closed input)) Yes No
    unfolding picture_residue
    last_right e n =
        let w = within a b c d 0 rows width width (sym (closing_band a b c d 0 rows width (λ h. h)) ∙ (going run).taken) in
        let p : suc (rows - 1) ≡ rows = omega (arith, w.rows_fit.0) in
        answer_at (rows - 1) (omega (arith, e, w.rows_fit.0)) ∙ ap (λ (m : ℕ). cond (ltb limit (sum_to m residues)) Yes (cond (ltb m rows) NotYet No)) p
        ∙ rw (le-ltb rows rows (omega arith), n) refl

    pub run_ran : WornRan a b c d width rows limit closed input t Q said
    run_ran = record {
      question = (going run).question;
      says = (going run).says;
      yes = yes_over;
      only = over_yes;
      same = λ k m l h y. yes_over m h (omega (arith, sum_grows residues (suc k) (suc m) (omega (arith, l)), over_yes k (omega (arith, l, h)) y));
      no = no_last;
      right = last_right;
    }

  -- ---- on rows of bytes no pair of a run is refused 12, and one after a yes not at all

  module _ (bytes : (y : ℕ) → Bytes (closed_row y)) where
    pub run_sound : {t : ℕ} {Q : Question} {said : List Worn} → Run t Q said → is_broken_of Q ≡ false
    run_sound (begun r h z) =
        let g = going (begun r h z) in
        ap is_broken_of g.question ∙ unbroken (asking 0) (record { taken = g.taken; there = omega arith; small = omega arith })
    run_sound (paired {t} {Q} {said} x y r run m z h) = pair_sound Q x y r h (λ o. subst Bytes (sym (m o).0) (bytes t)) (run_sound run)
    run_sound (pair_refused {t} {Q} {said} x y r run z h) = ap (λ (s : Asked). is_broken_of s.question) (pair_kept Q x y h z) ∙ run_sound run

    module _ {t : ℕ} {Q : Question} {said : List Worn} (run : Run t Q said) where
      -- "After a yes later rows are not looked at and each gets the same yes": whatever rows they are
      pub run_stays : limit < sum_to t residues → (x y : List ℕ) → (pair_number Q x y ≡ 0) × ((r : Asked) → WornPair Q x y r → r ≡ record { answer = Yes; question = Q })
      run_stays o x y =
          let e = run_sound run in
          let u : over_limit Q ≡ true = ap over_limit (going run).question ∙ over_said t o in
          (number_yes Q x y e u, λ r h. pair_stays Q x y e u h)

  -- ---- every picture whose rows all pass has its run

  module _ (p : AllPass a b c d width rows limit closed input) where
    row_even : (t : ℕ) → t < rows → length (input_row t) ≡ width
    row_even t l =
        let (z, _) = passes a b c d t rows (closed_row t) (input_row t) (p.pass t l) in
        (within a b c d t rows (length (closed_row t)) (length (input_row t)) z).even ∙ p.wide t l

    pass_under : {t : ℕ} → is_broken_of (asking t) ≡ false → t < rows → sum_to t residues ≤ limit → pair_number (asking t) (closed_row t) (input_row t) ≡ 0
    pass_under {t} e l u =
        let k = all_looked t u in
        let w : Awaits (asking t) = record { unbroken = e; unsaid = under_said t u; rest = rw k l } in
        number_residue (asking t) (closed_row t) (input_row t) w (p.wide t l) (row_even t l) ∙ rw k (p.pass t l)

    pub run_takes : {t : ℕ} {Q : Question} {said : List Worn} → Run t Q said → t < rows → pair_number Q (closed_row t) (input_row t) ≡ 0
    run_takes {t} {Q} {said} run l =
        let q = (going run).question in
        let e : is_broken_of (asking t) ≡ false = ap is_broken_of (sym q) ∙ run_sound p.bytes run in
        ap (λ (P : Question). pair_number P (closed_row t) (input_row t)) q
        ∙ split (ltb limit (sum_to t residues))
        (λ o. number_yes (asking t) (closed_row t) (input_row t) e (over_said t (ltb-true limit (sum_to t residues) o)))
        (λ o. pass_under e l (ltb-false limit (sum_to t residues) o))

    start_passes : closing_number a b c d width rows ≡ 0
    start_passes =
        let (z, _) = passes a b c d 0 rows (closed_row 0) (input_row 0) (p.pass 0 p.some) in
        closing_band a b c d 0 rows width (λ h. h) ∙ rw (p.wide 0 p.some, row_even 0 p.some) at z

    pub run_there : (t : ℕ) → t ≤ rows → (Q : Question) × (said : List Worn) × Run t Q said
    run_there zero l = (first_question a b c d width rows limit, [], begun (record { number = 0; question = first_question a b c d width rows limit }) (start_taken a b c d width rows limit refl start_passes refl) refl)
    run_there (suc t) l =
        let (Q, said, run) = run_there t (omega (arith, l)) in
        let z = run_takes run l in
        let r = asked_of 0 Q (question_after Q (closed_row t) (input_row t)) in
        (r.question, said ++ (r.answer ∷ []), paired (closed_row t) (input_row t) r run (λ _. (refl, refl)) z (pair_there Q (closed_row t) (input_row t) z))
