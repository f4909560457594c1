-- What a start and a pair give, by the first rule that is broken; and that the promises leave no choice.
use mathlib.Core.Path.{◌≡◌, refl, sym, ap, ◌∙◌}
use mathlib.Core.Bool.{true, false, cond, not, ◌||◌}
use mathlib.Core.List.{List, [], ◌∷◌}
use Prim.Native.Nat.{ℕ, zero, suc, ◌+◌, ◌≤◌, ◌<◌}
use native.Mathlib.Omega.{arith}
use borrow.Author.Tests.{le-leb, lt-leb, leb-false, eqb-true, eq-eqb, ne_eqb, not-false}
use lib.Dec.{eqb, ltb, leb}
use lib.ListN.{length}
use Rattle.morph.specs.Numbers.{given, first_of}
use Rattle.morph.proofs.Lists.{split, neither}
use Rattle.morph.proofs.Numbers.{first_one, first_zero, given_zero}
use Rattle.residue.specs.declared.Residue.TheVariants.{Sum, Refused}
use Rattle.residue.specs.Residue.{closing_number, row_residue, negative, residue_number, Answered}
use Rattle.residue.specs.Inner.{band_number}
use Rattle.residue.proofs.Laws.{only_negative, row_sum, row_bound, refused_number}
use Rattle.worn.specs.declared.Question.{Question}
use Rattle.worn.specs.declared.Worn.TheVariants.{Yes, Refused as Not}
use Rattle.worn.specs.declared.Begun.{Begun}
use Rattle.worn.specs.declared.Asked.{Asked}
use Rattle.worn.specs.Worn.{first_question, over_limit, say_of, is_broken_of, question_with, worn_said, pair_number, question_after, begun_of, WornStart, asked_of, WornPair}
use Rattle.worn.specs.Runs.{Bytes}
use Rattle.worn.specs.Inner.{Awaits}
use Rattle.worn.proofs.Sound.{sound, room, row_taken}

-- ---- a start

begun_number : (n : ℕ) (Q : Question) → (begun_of n Q).number ≡ n
begun_number zero Q = refl
begun_number (suc n) Q = refl

begun_refused : (n : ℕ) (Q : Question) → (n ≡ 0 → ⊥) → begun_of n Q ≡ record { number = n; question = first_question 0 0 0 0 0 0 0 }
begun_refused zero Q h = absurd (h refl)
begun_refused (suc n) Q h = refl

module _ (a b c d width rows limit : ℕ) where
  abbrev start : ℕ
  start = closing_number a b c d width rows

  abbrev given_out : Question
  given_out = first_question a b c d width rows limit

  begins : {r : Begun} → r ≡ begun_of start given_out → WornStart a b c d width rows limit r
  begins e = record { exact = e; number = ap (λ r. r.number) e ∙ begun_number start given_out }

  pub start_refused : {r : Begun} {n : ℕ} → n ≡ start → (n ≡ 0 → ⊥) → r ≡ record { number = n; question = first_question 0 0 0 0 0 0 0 } → WornStart a b c d width rows limit r
  start_refused {r} {n} e h q = begins (q ∙ sym (begun_refused n given_out h) ∙ ap (λ (k : ℕ). begun_of k given_out) e)

  pub start_taken : {r : Begun} {n : ℕ} → n ≡ start → n ≡ 0 → r ≡ record { number = 0; question = given_out } → WornStart a b c d width rows limit r
  start_taken e z q = begins (q ∙ ap (λ (k : ℕ). begun_of k given_out) (sym z ∙ e))

  -- what a start hands out follows from what it is given alone
  pub start_unique : (r s : Begun) → WornStart a b c d width rows limit r → WornStart a b c d width rows limit s → r ≡ s
  start_unique r s h k = h.exact ∙ sym k.exact

-- ---- a pair

said_number : (Q : Question) → worn_said (say_of Q) ≡ 0
unfolding say_of
said_number Q = split (over_limit Q) (λ e. rw e) (λ e. split (ltb Q.row Q.rows) (λ f. rw (e, f)) (λ f. rw (e, f)))

asked_number_law : (n : ℕ) (Q next : Question) → worn_said (asked_of n Q next).answer ≡ n
asked_number_law zero Q next = said_number next
asked_number_law (suc n) Q next = refl

asked_refused : (n : ℕ) (Q next : Question) → (n ≡ 0 → ⊥) → asked_of n Q next ≡ record { answer = Not n; question = Q }
asked_refused zero Q next h = absurd (h refl)
asked_refused (suc n) Q next h = refl

module _ (Q : Question) (closed input : List ℕ) where
  abbrev number : ℕ
  number = pair_number Q closed input

  abbrev next : Question
  next = question_after Q closed input

  abbrev residue : ℕ
  residue = row_residue Q.left Q.right Q.up Q.down Q.row Q.rows closed input

  abbrev nine : ℕ
  nine = given 9 (leb Q.rows Q.row)

  abbrev seven : ℕ
  seven = given 7 (not (eqb (length closed) Q.width) || not (eqb (length input) Q.width))

  abbrev sixteen : ℕ
  sixteen = given 16 (negative Q.left Q.right Q.up Q.down Q.row Q.rows closed input)

  -- the number, by what is broken
  pub number_broken : is_broken_of Q ≡ true → number ≡ 12
  unfolding pair_number
  number_broken e = rw e

  pub number_yes : is_broken_of Q ≡ false → over_limit Q ≡ true → number ≡ 0
  unfolding pair_number
  number_yes e o = rw (e, o)

  pub number_next : is_broken_of Q ≡ false → over_limit Q ≡ false → number ≡ first_of (nine ∷ seven ∷ sixteen ∷ [])
  unfolding pair_number
  number_next e o = rw (e, o) (first_one (first_of (nine ∷ seven ∷ sixteen ∷ [])))

  -- and what holds where nothing is
  pub number_unbroken : number ≡ 0 → is_broken_of Q ≡ false
  unfolding pair_number
  number_unbroken z = given_zero 11 (is_broken_of Q) (first_zero (given 12 (is_broken_of Q)) (cond (over_limit Q) 0 (first_of (nine ∷ seven ∷ sixteen ∷ [])) ∷ []) z).0

  pub number_taken : number ≡ 0 → over_limit Q ≡ false → (Q.row < Q.rows) × (length closed ≡ Q.width)
  number_taken z o =
      let (n, r) = first_zero nine (seven ∷ sixteen ∷ []) (sym (number_next (number_unbroken z) o) ∙ z) in
      let (s, _) = first_zero seven (sixteen ∷ []) r in
      let (c, _) = neither (not (eqb (length closed) Q.width)) (not (eqb (length input) Q.width)) (given_zero 6 _ s) in
      (leb-false Q.rows Q.row (given_zero 8 _ n), eqb-true (length closed) Q.width (not-false _ c))

  -- the question after a pair that is taken
  pub after_yes_law : over_limit Q ≡ true → next ≡ Q
  unfolding question_after
  after_yes_law o = rw o

  pub after_row : over_limit Q ≡ false → next ≡ question_with Q residue
  unfolding question_after
  after_row o = rw o

  asks : {r : Asked} {n : ℕ} → number ≡ n → r ≡ asked_of n Q next → WornPair Q closed input r
  asks e q =
      let f = q ∙ ap (λ (k : ℕ). asked_of k Q next) (sym e) in
      record { exact = f; number = ap (λ r. worn_said r.answer) f ∙ asked_number_law number Q next }

  refuses : {r : Asked} {n : ℕ} → number ≡ n → (n ≡ 0 → ⊥) → r ≡ record { answer = Not n; question = Q } → WornPair Q closed input r
  refuses {r} {n} e h q = asks e (q ∙ sym (asked_refused n Q next h))

  -- ---- each way out

  pub pair_broken : {r : Asked} → is_broken_of Q ≡ true → r ≡ record { answer = Not 12; question = Q } → WornPair Q closed input r
  pair_broken e q = refuses (number_broken e) (λ z. omega (arith, z)) q

  pub pair_yes : {r : Asked} → is_broken_of Q ≡ false → over_limit Q ≡ true → r ≡ record { answer = say_of Q; question = Q } → WornPair Q closed input r
  pair_yes e o q = asks (number_yes e o) (q ∙ ap (λ (P : Question). asked_of 0 Q P) (sym (after_yes_law o)))

  pub pair_late : {r : Asked} → is_broken_of Q ≡ false → over_limit Q ≡ false → Q.rows ≤ Q.row → r ≡ record { answer = Not 9; question = Q } → WornPair Q closed input r
  pair_late e o l q = refuses (number_next e o ∙ rw (le-leb Q.rows Q.row l) refl) (λ z. omega (arith, z)) q

  module _ (w : Awaits Q) where
    number_row : number ≡ first_of (seven ∷ sixteen ∷ [])
    number_row = number_next w.unbroken w.unsaid ∙ rw (lt-leb Q.rows Q.row w.rest) refl

    pub pair_closed : {r : Asked} → (length closed ≡ Q.width → ⊥) → r ≡ record { answer = Not 7; question = Q } → WornPair Q closed input r
    pair_closed h q = refuses (number_row ∙ rw (ne_eqb (length closed) Q.width h) refl) (λ z. omega (arith, z)) q

    module _ (c : length closed ≡ Q.width) where
      pub pair_input : {r : Asked} → (length input ≡ Q.width → ⊥) → r ≡ record { answer = Not 7; question = Q } → WornPair Q closed input r
      pair_input h q = refuses (number_row ∙ rw (eq-eqb (length closed) Q.width c, ne_eqb (length input) Q.width h) refl) (λ z. omega (arith, z)) q

      module _ (i : length input ≡ Q.width) where
        -- the residue's own number, of which 16 is all that is left
        pub number_residue : number ≡ residue_number Q.left Q.right Q.up Q.down Q.row Q.rows closed input
        number_residue =
            let z : band_number Q.left Q.right Q.up Q.down Q.row Q.rows (length closed) (length input) ≡ 0 = rw (c, i) (row_taken Q (sound Q w.unbroken) w.rest) in
            number_row ∙ rw (eq-eqb (length closed) Q.width c, eq-eqb (length input) Q.width i) (first_one sixteen) ∙ sym (only_negative Q.left Q.right Q.up Q.down Q.row Q.rows closed input z)

        -- the row can be counted and its sum added
        pub room_there : {s : ℕ} → Bytes closed → Answered Q.left Q.right Q.up Q.down Q.row Q.rows closed input (Sum s) → (Q.row < 65535) × (Q.sum + s < 18446744073709551616)
        room_there b h =
            let e = row_sum Q.left Q.right Q.up Q.down Q.row Q.rows closed input h in
            let k = row_bound Q.left Q.right Q.up Q.down Q.row Q.rows closed input b in
            room Q (sound Q w.unbroken) w.rest (omega (arith, e, k, c))

        pub pair_read : {r : Asked} {s : ℕ} → Answered Q.left Q.right Q.up Q.down Q.row Q.rows closed input (Sum s) → r ≡ record { answer = say_of (question_with Q s); question = question_with Q s } → WornPair Q closed input r
        pair_read h q =
            let f = ap (question_with Q) (row_sum Q.left Q.right Q.up Q.down Q.row Q.rows closed input h) ∙ sym (after_row w.unsaid) in
            asks (number_residue ∙ sym h.number) (q ∙ ap (λ (P : Question). asked_of 0 Q P) f)

        pub pair_negative : {r : Asked} {n : ℕ} → Answered Q.left Q.right Q.up Q.down Q.row Q.rows closed input (Refused n) → r ≡ record { answer = Not n; question = Q } → WornPair Q closed input r
        pair_negative h q = refuses (number_residue ∙ sym h.number) (refused_number Q.left Q.right Q.up Q.down Q.row Q.rows closed input h) q

        -- what is refused is 16
        pub pair_sixteen : {r : Asked} {n : ℕ} → Answered Q.left Q.right Q.up Q.down Q.row Q.rows closed input (Refused n) → r ≡ record { answer = Not 16; question = Q } → WornPair Q closed input r
        pair_sixteen {r} {n} h q =
            let said : n ≡ sixteen = h.number ∙ sym number_residue ∙ number_row ∙ rw (eq-eqb (length closed) Q.width c, eq-eqb (length input) Q.width i) (first_one sixteen) in
            let e : n ≡ 16 =
            split (negative Q.left Q.right Q.up Q.down Q.row Q.rows closed input)
            (λ f. said ∙ rw f refl)
            (λ f. absurd (refused_number Q.left Q.right Q.up Q.down Q.row Q.rows closed input h (said ∙ rw f refl))) in
            pair_negative h (rw e q)

  -- ---- a pair that is refused, one that is taken, and one after a yes

  pub pair_kept : {r : Asked} → WornPair Q closed input r → (number ≡ 0 → ⊥) → r ≡ record { answer = Not number; question = Q }
  pair_kept h z = h.exact ∙ asked_refused number Q next z

  pub pair_taken : {r : Asked} → WornPair Q closed input r → number ≡ 0 → r ≡ record { answer = say_of next; question = next }
  pair_taken h z = h.exact ∙ ap (λ (n : ℕ). asked_of n Q next) z

  -- there is an answer
  pub pair_exact : WornPair Q closed input (asked_of number Q next)
  pair_exact = asks refl refl

  pub pair_there : number ≡ 0 → WornPair Q closed input (record { answer = say_of next; question = next })
  pair_there z = asks z refl

  pub pair_stays : {r : Asked} → is_broken_of Q ≡ false → over_limit Q ≡ true → WornPair Q closed input r → r ≡ record { answer = Yes; question = Q }
  unfolding say_of
  pair_stays e o h = pair_taken h (number_yes e o) ∙ rw (after_yes_law o, o)

  -- the answer and the question after it follow from what the call is given alone
  pub pair_unique : (r s : Asked) → WornPair Q closed input r → WornPair Q closed input s → r ≡ s
  pair_unique r s h k = h.exact ∙ sym k.exact
