-- The laws of a line's queue, over any order.
use mathlib.Core.Path.{◌≡◌, refl, sym, ap, ◌∙◌, subst}
use mathlib.Core.Bool.{cond, Bool, true, false, not, ◌||◌, and-true, or-true}
use mathlib.Core.Logic.{inl, inr, ⊎_elim}
use mathlib.Core.Option.{none, some}
use mathlib.Core.List.{List, [], ◌∷◌, ◌++◌, nil≢cons}
use Prim.Native.Nat.{ℕ, zero, suc, ◌+◌, ◌-◌, ◌*◌, ◌≤◌, ◌<◌, min}
use native.Mathlib.Nat.{not-suc-le-zero, le_of_lt, zero-sub, add-zero, add-suc, suc-add}
use native.Mathlib.Numerals.{add-one}
use native.Mathlib.Omega.{arith}
use borrow.Author.Tests.{ltb-true, ltb-false, lt-ltb, le-ltb, leb-true, le-leb, not-true}
use lib.Dec.{leb, ltb}
use lib.ListN.{length, take, drop, get_or, length-append, length-take, length-drop}
use lib.Seq.{slice, drop-nil, drop-drop, take-suc, drop-append-le, take_all, get_or-drop, get_or-take}
use Rattle.morph.specs.Lists.{all, Each, In}
use Rattle.morph.specs.Order.{Order}
use Rattle.morph.specs.Line.{Entry, positioned, windowed, aged, output_at, Queued, Rising, greater, best, best_at, filter_line, over, standing, queue, front, falling, passed, unpassed, comparisons, line_cost, line_costs}
use Rattle.morph.proofs.Lists.{split, both, length_tabulate, get_d_tabulate, all_append, positioned_append, length_positioned, each_positioned, values, values_positioned, each_slice, each_tabulate}

-- ---- at which step an output comes

module _ {A : Type 0} (n : ℕ) (output : ℕ → A) (ahead : ℕ) where
  -- output x comes at step x + ahead
  pub output_comes : (x : ℕ) → x < n → output_at n output ahead (x + ahead) ≡ some (output x)
  unfolding output_at
  output_comes x h = let e : x + ahead - ahead ≡ x = omega arith in rw (le-leb ahead (x + ahead) (omega arith), e, lt-ltb x n h)

  -- and at no other
  pub output_only : (t : ℕ) (a : A) → output_at n output ahead t ≡ some a → (x : ℕ) × (x < n) × (t ≡ x + ahead) × (a ≡ output x)
  unfolding output_at
  output_only t a h =
      split (leb ahead t)
      (λ p. split (ltb (t - ahead) n)
      (λ q. (t - ahead, ltb-true (t - ahead) n q, omega (arith, leb-true ahead t p), same (rw (p, q) at h)))
      (λ q. absurd (never (rw (p, q) at h))))
      (λ p. absurd (never (rw p at h)))
    where
      same : {b : A} → some b ≡ some a → a ≡ b
      same e = cc

      never : none ≡ some a → ⊥
      never e = let z : ◌≡◌ {A = ℕ} 0 1 = cc in omega arith

module _ {A : Type 0} (O : Order A) where
  -- ---- the entries that stand

  -- a new entry goes behind those that it does not pass
  standing_push : (l : List (Entry A)) (e : Entry A) → standing O (l ++ (e ∷ [])) ≡ unpassed O e.value (standing O l) ++ (e ∷ [])
  standing_push [] e = refl
  standing_push (r ∷ l) e =
      let i = standing_push l e in
      let k = all_append (over O r) l (e ∷ []) in
      split (all (over O r) l) (λ p. split (O.le r.value e.value) (λ q. cc) (λ q. cc)) (λ p. cc)

  -- none stands before the first position
  standing_old : (m k : ℕ) (l : List A) → m ≤ k → aged m (standing O (positioned k l)) ≡ standing O (positioned k l)
  standing_old m k [] h = refl
  standing_old m k (a ∷ l) h =
      let i = standing_old m (suc k) l (omega arith) in
      let t = le-ltb k m h in
      split (all (over O (record { value = a; position = k })) (positioned (suc k) l)) (λ p. cc) (λ p. cc)

  standing_age : (k : ℕ) (l : List A) → aged (suc k) (standing O (positioned k l)) ≡ standing O (positioned (suc k) (drop 1 l))
  standing_age k [] = refl
  standing_age k (a ∷ l) =
      let i = standing_old (suc k) (suc k) l (omega arith) in
      let t = lt-ltb k (suc k) (omega arith) in
      split (all (over O (record { value = a; position = k })) (positioned (suc k) l)) (λ p. cc) (λ p. cc)

  standing_all : (p : Entry A → Bool) (l : List (Entry A)) → all p l ≡ true → all p (standing O l) ≡ true
  standing_all p [] h = refl
  standing_all p (e ∷ l) h =
      let b = both (p e) (all p l) h in
      let i = standing_all p l b.1 in
      split (all (over O e) l) (λ q. cc) (λ q. cc)

  standing_falls : (l : List (Entry A)) → falling O (standing O l) ≡ true
  standing_falls [] = refl
  standing_falls (e ∷ l) = let i = standing_falls l in split (all (over O e) l) (λ p. cc (standing_all (over O e) l p)) (λ p. cc)

  standing_length : (l : List (Entry A)) → length (standing O l) ≤ length l
  standing_length [] = omega arith
  standing_length (e ∷ l) = let i = standing_length l in split (all (over O e) l) (λ p. rw p (omega arith)) (λ p. rw p (omega arith))

  standing_some : (l : List (Entry A)) → 0 < length l → 0 < length (standing O l)
  standing_some [] h = h
  standing_some (e ∷ []) h = omega arith
  standing_some (e ∷ r ∷ l) h = let i = standing_some (r ∷ l) (omega arith) in split (all (over O e) (r ∷ l)) (λ p. rw p (omega arith)) (λ p. rw p i)

  standing_each : (P : Entry A → Type 0) (l : List (Entry A)) → Each P l → Each P (standing O l)
  standing_each P [] h = tt
  standing_each P (e ∷ l) h = let i = standing_each P l h.1 in split (all (over O e) l) (λ p. rw p (h.0, i)) (λ p. rw p i)

  -- ---- which entries stand, by their places in the list

  over_all : (e : Entry A) (k : ℕ) (l : List A) → all (over O e) (positioned k l) ≡ true → (j : ℕ) → j < length l → O.le e.value (get_or l j O.blank) ≡ false
  over_all e k [] h j m = absurd (not-suc-le-zero m)
  over_all e k (a ∷ l) h zero m = not-true _ (both _ (all (over O e) (positioned (suc k) l)) h).0
  over_all e k (a ∷ l) h (suc j) m = over_all e (suc k) l (both (over O e (record { value = a; position = k })) _ h).1 j (omega arith)

  all_over : (e : Entry A) (k : ℕ) (l : List A) → ((j : ℕ) → j < length l → O.le e.value (get_or l j O.blank) ≡ false) → all (over O e) (positioned k l) ≡ true
  all_over e k [] h = refl
  all_over e k (a ∷ l) h = rw (h zero (omega arith)) (all_over e (suc k) l (λ j m. h (suc j) (omega arith)))

  -- what makes an entry stand: it is at some place i of the list, and greater than all behind
  abbrev Stands : ℕ → List A → Entry A → Type 0
  Stands k l e =
      (i : ℕ) × (i < length l) × (e.position ≡ k + i) × (e.value ≡ get_or l i O.blank) × ((j : ℕ) → i < j → j < length l → O.le e.value (get_or l j O.blank) ≡ false)

  stands_later : (k : ℕ) (a : A) (l : List A) (e : Entry A) → Stands (suc k) l e → Stands k (a ∷ l) e
  stands_later k a l e (i, m, p, v, g) = (suc i, omega arith, omega arith, v, λ j h n. later j h n)
    where
      later : (j : ℕ) → suc i < j → j < suc (length l) → O.le e.value (get_or (a ∷ l) j O.blank) ≡ false
      later zero h n = absurd (not-suc-le-zero h)
      later (suc j) h n = g j (omega arith) (omega arith)

  stands_first : (k : ℕ) (a : A) (l : List A) → all (over O (record { value = a; position = k })) (positioned (suc k) l) ≡ true → Stands k (a ∷ l) (record { value = a; position = k })
  stands_first k a l p = (zero, omega arith, sym (add-zero k), refl, λ j h n. later j h n)
    where
      later : (j : ℕ) → zero < j → j < suc (length l) → O.le a (get_or (a ∷ l) j O.blank) ≡ false
      later zero h n = absurd (not-suc-le-zero h)
      later (suc j) h n = over_all (record { value = a; position = k }) (suc k) l p j (omega arith)

  in_standing : (k : ℕ) (l : List A) (e : Entry A) → In e (standing O (positioned k l)) → Stands k l e
  in_standing k [] e h = absurd h
  in_standing k (a ∷ l) e h =
      let i = in_standing (suc k) l e in
      split (all (over O (record { value = a; position = k })) (positioned (suc k) l))
      (λ p. ⊎_elim (λ q. subst (Stands k (a ∷ l)) (sym q) (stands_first k a l p)) (λ q. stands_later k a l e (i q)) (rw p at h))
      (λ p. stands_later k a l e (i (rw p at h)))

  standing_in : (k : ℕ) (l : List A) (i : ℕ) → i < length l → ((j : ℕ) → i < j → j < length l → O.le (get_or l i O.blank) (get_or l j O.blank) ≡ false)
      → In (record { value = get_or l i O.blank; position = k + i }) (standing O (positioned k l))
  standing_in k [] i h g = absurd (not-suc-le-zero h)
  standing_in k (a ∷ l) zero h g =
      let p = all_over (record { value = a; position = k }) (suc k) l (λ j m. g (suc j) (omega arith) (omega arith)) in
      rw (add-zero, p) (inl refl)
  standing_in k (a ∷ l) (suc i) h g =
      let r = standing_in (suc k) l i (omega arith) (λ j m n. g (suc j) (omega arith) (omega arith)) in
      let s : In (record { value = get_or l i O.blank; position = k + suc i }) (standing O (positioned (suc k) l)) = rw (add-suc, ← suc-add) r in
      split (all (over O (record { value = a; position = k })) (positioned (suc k) l)) (λ p. rw p (inr s)) (λ p. rw p s)

  standing_from : (k : ℕ) (l : List A) → Each (λ e. k ≤ e.position) (standing O (positioned k l))
  standing_from k l = standing_each _ (positioned k l) (each_positioned _ O.blank k l (λ i h. omega arith))

  rising_cons : (e : Entry A) (q : List (Entry A)) → Each (λ r. e.position < r.position) q → Rising q → Rising (e ∷ q)
  rising_cons e [] h r = tt
  rising_cons e (f ∷ q) h r = (h.0, r)

  standing_rising : (k : ℕ) (l : List A) → Rising (standing O (positioned k l))
  standing_rising k [] = tt
  standing_rising k (a ∷ l) =
      let i = standing_rising (suc k) l in
      split (all (over O (record { value = a; position = k })) (positioned (suc k) l)) (λ p. rw p (rising_cons (record { value = a; position = k }) (standing O (positioned (suc k) l)) (standing_from (suc k) l) i)) (λ p. rw p i)

  -- ---- the best

  pub le_refl : (a : A) → O.le a a ≡ true
  le_refl a = split (O.le a a) (λ p. p) (λ p. O.total a a p)

  le_greater : (a b c : A) → O.le a (greater O b c) ≡ (O.le a b || O.le a c)
  le_greater a b c =
      split (O.le b c)
      (λ p. split (O.le a b) (λ q. cc (O.trans a b c q p)) (λ q. cc))
      (λ p. split (O.le a b) (λ q. cc) (λ q. split (O.le a c) (λ r. cc (O.trans a c b r (O.total b c p))) (λ r. cc)))

  -- it is one of the list's values
  pub best_in : (l : List A) → 0 < length l → In (best O l) l
  best_in [] h = absurd (not-suc-le-zero h)
  best_in (a ∷ []) h = inl refl
  best_in (a ∷ b ∷ l) h = let i = best_in (b ∷ l) (omega arith) in split (O.le a (best O (b ∷ l))) (λ p. subst (λ (c : Bool). In (cond c (best O (b ∷ l)) a) (a ∷ b ∷ l)) (sym p) (inr i)) (λ p. subst (λ (c : Bool). In (cond c (best O (b ∷ l)) a) (a ∷ b ∷ l)) (sym p) (inl refl))

  -- and no value of the list is greater
  pub best_greatest : (l : List A) (v : A) → In v l → O.le v (best O l) ≡ true
  best_greatest [] v h = absurd h
  best_greatest (a ∷ []) v h = ⊎_elim (λ e. rw e (le_refl a)) (λ z. absurd z) h
  best_greatest (a ∷ b ∷ l) v h =
      let g = le_greater v a (best O (b ∷ l)) in
      ⊎_elim (λ e. let f : O.le v a ≡ true = rw e (le_refl a) in cc) (λ k. let i = best_greatest (b ∷ l) v k in cc (or-true (O.le v a))) h

  -- ---- the front is the best

  -- an entry is over all of a list where it is over the list's best
  pub over_best : (e r : Entry A) (l : List (Entry A)) → all (over O e) (r ∷ l) ≡ not (O.le e.value (best O (values (r ∷ l))))
  over_best e r [] = and-true _
  over_best e r (s ∷ l) =
      let i = over_best e s l in
      let g = le_greater e.value r.value (best O (values (s ∷ l))) in
      split (O.le e.value r.value) (λ p. cc) (λ p. cc)

  front_best : (l : List (Entry A)) → front O (standing O l) ≡ best O (values l)
  front_best [] = refl
  front_best (e ∷ []) = refl
  front_best (e ∷ r ∷ l) =
      let i = front_best (r ∷ l) in
      let o = over_best e r l in
      split (O.le e.value (best O (values (r ∷ l)))) (λ p. cc) (λ p. cc)

  -- and the latest of those that equal it: its value is greater than all behind it
  pub front_latest : (l : List (Entry A)) (e : Entry A) (q : List (Entry A)) → standing O l ≡ e ∷ q → (b : List (Entry A)) × (c : List (Entry A)) × (l ≡ b ++ e ∷ c) × (all (over O e) c ≡ true)
  front_latest [] e q h = absurd (nil≢cons h)
  front_latest (r ∷ l) e q h =
      split (all (over O r) l) (λ p. ([], l, cc, cc)) (λ p. let (b, c, i, j) = front_latest l e q (rw p at h) in (r ∷ b, c, cc, j))

  -- ---- what a new value passes is the tail of the queue

  under_passed : (a : A) (e r : Entry A) → over O e r ≡ true → O.le e.value a ≡ true → O.le r.value a ≡ true
  under_passed a e r h p = O.trans r.value e.value a (O.total e.value r.value (not-true _ h)) p

  pub none_unpassed : (a : A) (e : Entry A) (q : List (Entry A)) → O.le e.value a ≡ true → all (over O e) q ≡ true → unpassed O a q ≡ []
  none_unpassed a e [] p h = refl
  none_unpassed a e (r ∷ q) p h =
      let b = both (over O e r) (all (over O e) q) h in
      let i = none_unpassed a e q p b.1 in
      cc (under_passed a e r b.0 p)

  pub passed_tail : (a : A) (q : List (Entry A)) → falling O q ≡ true → unpassed O a q ++ passed O a q ≡ q
  passed_tail a [] h = refl
  passed_tail a (e ∷ q) h =
      let b = both (all (over O e) q) (falling O q) h in
      let i = passed_tail a q b.1 in
      split (O.le e.value a) (λ p. cc (none_unpassed a e q p b.0)) (λ p. cc)

  pub passed_count : (a : A) (q : List (Entry A)) → length (passed O a q) + length (unpassed O a q) ≡ length q
  passed_count a [] = omega arith
  passed_count a (e ∷ q) = let i = passed_count a q in split (O.le e.value a) (λ p. rw p (omega arith)) (λ p. rw p (omega arith))

  -- the too old may go before or after
  aged_unpassed : (a : A) (m : ℕ) (q : List (Entry A)) → falling O q ≡ true → unpassed O a (aged m q) ≡ aged m (unpassed O a q)
  aged_unpassed a m [] h = refl
  aged_unpassed a m (e ∷ q) h =
      let b = both (all (over O e) q) (falling O q) h in
      let old = ltb e.position m in
      split (O.le e.value a) (λ t. let n = none_unpassed a e q t b.0 in split old (λ p. cc) (λ p. cc)) (λ t. split old (λ p. cc) (λ p. cc))

  -- ---- the queue of a line, step by step

  module _ (w : ℕ) (xs : List A) (s : ℕ) where
    -- what the window has at its place i, and at position r of the line
    cut_at : (i : ℕ) → s - w + i < min s (length xs) → get_or (slice (s - w) s xs) i O.blank ≡ get_or xs (s - w + i) O.blank
    cut_at i h = rw (get_or-drop, get_or-take s xs (s - w + i) O.blank (omega arith))

    cut_at' : (r : ℕ) → s - w ≤ r → r < s → get_or (slice (s - w) s xs) (r - (s - w)) O.blank ≡ get_or xs r O.blank
    cut_at' r h k = let e : s - w + (r - (s - w)) ≡ r = omega arith in rw (get_or-drop, e, get_or-take s xs r O.blank k)

    pub queue_start : s ≡ 0 → queue O w xs s ≡ []
    unfolding queue
    queue_start e = rw (e, drop-nil)

    pub queue_falls : falling O (queue O w xs s) ≡ true
    unfolding queue
    queue_falls = standing_falls (windowed w xs s)

    pub queue_length : length (queue O w xs s) ≤ w
    unfolding queue
    queue_length =
        let l : length (windowed w xs s) ≤ w = rw (length_positioned, length-drop, length-take) (omega arith) in omega (arith, standing_length (windowed w xs s))

    pub queue_some : 0 < w → 0 < s → s - w < length xs → 0 < length (queue O w xs s)
    unfolding queue
    queue_some p q h = standing_some (windowed w xs s) (rw (length_positioned, length-drop, length-take) (omega arith))

    -- exactly the entries of document 01's sentence
    pub queue_sound : (e : Entry A) → In e (queue O w xs s) → Queued O w xs s e
    unfolding queue
    queue_sound e h =
        let (i, a, b, c, d) = in_standing (s - w) (slice (s - w) s xs) e h in
        let l : s - w + i < min s (length xs) = omega (arith, simp (length-drop, length-take) at a) in
        record {
          done = omega arith;
          read = omega arith;
          recent = omega arith;
          value = c ∙ cut_at i l ∙ ap (λ r. get_or xs r O.blank) (sym b);
          greatest = λ r j k m. rw (← cut_at' r (omega arith) (omega arith)) (d (r - (s - w)) (omega arith) (rw (length-drop, length-take) (omega arith)));
        }

    pub queue_complete : (e : Entry A) → Queued O w xs s e → In e (queue O w xs s)
    unfolding queue
    queue_complete e h =
        let l = h.done in let m = h.read in let n = h.recent in
        let f : s - w + (e.position - (s - w)) ≡ e.position = omega arith in
        let v : get_or (slice (s - w) s xs) (e.position - (s - w)) O.blank ≡ e.value = cut_at' e.position (omega arith) (omega arith) ∙ sym h.value in
        subst (λ r. In r (standing O (positioned (s - w) (slice (s - w) s xs))))
        (ap (λ a. record { value = a; position = s - w + (e.position - (s - w)) }) v ∙ ap (λ r. record { value = e.value; position = r }) f)
        (standing_in (s - w) (slice (s - w) s xs) (e.position - (s - w)) (rw (length-drop, length-take) (omega arith))
        (λ j a b.
        let b' : s - w + j < min s (length xs) = omega (arith, simp (length-drop, length-take) at b) in
        rw (v, cut_at j b') (h.greatest (s - w + j) (omega arith) (omega arith) (omega arith))))

    -- oldest first
    pub queue_rising : Rising (queue O w xs s)
    unfolding queue
    queue_rising = standing_rising (s - w) (slice (s - w) s xs)

    pub queue_front : front O (queue O w xs s) ≡ best O (slice (s - w) s xs)
    unfolding queue
    queue_front = rw (front_best, values_positioned)

    queue_ages : aged (suc s - w) (queue O w xs s) ≡ standing O (positioned (suc s - w) (slice (suc s - w) s xs))
    unfolding queue
    queue_ages =
        split (ltb s w)
        (λ p. let e : suc s - w ≡ s - w = omega (arith, ltb-true) in rw e (standing_old (s - w) (s - w) (slice (s - w) s xs) (omega arith)))
        (λ p. let e : suc s - w ≡ suc (s - w) = omega (arith, ltb-false) in rw e (standing_age (s - w) (slice (s - w) s xs) ∙ rw (drop-drop 1 (s - w) (take s xs), add-one)))

    -- a step that reads: what the new value passes goes, then the too old, and the new value comes last
    pub queue_read : 0 < w → s < length xs → queue O w xs (suc s) ≡ aged (suc s - w) (unpassed O (get_or xs s O.blank) (queue O w xs s)) ++ (record { value = get_or xs s O.blank; position = s } ∷ [])
    unfolding queue
    queue_read p h =
        let l : suc s - w ≤ length (take s xs) = rw length-take (omega arith) in
        let e : suc s - w + length (slice (suc s - w) s xs) ≡ s = rw (length-drop, length-take) (omega arith) in
        rw (← aged_unpassed _ _ _ queue_falls, queue_ages, take-suc xs s O.blank, drop-append-le, positioned_append, e, standing_push)

    -- a step that drains
    pub queue_drain : length xs ≤ s → queue O w xs (suc s) ≡ aged (suc s - w) (queue O w xs s)
    unfolding queue
    queue_drain h = rw (queue_ages, take_all (suc s) xs (omega arith), take_all s xs)

  -- ---- the line's answer

  module _ (back ahead : ℕ) (xs : List A) where
    pub length_line : length (filter_line O back ahead xs) ≡ length xs
    unfolding filter_line
    length_line = length_tabulate (length xs) _

    pub line_at : (x : ℕ) (d : A) → x < length xs → get_or (filter_line O back ahead xs) x d ≡ best_at O back ahead xs x
    unfolding filter_line
    line_at x d h = get_d_tabulate (length xs) _ x d h

    -- the output at x is the front after step x + ahead
    pub output_front : (x : ℕ) → best_at O back ahead xs x ≡ front O (queue O (back + ahead + 1) xs (x + ahead + 1))
    unfolding best_at
    output_front x = let e : x + ahead + 1 - (back + ahead + 1) ≡ x - back = omega arith in rw (queue_front, e)

  -- what holds of each of a list that is not empty holds of its best
  pub best_each : (P : A → Type 0) (l : List A) → 0 < length l → Each P l → P (best O l)
  best_each P [] h e = absurd (not-suc-le-zero h)
  best_each P (a ∷ []) h e = e.0
  best_each P (a ∷ b ∷ l) h e =
      let i = best_each P (b ∷ l) (omega arith) e.1 in
      split (O.le a (best O (b ∷ l))) (λ p. rw p i) (λ p. rw p e.0)

  -- and so of each of a filtered line
  pub line_each : (P : A → Type 0) (back ahead : ℕ) (xs : List A) → Each P xs → Each P (filter_line O back ahead xs)
  unfolding filter_line best_at
  line_each P back ahead xs h =
      each_tabulate P (length xs) _ (λ x l.
      best_each P (slice (x - back) (x + ahead + 1) xs) (rw (length-drop, length-take) (omega arith)) (each_slice P (x - back) (x + ahead + 1) xs h))

  -- ---- the comparisons of a line

  module _ (w : ℕ) (xs : List A) where
    pub cost_read : (s : ℕ) → s < length xs → line_cost O w xs s ≡ comparisons O (get_or xs s O.blank) (queue O w xs s)
    unfolding line_cost
    cost_read s h = rw (lt-ltb s (length xs) h)

    pub cost_drain : (s : ℕ) → length xs ≤ s → line_cost O w xs s ≡ 0
    unfolding line_cost
    cost_drain s h = rw (le-ltb s (length xs) h)

    aged_length : (m : ℕ) (q : List (Entry A)) → length (aged m q) ≤ length q
    aged_length m [] = omega arith
    aged_length m (e ∷ q) = split (ltb e.position m) (λ p. rw p (omega arith)) (λ p. rw p (omega arith))

    -- each entry pays for the comparison that takes it out, and each step after the first for the one that stops it
    costs_queue : 0 < w → (s : ℕ) → s ≤ length xs → line_costs O w xs s + length (queue O w xs s) ≤ 2 * s - 1
    unfolding queue comparisons
    costs_queue p zero h = rw (zero-sub w) (omega arith)
    costs_queue p (suc s) h =
        let x = get_or xs s O.blank in
        let q = queue O w xs s in
        rw (cost_read s, queue_read w xs s, length-append) (omega (arith, costs_queue p s (le_of_lt h), passed_count x q, aged_length (suc s - w) (unpassed O x q)))

    pub costs_bound : 0 < w → (s : ℕ) → line_costs O w xs s ≤ 2 * length xs - 2
    costs_bound p zero = omega arith
    costs_bound p (suc s) =
        split (ltb s (length xs))
        (λ t. let h = ltb-true s (length xs) t in omega (arith, costs_queue p (suc s) h, rw length-append at (ap length (queue_read w xs s p h))))
        (λ t. omega (arith, cost_drain s (ltb-false _ _ t), costs_bound p s))
