-- Passes by doubling reach as far as their steps add up to, over any order.
-- By which idea: a place has the greatest of two windows of one list, which touch or overlap because a step is at most one longer than what is reached.
use Rattle.std.proofs.Common.{◌≡◌, refl, sym, ◌∙◌, subst, Bool, true, false, cond, List, [], ◌∷◌, ◌⊎◌, inl, inr, ⊎_elim, ℕ, zero, suc, ◌+◌, ◌-◌, ◌*◌, ◌≤◌, ◌<◌, min, mul-le-mul_right, zero-mul, mul-zero, one-mul, suc-mul, add-zero, mul-one, arith, ltb-true, ltb-false, leb-true, leb-false, ltb, leb, length, get_or}
use Rattle.morph.specs.Lists.{Each}
use Rattle.morph.specs.Order.{Order}
use Rattle.morph.proofs.Lists.{split, length_tabulate, get_d_tabulate, each_get_d}
use Rattle.passes.specs.Inner.{ahead_at, ahead_by, Back, Near, Greatest, Reached, ThenBack, Picks, Any}

-- ---- windows

-- one place of a window that looks ahead only
near_ahead : (u hi n i k : ℕ) → Near u 0 hi n i k → (k < n) × (d : ℕ) × (d ≤ hi) × (k ≡ i + d * u)
near_ahead u hi n i k (h, w) =
    ⊎_elim (λ p. let (d, l, e) = p in (h, d, l, e))
    (λ p. let (d, l, e) = p in let z : d ≡ 0 = omega arith in let f : i ≡ k = e ∙ rw (z, zero-mul u) (add-zero k) in (h, 0, omega arith, rw (f, zero-mul u) (sym (add-zero k)))) w

pub below_or : (d r : ℕ) → (d ≤ r) ⊎ (suc r ≤ d)
below_or d r = split (leb d r) (λ t. inl (leb-true d r t)) (λ t. inr (leb-false d r t))

module _ (u n r s i : ℕ) (h : s ≤ suc r) where
  -- the window at i and the one s units on make one
  pub ahead_first : (k : ℕ) → Near u 0 r n i k → Near u 0 (r + s) n i k
  ahead_first k w = let (l, d, m, e) = near_ahead u r n i k w in (l, inl (d, omega arith, e))

  pub ahead_second : (k : ℕ) → Near u 0 r n (i + s * u) k → Near u 0 (r + s) n i k
  ahead_second k w = let (l, d, m, e) = near_ahead u r n (i + s * u) k w in (l, inl (d + s, omega arith, omega arith))

  pub ahead_either : (k : ℕ) → Near u 0 (r + s) n i k → Near u 0 r n i k ⊎ Near u 0 r n (i + s * u) k
  ahead_either k w =
      let (l, d, m, e) = near_ahead u (r + s) n i k w in
      ⊎_elim (λ p. inl (l, inl (d, p, e)))
      (λ p. let g : d - s + s ≡ d = omega arith in let q : k ≡ i + (d - s + s) * u = rw g e in inr (l, inl (d - s, omega arith, omega arith))) (below_or d r)

  -- where place i + s units is not there, the window at i is all there is
  pub ahead_cut : n ≤ i + s * u → (k : ℕ) → Near u 0 (r + s) n i k → Near u 0 r n i k
  ahead_cut c k w =
      let (l, d, m, e) = near_ahead u (r + s) n i k w in
      ⊎_elim (λ p. (l, inl (d, p, e))) (λ p. let q : s * u ≤ d * u = mul-le-mul_right u (omega arith) in absurd (omega arith)) (below_or d r)

module _ (u n r hi s i : ℕ) where
  -- the window at i and the one s units back make one, where the two touch
  back_first : (k : ℕ) → Near u r hi n i k → Near u (r + s) hi n i k
  back_first k (l, w) = (l, ⊎_elim (λ p. inl p) (λ p. let (d, m, e) = p in inr (d, omega arith, e)) w)

  module _ (c : s * u ≤ i) where
    back_second : (k : ℕ) → Near u r hi n (i - s * u) k → Near u (r + s) hi n i k
    back_second k (l, w) = (
      l,
      ⊎_elim
          (λ p. let (d, m, e) = p in ⊎_elim
          (λ q. let g : s - d + d ≡ s = omega arith in let f : s * u ≡ (s - d + d) * u = rw g refl in inr (s - d, omega arith, omega arith))
          (λ q. let g : d - s + s ≡ d = omega arith in let f : d * u ≡ (d - s + s) * u = rw g refl in inl (d - s, omega arith, omega arith)) (below_or d s))
          (λ p. let (d, m, e) = p in inr (d + s, omega arith, omega arith)) w,
    )

    back_either : s ≤ suc (r + hi) → (k : ℕ) → Near u (r + s) hi n i k → Near u r hi n (i - s * u) k ⊎ Near u r hi n i k
    back_either h k (l, w) =
        ⊎_elim (λ p. inr (l, inl p))
        (λ p. let (d, m, e) = p in ⊎_elim (λ q. inr (l, inr (d, q, e)))
        (λ (q : suc r ≤ d). ⊎_elim
        (λ (v : d ≤ s). let g : s - d + d ≡ s = omega arith in let f : s * u ≡ (s - d + d) * u = rw g refl in inl (l, inl (s - d, omega arith, omega arith)))
        (λ (v : suc s ≤ d). let g : d - s + s ≡ d = omega arith in let f : d * u ≡ (d - s + s) * u = rw g refl in inl (l, inr (d - s, omega arith, omega arith))) (below_or d s)) (below_or d r)) w

  -- before the first unit's end there is no place further back
  start_cut : i < u → (k : ℕ) → Near u (r + s) hi n i k → Near u r hi n i k
  start_cut c k (l, w) = (l, ⊎_elim (λ p. inl p) (λ p. let (d, m, e) = p in inr (itself d e)) w)
    where
      itself : (d : ℕ) → i ≡ k + d * u → (d : ℕ) × (d ≤ r) × (i ≡ k + d * u)
      itself zero e = (0, omega arith, e)
      itself (suc d) e = absurd (omega (arith, suc-mul d u))

  -- along the front: the window one unit back, reached all the way, and the one at i
  module _ (c : u ≤ i) (v : i < s * u) where
    front_before : (k : ℕ) → Near u (r + s) hi n (i - u) k → Near u (r + s) hi n i k
    front_before k (l, w) = (
      l,
      ⊎_elim
          (λ p. let (d, m, e) = p in below d m e)
          (λ p. let (d, m, e) = p in let f : i ≡ k + suc d * u = omega (arith, suc-mul d u) in
          ⊎_elim (λ (q : suc d ≤ r + s). inr (suc d, q, f)) (λ (q : suc (r + s) ≤ suc d). let g : s * u ≤ suc d * u = mul-le-mul_right u (omega arith) in absurd (omega arith)) (below_or (suc d) (r + s))) w,
    )
      where
        some : 0 < r + s
        some = go s v
          where
            go : (s : ℕ) → i < s * u → 0 < r + s
            go zero v = absurd (omega (arith, zero-mul u))
            go (suc s) v = omega arith

        below : (d : ℕ) → d ≤ hi → k ≡ i - u + d * u → ((d : ℕ) × (d ≤ hi) × (k ≡ i + d * u)) ⊎ ((d : ℕ) × (d ≤ r + s) × (i ≡ k + d * u))
        below zero m e = inr (1, some, omega (arith, zero-mul u, one-mul u))
        below (suc d) m e = inl (d, omega arith, omega (arith, suc-mul d u))

    front_either : (k : ℕ) → Near u (r + s) hi n i k → Near u (r + s) hi n (i - u) k ⊎ Near u r hi n i k
    front_either k (l, w) =
        ⊎_elim (λ p. inr (l, inl p)) (λ p. let (d, m, e) = p in further d m e) w
      where
        further : (d : ℕ) → d ≤ r + s → i ≡ k + d * u → Near u (r + s) hi n (i - u) k ⊎ Near u r hi n i k
        further zero m e = inr (l, inr (0, omega arith, e))
        further (suc d) m e = inl (l, inr (d, omega arith, omega (arith, suc-mul d u)))

-- ---- greatest values

module _ {A : Type 0} (O : Order A) (f : ℕ → A) where
  -- of two sets of places together
  pub greatest_join : (S T U : ℕ → Type 0) (v w x : A) → Greatest O f S v → Greatest O f T w → (x ≡ v) ⊎ (x ≡ w) → O.le v x ≡ true → O.le w x ≡ true
      → ((k : ℕ) → S k → U k) → ((k : ℕ) → T k → U k) → ((k : ℕ) → U k → S k ⊎ T k) → Greatest O f U x
  greatest_join S T U v w x a b e p q g h c = record {
    place = ⊎_elim (λ i. let (k, s, j) = a.place in (k, g k s, i ∙ j)) (λ i. let (k, t, j) = b.place in (k, h k t, i ∙ j)) e;
    over = λ k m. ⊎_elim (λ s. O.trans (f k) v x (a.over k s) p) (λ t. O.trans (f k) w x (b.over k t) q) (c k m);
  }

  pub greatest_same : (S U : ℕ → Type 0) (v : A) → Greatest O f S v → ((k : ℕ) → S k → U k) → ((k : ℕ) → U k → S k) → Greatest O f U v
  greatest_same S U v a g h = record { place = let (k, s, j) = a.place in (k, g k s, j); over = λ k m. a.over k (h k m) }

-- ---- one pass, and the whole reach

module _ {A : Type 0} (O : Order A) (P : A → Type 0) (pick : A → A → A) (c : Picks O P pick) (u : ℕ) (xs : List A) (all : Each P xs) where
  abbrev value : ℕ → A
  value k = get_or xs k O.blank

  -- a place's value is one of the list's
  pub reached_each : (lo hi : ℕ) (ys : List A) → Reached O u lo hi xs ys → (i : ℕ) → i < length xs → P (get_or ys i O.blank)
  reached_each lo hi ys a i h = let (k, w, e) = (a.has i h).place in subst P (sym e) (each_get_d P xs k O.blank all w.0)

  pub reach_start : Reached O u 0 0 xs xs
  reach_start = record {
    long = refl;
    has = λ i h. record {
      place = (i, (h, inl (0, omega arith, rw (zero-mul u) (sym (add-zero i)))), refl);
      over = λ k w. let (l, d, m, e) = near_ahead u 0 (length xs) i k w in
          let z : d ≡ 0 = omega arith in
          let f : k ≡ i = e ∙ rw (z, zero-mul u) (add-zero i) in rw f (split (O.le (value i) (value i)) (λ p. p) (λ p. O.total (value i) (value i) p));
    };
  }

  pub reach_ahead : (r s : ℕ) (ys : List A) → s ≤ suc r → Reached O u 0 r xs ys → Reached O u 0 (r + s) xs (ahead_by O.blank pick (s * u) ys)
  unfolding ahead_by
  reach_ahead r s ys h a = record {
    long = length_tabulate (length ys) (ahead_at O.blank pick (s * u) ys) ∙ a.long;
    has = λ i l. let m : i < length ys = omega (arith, a.long) in rw (get_d_tabulate (length ys) (ahead_at O.blank pick (s * u) ys) i O.blank m) (here i l (ltb (i + s * u) (length ys)) refl);
  }
    where
      here : (i : ℕ) → i < length xs → (b : Bool) → ltb (i + s * u) (length ys) ≡ b
          → Greatest O (λ k. get_or xs k O.blank) (Near u 0 (r + s) (length xs) i) (cond b (pick (get_or ys i O.blank) (get_or ys (i + s * u) O.blank)) (get_or ys i O.blank))
      here i l true t =
          let m : i + s * u < length xs = omega (arith, ltb-true (i + s * u) (length ys) t, a.long) in
          let p = reached_each 0 r ys a i l in
          let q = reached_each 0 r ys a (i + s * u) m in
          greatest_join O (λ k. get_or xs k O.blank) _ _ _ _ _ _ (a.has i l) (a.has (i + s * u) m) (c.one _ _ p q) (c.first _ _ p q) (c.second _ _ p q)
          (ahead_first u (length xs) r s i h) (ahead_second u (length xs) r s i h) (ahead_either u (length xs) r s i h)
      here i l false t =
          greatest_same O (λ k. get_or xs k O.blank) _ _ _ (a.has i l) (ahead_first u (length xs) r s i h) (ahead_cut u (length xs) r s i h (omega (arith, ltb-false (i + s * u) (length ys) t, a.long)))

  -- a step back of as much as what is reached either way, and one
  module _ (r s hi : ℕ) (ys zs : List A) (h : s ≤ suc (r + hi)) (a : Reached O u r hi xs ys) (b : Back O.blank pick u s ys zs) where
    abbrev HasBack : ℕ → Type 0
    HasBack i = Greatest O (λ k. get_or xs k O.blank) (Near u (r + s) hi (length xs) i) (get_or zs i O.blank)

    behind : (i : ℕ) → i < length xs → s * u ≤ i → HasBack i
    behind i l w =
        let m : i - s * u < length xs = omega arith in
        let p = reached_each r hi ys a (i - s * u) m in
        let q = reached_each r hi ys a i l in
        rw (b.back i w (rw a.long l))
        (greatest_join O (λ k. get_or xs k O.blank) _ _ _ _ _ _ (a.has (i - s * u) m) (a.has i l) (c.one _ _ p q) (c.first _ _ p q) (c.second _ _ p q)
        (back_second u (length xs) r hi s i w) (back_first u (length xs) r hi s i) (back_either u (length xs) r hi s i w h))

    start : (i : ℕ) → i < length xs → i < u → i < s * u → HasBack i
    start i l v w =
        rw (b.first i v w (rw a.long l))
        (greatest_same O (λ k. get_or xs k O.blank) _ _ _ (a.has i l) (back_first u (length xs) r hi s i) (start_cut u (length xs) r hi s i v))

    -- one unit after another
    along : (m i : ℕ) → i < m → i < length xs → i < s * u → HasBack i
    along zero i n l w = absurd (omega arith)
    along (suc m) i n l w =
        ⊎_elim
        (λ (v : u ≤ i).
        let o : i - u < i = omega (arith, some i w) in
        let f = along m (i - u) (omega arith) (omega arith) (omega arith) in
        let (k, t, e) = f.place in
        let p : P (get_or zs (i - u) O.blank) = subst P (sym e) (each_get_d P xs k O.blank all t.0) in
        let q = reached_each r hi ys a i l in
        rw (b.front i v w (rw a.long l))
        (greatest_join O (λ k. get_or xs k O.blank) _ _ _ _ _ _ f (a.has i l) (c.one _ _ p q) (c.first _ _ p q) (c.second _ _ p q)
        (front_before u (length xs) r hi s i v w) (back_first u (length xs) r hi s i) (front_either u (length xs) r hi s i v w)))
        (λ (v : suc i ≤ u). start i l v w) (below_or u i)
      where
        some : (i : ℕ) → i < s * u → 0 < u
        some i w = go u w
          where
            go : (u : ℕ) → i < s * u → 0 < u
            go zero w = absurd (omega (arith, mul-zero s))
            go (suc u) w = omega arith

    pub reach_back_law : Reached O u (r + s) hi xs zs
    reach_back_law = record {
      long = b.long ∙ a.long;
      has = λ i l. ⊎_elim (λ (w : s * u ≤ i). behind i l w) (λ (w : suc i ≤ s * u). along (suc i) i (omega arith) l w) (below_or (s * u) i);
    }

-- ---- steps of a line

module _ {A : Type 0} (O : Order A) where
  pub any_each : (l : List A) → Each Any l
  any_each [] = tt
  any_each (a ∷ l) = (tt, any_each l)

module _ {A : Type 0} (O : Order A) (P : A → Type 0) (pick : A → A → A) (c : Picks O P pick) (xs : List A) (all : Each P xs) where
  pub line_ahead_law : (r s far : ℕ) (ys zs : List A) → s ≡ min (r + 1) (far - r) → Reached O 1 0 r xs ys → zs ≡ ahead_by O.blank pick s ys → Reached O 1 0 (r + s) xs zs
  line_ahead_law r s far ys zs h a e = rw (e, ← mul-one s) (subst (λ (m : ℕ). Reached O 1 0 (r + m) xs (ahead_by O.blank pick (s * 1) ys)) (sym (mul-one s)) (reach_ahead O P pick c 1 xs all r s ys (omega arith) a))

-- a step back of a loop that has reached r back by now
pub then_back : {A : Type 0} (O : Order A) (P : A → Type 0) (pick : A → A → A) (c : Picks O P pick) (u r s hi far : ℕ) (xs ys zs : List A) → s ≡ min (hi + r + 1) (far - r)
    → ThenBack O P u r hi xs ys → Back O.blank pick u s ys zs → ThenBack O P u (r + s) hi xs zs
then_back O P pick c u r s hi far xs ys zs h a b ws all w = reach_back_law O P pick c u ws all r s hi ys zs (omega arith) (a ws all w) b
