-- A pass in two parts, as the code makes it: the places that have a second, and those that stay.
use Rattle.std.proofs.Common.{◌≡◌, refl, sym, ap, ◌∙◌, List, ◌++◌, append-nil, ℕ, suc, ◌+◌, ◌-◌, ◌≤◌, ◌<◌, mul-one, arith, lt-ltb, le-ltb, length, get_or, take, drop, length-append, length-take, length-drop, drop_of_length-le, ext_get_or, get_or-append-add, get_or-drop, get_or-take, take_at, drop_at, take_all, ⊎_elim}
use Rattle.std.proofs.Math.ListN.{get_or-append}
use borrow.Rule.Slice.PartMut.{put_mid}
use Rattle.morph.specs.Lists.{tabulate}
use Rattle.morph.proofs.Lists.{length_tabulate, get_d_tabulate}
use Rattle.passes.specs.Inner.{pairs, ahead_at, ahead_by, Runs, Back}
use Rattle.passes.proofs.Reach.{below_or}

-- a place of two lists in a row
pub get_d_right : {A : Type 0} (l m : List A) (i k : ℕ) (d : A) → length l ≡ k → k ≤ i → get_or (l ++ m) i d ≡ get_or m (i - k) d
get_d_right l m i k d e h = let f : length l + (i - k) ≡ i = omega arith in ap (λ (n : ℕ). get_or (l ++ m) n d) (sym f) ∙ get_or-append-add l m (i - k) d

module _ {A : Type 0} (d : A) (pick : A → A → A) (s : ℕ) (xs : List A) where
  pub ahead_parts : pairs d pick s (length xs - s) xs ++ drop (length xs - s) xs ≡ ahead_by d pick s xs
  unfolding ahead_by
  ahead_parts =
      ext_get_or d (pairs d pick s (length xs - s) xs ++ drop (length xs - s) xs) (tabulate (length xs) (ahead_at d pick s xs)) (rw (length-append, length_tabulate (length xs - s), length-drop, length_tabulate (length xs)) (omega arith)) (λ i h. here i (omega (arith, rw (length-append, length_tabulate, length-drop) at h)))
    where
      f : ℕ → A
      f i = pick (get_or xs i d) (get_or xs (i + s) d)

      long : length (pairs d pick s (length xs - s) xs) ≡ length xs - s
      long = length_tabulate (length xs - s) _

      here : (i : ℕ) → i < length xs → get_or (pairs d pick s (length xs - s) xs ++ drop (length xs - s) xs) i d ≡ get_or (tabulate (length xs) (ahead_at d pick s xs)) i d
      here i h =
          ⊎_elim
          (λ (p : length xs - s ≤ i). let e : length xs - s + (i - (length xs - s)) ≡ i = omega arith in get_d_right (pairs d pick s (length xs - s) xs) (drop (length xs - s) xs) i (length xs - s) d long p
          ∙ get_or-drop (length xs - s) xs (i - (length xs - s)) d ∙ ap (λ (n : ℕ). get_or xs n d) e ∙ sym (get_d_tabulate (length xs) (ahead_at d pick s xs) i d h ∙ rw (le-ltb (i + s) (length xs) (omega arith)) refl))
          (λ (p : suc i ≤ length xs - s). get_or-append (pairs d pick s (length xs - s) xs) (drop (length xs - s) xs) d i (rw long p)
          ∙ get_d_tabulate (length xs - s) _ i d p ∙ sym (get_d_tabulate (length xs) (ahead_at d pick s xs) i d h ∙ rw (lt-ltb (i + s) (length xs) (omega arith)) refl))
          (below_or (length xs - s) i)

-- ---- the parts as they come back

put_whole : {A : Type 0} (e : ℕ) (p m q : List A) → length p ≡ e → put_mid e (length (p ++ m) - e) (p ++ m) q ≡ p ++ q
put_whole e p m q h =
    rw (take_at p m e h, drop_at p m e h, drop_of_length-le m {i = length (p ++ m) - e} (rw length-append (omega arith)), append-nil q)

module _ {A : Type 0} (d : A) (pick : A → A → A) (s : ℕ) (xs out p q : List A) (e : ℕ) (n : length xs ≡ length out) where
  pub ahead_made : e ≡ length xs - s → p ≡ pairs d pick s (length (take e out)) xs → q ≡ take (length xs - e) (drop e xs)
      → put_mid e (length (p ++ drop e out) - e) (p ++ drop e out) q ≡ ahead_by d pick s xs
  ahead_made h f g =
      let l : length (take e out) ≡ length xs - s = rw length-take (omega arith) in
      let k : length p ≡ e = ap length f ∙ length_tabulate (length (take e out)) _ ∙ l ∙ sym h in
      put_whole e p (drop e out) q k ∙ rw (f, g, l, h, take_all (length xs - (length xs - s)) (drop (length xs - s) xs) (rw length-drop (omega arith))) (ahead_parts d pick s xs)

-- ---- a step back: the front place by place, and the rest in pairs

module _ {A : Type 0} (d : A) (pick : A → A → A) where
  -- the first i places are done
  pub record Running (i : ℕ) (ys l : List A) : Type 0 where
    pub long : length l ≡ length ys
    pub within : i ≤ length ys
    pub first : 0 < i → get_or l 0 d ≡ get_or ys 0 d
    pub next : (k : ℕ) → 0 < k → k < i → get_or l k d ≡ pick (get_or l (k - 1) d) (get_or ys k d)

module _ {A : Type 0} (d : A) (pick : A → A → A) (s : ℕ) (xs p : List A) (e : ℕ) (h : e ≡ length xs - (length xs - s)) (f : Runs d pick (take e xs) p) where
  front_long : length p ≡ e
  front_long = f.long ∙ rw length-take (omega arith)

  at_front : (q : List A) (i : ℕ) → i < e → get_or (p ++ q) i d ≡ get_or p i d
  at_front q i l = get_or-append p q d i (rw front_long l)

  back_parts : Back d pick 1 s xs (p ++ pairs d pick s (length xs - s) xs)
  back_parts = record {
    long = rw (length-append, front_long, length_tabulate (length xs - s)) (omega arith);
    first = λ i l m k. let z : i ≡ 0 = omega arith in let w : 0 < e = omega (arith, mul-one s) in
        rw z (at_front _ 0 w ∙ f.first (rw length-take (omega arith)) ∙ get_or-take e xs 0 d w);
    front = λ i l m k. let w : i < e = omega (arith, mul-one s) in
        at_front _ i w ∙ f.next i (omega arith) (rw length-take (omega arith)) ∙ rw (at_front (pairs d pick s (length xs - s) xs) (i - 1) (omega arith), get_or-take e xs i d w) refl;
    back = λ i l k.
        let w : e ≤ i = omega (arith, mul-one s) in
        let g : i - e ≡ i - s = omega (arith, mul-one s) in
        let v : i - s < length xs - s = omega (arith, mul-one s) in
        let u : i - s + s ≡ i = omega (arith, mul-one s) in
        get_d_right p (pairs d pick s (length xs - s) xs) i e d front_long w
        ∙ ap (λ (k : ℕ). get_or (pairs d pick s (length xs - s) xs) k d) g
        ∙ get_d_tabulate (length xs - s) (λ i. pick (get_or xs i d) (get_or xs (i + s) d)) (i - s) d v ∙ rw (u, mul-one s) refl;
  }

  pub back_made : (out q : List A) → length xs ≡ length out → q ≡ pairs d pick s (length (take (length (p ++ drop e out) - e) (drop e (p ++ drop e out)))) xs
      → Back d pick 1 s xs (put_mid e (length (p ++ drop e out) - e) (p ++ drop e out) q)
  back_made out q n g =
      let l : length (take (length (p ++ drop e out) - e) (drop e (p ++ drop e out))) ≡ length xs - s = rw (drop_at p (drop e out) e front_long, length-take, length-append, length-drop) (omega (arith, front_long)) in
      rw (put_whole e p (drop e out) q front_long, g, l) back_parts
