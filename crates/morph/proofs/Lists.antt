-- Laws of lists, and a proof by the two values of a test.
use mathlib.Core.Path.{◌≡◌, refl, sym, ap, ◌∙◌, subst}
use mathlib.Core.Bool.{Bool, true, false, cond, false≢true, ◌&&◌, ◌||◌, and_assoc}
use mathlib.Core.Logic.{◌⊎◌, inl, inr, ⊎_elim}
use mathlib.Core.List.{List, [], ◌∷◌, ◌++◌, map, flatten}
use Prim.Native.Nat.{ℕ, zero, suc, ◌+◌, ◌-◌, ◌*◌, ◌≤◌, ◌<◌, min}
use native.Mathlib.Nat.{not-suc-le-zero, zero-sub, add-zero, add-suc, suc-add, zero-min, min-zero, suc-min-suc}
use native.Mathlib.Omega.{arith}
use borrow.Author.Tests.{leb-true, leb-false}
use lib.Dec.{leb}
use lib.ListN.{length, take, drop, get_or, set, length-take, length-drop}
use lib.Seq.{slice, get_or-take, get_or-drop}
use Rattle.morph.specs.Lists.{tabulate, sum_to, all, keep, Each, In}
use Rattle.morph.specs.Line.{Entry, positioned}

pub split : {C : Type 0} (b : Bool) → (b ≡ true → C) → (b ≡ false → C) → C
split true f g = f refl
split false f g = g refl

pub both : (a b : Bool) → (a && b) ≡ true → (a ≡ true) × (b ≡ true)
both true b h = (refl, h)
both false b h = absurd (false≢true h)

pub neither : (a b : Bool) → (a || b) ≡ false → (a ≡ false) × (b ≡ false)
neither true b h = absurd (false≢true (sym h))
neither false b h = (refl, h)

module _ {A : Type 0} where
  -- ---- `tabulate`

  pub length_tabulate : (n : ℕ) (f : ℕ → A) → length (tabulate n f) ≡ n
  length_tabulate zero f = refl
  length_tabulate (suc n) f = rw (length_tabulate n (λ k. f (suc k)))

  pub get_d_tabulate : (n : ℕ) (f : ℕ → A) (k : ℕ) (d : A) → k < n → get_or (tabulate n f) k d ≡ f k
  get_d_tabulate zero f k d h = absurd (not-suc-le-zero h)
  get_d_tabulate (suc n) f zero d h = refl
  get_d_tabulate (suc n) f (suc k) d h = get_d_tabulate n (λ j. f (suc j)) k d (omega arith)

  pub tabulate_ext : (n : ℕ) (f g : ℕ → A) → ((k : ℕ) → k < n → f k ≡ g k) → tabulate n f ≡ tabulate n g
  tabulate_ext zero f g h = refl
  tabulate_ext (suc n) f g h = cc (h zero (omega arith), tabulate_ext n (λ k. f (suc k)) (λ k. g (suc k)) (λ k l. h (suc k) (omega arith)))

  pub take_tabulate : (n m : ℕ) (f : ℕ → A) → take n (tabulate m f) ≡ tabulate (min n m) f
  take_tabulate zero m f = rw zero-min
  take_tabulate (suc n) zero f = rw min-zero
  take_tabulate (suc n) (suc m) f = rw (suc-min-suc, take_tabulate n m (λ k. f (suc k)))

  pub tabulate_snoc : (n : ℕ) (f : ℕ → A) → tabulate (suc n) f ≡ tabulate n f ++ (f n ∷ [])
  tabulate_snoc zero f = refl
  tabulate_snoc (suc n) f = ap (λ l. f zero ∷ l) (tabulate_snoc n (λ k. f (suc k)))

  -- ---- `all` and `keep`

  pub all_append : (p : A → Bool) (l m : List A) → all p (l ++ m) ≡ (all p l && all p m)
  all_append p [] m = refl
  all_append p (a ∷ l) m = rw (all_append p l m) (sym (and_assoc (p a) (all p l) (all p m)))

  pub all_take : (p : A → Bool) (n : ℕ) (l : List A) → all p l ≡ true → all p (take n l) ≡ true
  all_take p zero l h = refl
  all_take p (suc n) [] h = refl
  all_take p (suc n) (a ∷ l) h = let b = both (p a) (all p l) h in cc (all_take p n l b.1)

  pub keep_append : (p : A → Bool) (l m : List A) → keep p (l ++ m) ≡ keep p l ++ keep p m
  keep_append p [] m = refl
  keep_append p (a ∷ l) m = let i = keep_append p l m in split (p a) (λ q. cc) (λ q. cc)

  -- ---- `positioned`

  pub positioned_append : (k : ℕ) (l m : List A) → positioned k (l ++ m) ≡ positioned k l ++ positioned (k + length l) m
  positioned_append k [] m = rw add-zero
  positioned_append k (a ∷ l) m = rw (add-suc, ← suc-add, positioned_append (suc k) l m)

  pub length_positioned : (k : ℕ) (l : List A) → length (positioned k l) ≡ length l
  length_positioned k [] = refl
  length_positioned k (a ∷ l) = rw (length_positioned (suc k) l)

  abbrev pub values : List (Entry A) → List A
  values l = map (λ e. e.value) l

  pub values_positioned : (k : ℕ) (l : List A) → values (positioned k l) ≡ l
  values_positioned k [] = refl
  values_positioned k (a ∷ l) = rw (values_positioned (suc k) l)

  -- ---- `Each`

  pub each_take : (P : A → Type 0) (n : ℕ) (l : List A) → Each P l → Each P (take n l)
  each_take P zero l h = tt
  each_take P (suc n) [] h = tt
  each_take P (suc n) (a ∷ l) h = (h.0, each_take P n l h.1)

  pub each_drop : (P : A → Type 0) (n : ℕ) (l : List A) → Each P l → Each P (drop n l)
  each_drop P zero l h = h
  each_drop P (suc n) [] h = tt
  each_drop P (suc n) (a ∷ l) h = each_drop P n l h.1

  pub each_slice : (P : A → Type 0) (i j : ℕ) (l : List A) → Each P l → Each P (slice i j l)
  each_slice P i j l h = each_drop P i (take j l) (each_take P j l h)

  pub each_append : (P : A → Type 0) (l m : List A) → Each P l → Each P m → Each P (l ++ m)
  each_append P [] m h k = k
  each_append P (a ∷ l) m h k = (h.0, each_append P l m h.1 k)

  pub each_get_d : (P : A → Type 0) (l : List A) (i : ℕ) (d : A) → Each P l → i < length l → P (get_or l i d)
  each_get_d P [] i d h k = absurd (not-suc-le-zero k)
  each_get_d P (a ∷ l) zero d h k = h.0
  each_get_d P (a ∷ l) (suc i) d h k = each_get_d P l i d h.1 (omega arith)

  pub each_set : (P : A → Type 0) (l : List A) (i : ℕ) (a : A) → Each P l → P a → Each P (set l i a)
  each_set P [] i a h p = tt
  each_set P (b ∷ l) zero a h p = (p, h.1)
  each_set P (b ∷ l) (suc i) a h p = (h.0, each_set P l i a h.1 p)

  -- a test that holds of all of a list, of each
  pub all_hold : (p : A → Bool) (l : List A) → all p l ≡ true → Each (λ a. p a ≡ true) l
  all_hold p [] h = tt
  all_hold p (a ∷ l) h = let (b, c) = both (p a) (all p l) h in (b, all_hold p l c)

  pub each_weaken : (P Q : A → Type 0) (l : List A) → ((a : A) → P a → Q a) → Each P l → Each Q l
  each_weaken P Q [] f h = tt
  each_weaken P Q (a ∷ l) f h = (f a h.0, each_weaken P Q l f h.1)

  pub each_tabulate : (P : A → Type 0) (n : ℕ) (f : ℕ → A) → ((k : ℕ) → k < n → P (f k)) → Each P (tabulate n f)
  each_tabulate P zero f h = tt
  each_tabulate P (suc n) f h = (h zero (omega arith), each_tabulate P n (λ k. f (suc k)) (λ k l. h (suc k) (omega arith)))

  pub each_positioned : (P : Entry A → Type 0) (d : A) (k : ℕ) (l : List A) → ((i : ℕ) → i < length l → P (record { value = get_or l i d; position = k + i })) → Each P (positioned k l)
  each_positioned P d k [] h = tt
  each_positioned P d k (a ∷ l) h = (rw add-zero at (h zero (omega arith)), each_positioned P d (suc k) l (λ i j. rw (suc-add, ← add-suc) (h (suc i) (omega arith))))

  -- ---- `In`

  pub each_in : {P : A → Type 0} (l : List A) → ((a : A) → In a l → P a) → Each P l
  each_in [] h = tt
  each_in (a ∷ l) h = (h a (inl refl), each_in l (λ b i. h b (inr i)))

  pub in_each : (P : A → Type 0) (l : List A) (a : A) → Each P l → In a l → P a
  in_each P [] a h i = absurd i
  in_each P (b ∷ l) a h i = ⊎_elim (λ e. subst P (sym e) h.0) (λ j. in_each P l a h.1 j) i

  pub in_place : (d : A) (l : List A) (a : A) → In a l → (k : ℕ) × (k < length l) × (a ≡ get_or l k d)
  in_place d [] a i = absurd i
  in_place d (b ∷ l) a i = ⊎_elim (λ e. (zero, omega arith, e)) (λ j. let (k, h, e) = in_place d l a j in (suc k, omega arith, e)) i

  pub place_in : (d : A) (l : List A) (k : ℕ) → k < length l → In (get_or l k d) l
  place_in d [] k h = absurd (not-suc-le-zero h)
  place_in d (b ∷ l) zero h = inl refl
  place_in d (b ∷ l) (suc k) h = inr (place_in d l k (omega arith))

  -- the places of a slice are those of the list from i up to, not including, j
  pub in_slice : (d : A) (i j : ℕ) (l : List A) (a : A) → In a (slice i j l) → (k : ℕ) × (i ≤ k) × (k < j) × (k < length l) × (a ≡ get_or l k d)
  in_slice d i j l a h =
      let (k, m, e) = in_place d (slice i j l) a h in
      let n : i + k < min j (length l) = omega (arith, simp (length-drop, length-take) at m) in
      (i + k, omega arith, omega arith, omega arith, e ∙ rw (get_or-drop, get_or-take j l (i + k) d (omega arith)))

  pub slice_in : (d : A) (i j : ℕ) (l : List A) (k : ℕ) → i ≤ k → k < j → k < length l → In (get_or l k d) (slice i j l)
  slice_in d i j l k p q h =
      let e : i + (k - i) ≡ k = omega arith in
      let f : get_or (slice i j l) (k - i) d ≡ get_or l k d = rw (get_or-drop, e, get_or-take j l k d q) in
      subst (λ a. In a (slice i j l)) f (place_in d (slice i j l) (k - i) (rw (length-drop, length-take) (omega arith)))

  pub in_append : (l m : List A) (a : A) → In a (l ++ m) → In a l ⊎ In a m
  in_append [] m a i = inr i
  in_append (b ∷ l) m a i = ⊎_elim (λ e. inl (inl e)) (λ j. ⊎_elim (λ k. inl (inr k)) (λ k. inr k) (in_append l m a j)) i

  pub append_in : (l m : List A) (a : A) → In a l ⊎ In a m → In a (l ++ m)
  append_in [] m a i = ⊎_elim (λ z. absurd z) (λ j. j) i
  append_in (b ∷ l) m a i = ⊎_elim (λ k. ⊎_elim (λ e. inl e) (λ j. inr (append_in l m a (inl j))) k) (λ j. inr (append_in l m a (inr j))) i

-- ---- `map`

module _ {A B : Type 0} where
  pub take_map : (f : A → B) (n : ℕ) (l : List A) → take n (map f l) ≡ map f (take n l)
  take_map f zero l = refl
  take_map f (suc n) [] = refl
  take_map f (suc n) (a ∷ l) = rw (take_map f n l)

  pub drop_map : (f : A → B) (n : ℕ) (l : List A) → drop n (map f l) ≡ map f (drop n l)
  drop_map f zero l = refl
  drop_map f (suc n) [] = refl
  drop_map f (suc n) (a ∷ l) = drop_map f n l

  pub map_each : (f g : A → B) (l : List A) → Each (λ a. f a ≡ g a) l → map f l ≡ map g l
  map_each f g [] h = refl
  map_each f g (a ∷ l) h = cc (map_each f g l h.1)

  pub map_map : {C : Type 0} (g : B → C) (f : A → B) (l : List A) → map g (map f l) ≡ map (λ a. g (f a)) l
  map_map g f [] = refl
  map_map g f (a ∷ l) = rw (map_map g f l)

  pub each_map : (P : B → Type 0) (f : A → B) (l : List A) → Each (λ a. P (f a)) l → Each P (map f l)
  each_map P f [] h = tt
  each_map P f (a ∷ l) h = (h.0, each_map P f l h.1)

  -- one of a map's lists, joined
  pub in_joined : (f : B → List A) (l : List B) (a : A) → In a (flatten (map f l)) → (b : B) × In b l × In a (f b)
  unfolding flatten
  in_joined f [] a i = absurd i
  in_joined f (b ∷ l) a i =
      ⊎_elim (λ j. (b, inl refl, j)) (λ j. let (c, k, m) = in_joined f l a j in (c, inr k, m)) (in_append (f b) (flatten (map f l)) a i)

  pub joined_in : (f : B → List A) (l : List B) (b : B) (a : A) → In b l → In a (f b) → In a (flatten (map f l))
  unfolding flatten
  joined_in f [] b a i j = absurd i
  joined_in f (c ∷ l) b a i j =
      append_in (f c) (flatten (map f l)) a (⊎_elim (λ e. inl (subst (λ r. In a (f r)) e j)) (λ k. inr (joined_in f l b a k j)) i)

-- ---- sums

pub sum_to_same : (n : ℕ) (f g : ℕ → ℕ) → ((k : ℕ) → k < n → f k ≡ g k) → sum_to n f ≡ sum_to n g
sum_to_same zero f g h = refl
sum_to_same (suc n) f g h = cc (sum_to_same n f g (λ k l. h k (omega arith)), h n (omega arith))

pub sum_to_add : (n : ℕ) (f g : ℕ → ℕ) → sum_to n (λ k. f k + g k) ≡ sum_to n f + sum_to n g
sum_to_add zero f g = refl
sum_to_add (suc n) f g = omega (arith, sum_to_add n f g)

pub sum_to_le : (n b : ℕ) (f : ℕ → ℕ) → ((k : ℕ) → k < n → f k ≤ b) → sum_to n f ≤ n * b
sum_to_le zero b f h = omega arith
sum_to_le (suc n) b f h = omega (arith, sum_to_le n b f (λ k l. h k (omega arith)), h n (omega arith))

-- terms that begin b later
pub sum_to_later : (n b : ℕ) (f : ℕ → ℕ) → sum_to n (λ t. cond (leb b t) (f (t - b)) 0) ≡ sum_to (n - b) f
sum_to_later zero b f = rw zero-sub
sum_to_later (suc n) b f =
    let i = sum_to_later n b f in
    split (leb b n)
    (λ p. let e : suc n - b ≡ suc (n - b) = omega (arith, leb-true b n p) in rw (p, e, i))
    (λ p. let e : suc n - b ≡ n - b = omega (arith, leb-false b n p) in rw (p, e, i) (omega arith))
