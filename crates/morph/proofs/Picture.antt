-- The laws of a stage and of a plan: across first and then down gives the same; what a row of the answer rests on.
use mathlib.Core.Path.{◌≡◌, refl, sym, ap, ◌∙◌}
use mathlib.Core.List.{List, [], ◌∷◌, ◌++◌, map, flatten, append-nil}
use Prim.Native.Nat.{ℕ, zero, suc, ◌+◌, ◌-◌, ◌*◌, ◌≤◌, ◌<◌, min}
use native.Mathlib.Nat.{not-suc-le-zero, add-zero}
use native.Mathlib.Omega.{arith}
use lib.ListN.{length, take, get_or, length-append, length-take, length-drop, length-map, get_or-map}
use lib.Seq.{slice, get_or-take, take-take}
use Rattle.morph.specs.Lists.{Each, In}
use Rattle.morph.specs.Order.{Order}
use Rattle.morph.specs.Line.{greater, best, best_at, filter_line}
use Rattle.morph.specs.Picture.{Picture, Wide, Stage, erosion, dilation, Covers, rows_at, under, apply_stage, across, column, down, apply_plan, look_ahead_of, alternating}
use Rattle.morph.proofs.Lists.{split, in_slice, slice_in, in_joined, joined_in, length_tabulate, tabulate_ext, take_tabulate, each_slice, each_append, each_get_d, each_weaken, each_map, each_tabulate, take_map, drop_map, map_map, map_each}
use Rattle.morph.proofs.Line.{length_line, line_at, best_each}

-- ---- the best of several lists

module _ {A : Type 0} (O : Order A) where
  greater_assoc : (a b c : A) → greater O a (greater O b c) ≡ greater O (greater O a b) c
  greater_assoc a b c =
      split (O.le b c)
      (λ p. split (O.le a b) (λ q. cc (O.trans a b c q p)) (λ q. cc))
      (λ p. split (O.le a b) (λ q. cc) (λ q. split (O.le a c) (λ r. cc (O.trans a c b r (O.total b c p))) (λ r. cc)))

  best_append : (l m : List A) → 0 < length l → 0 < length m → best O (l ++ m) ≡ greater O (best O l) (best O m)
  best_append [] m h k = absurd (not-suc-le-zero h)
  best_append (a ∷ []) [] h k = absurd (not-suc-le-zero k)
  best_append (a ∷ []) (b ∷ m) h k = refl
  best_append (a ∷ c ∷ l) m h k = ap (greater O a) (best_append (c ∷ l) m (omega arith) k) ∙ greater_assoc a (best O (c ∷ l)) (best O m)

  best_flatten : (ls : List (List A)) → Each (λ l. 0 < length l) ls → best O (flatten ls) ≡ best O (map (best O) ls)
  unfolding flatten
  best_flatten [] h = refl
  best_flatten (l ∷ []) h = rw append-nil
  best_flatten (l ∷ m ∷ ls) h = best_append l (flatten (m ∷ ls)) h.0 (rw length-append (omega arith)) ∙ ap (greater O (best O l)) (best_flatten (m ∷ ls) h.1)

module _ {A : Type 0} where
  flatten_pos : (ls : List (List A)) → 0 < length ls → Each (λ l. 0 < length l) ls → 0 < length (flatten ls)
  unfolding flatten
  flatten_pos [] h e = h
  flatten_pos (l ∷ ls) h e = rw length-append (omega arith)

  each_flatten : (P : A → Type 0) (ls : List (List A)) → Each (Each P) ls → Each P (flatten ls)
  unfolding flatten
  each_flatten P [] h = tt
  each_flatten P (l ∷ ls) h = each_append P l (flatten ls) h.0 (each_flatten P ls h.1)

-- ---- what is under the rectangle

module _ {A : Type 0} (S : Stage A) (p : Picture A) (x y : ℕ) where
  -- (x', y') is on the picture and under the stage's rectangle
  abbrev Under : ℕ → ℕ → Type 0
  Under x' y' = Covers S.back S.ahead S.above S.below p x y x' y'

  pub under_sound : (v : A) → In v (under S p y x) → (x' : ℕ) × (y' : ℕ) × Under x' y' × (v ≡ get_or (get_or p y' []) x' S.order.blank)
  under_sound v h =
      let cut = slice (x - S.back) (x + S.ahead + 1) in
      let (r, i, j) = in_joined cut (rows_at S p y) v h in
      let (y', a, b, c, e) = in_slice [] (y - S.above) (y + S.below + 1) p r i in
      let (x', k, l, m, f) = in_slice S.order.blank (x - S.back) (x + S.ahead + 1) r v j in
      (x', y', record { left = omega arith; right = omega arith; up = omega arith; down = omega arith; row = c; column = rw (← e) m }, f ∙ ap (λ l. get_or l x' S.order.blank) e)

  pub under_complete : (x' y' : ℕ) → Under x' y' → In (get_or (get_or p y' []) x' S.order.blank) (under S p y x)
  under_complete x' y' h =
      joined_in (slice (x - S.back) (x + S.ahead + 1)) (rows_at S p y) (get_or p y' []) _
      (slice_in [] (y - S.above) (y + S.below + 1) p y' (omega (arith, h.up)) (omega (arith, h.down)) h.row)
      (slice_in S.order.blank (x - S.back) (x + S.ahead + 1) (get_or p y' []) x' (omega (arith, h.left)) (omega (arith, h.right)) h.column)

-- document 01's ranges: erosion over columns x-a to x+b and rows y-c to y+d, dilation over columns x-b to x+a and rows y-d to y+c
module _ {A : Type 0} (O : Order A) (a b c d : ℕ) (p : Picture A) (x y : ℕ) (v : A) where
  abbrev Somewhere : (ℕ → ℕ → Type 0) → Type 0
  Somewhere P = (x' : ℕ) × (y' : ℕ) × P x' y' × (v ≡ get_or (get_or p y' []) x' O.blank)

  pub erosion_under : In v (under (erosion O a b c d) p y x) → Somewhere (Covers a b c d p x y)
  erosion_under h = under_sound (erosion O a b c d) p x y v h

  pub under_erosion : Somewhere (Covers a b c d p x y) → In v (under (erosion O a b c d) p y x)
  under_erosion (x', y', h, e) = rw e (under_complete (erosion O a b c d) p x y x' y' h)

  pub dilation_under : In v (under (dilation O a b c d) p y x) → Somewhere (Covers b a d c p x y)
  dilation_under h = under_sound (dilation O a b c d) p x y v h

  pub under_dilation : Somewhere (Covers b a d c p x y) → In v (under (dilation O a b c d) p y x)
  under_dilation (x', y', h, e) = rw e (under_complete (dilation O a b c d) p x y x' y' h)

-- ---- a stage

module _ {A : Type 0} (S : Stage A) (W : ℕ) (p : Picture A) (e : Wide W p) where
  each_rows : (P : List A → Type 0) (y : ℕ) → Each P p → Each P (rows_at S p y)
  each_rows P y h = each_slice P (y - S.above) (y + S.below + 1) p h

  -- each row of the window at (x, y) has a pixel
  cut_pos : (y x : ℕ) → x < W → Each (λ l. 0 < length l) (map (slice (x - S.back) (x + S.ahead + 1)) (rows_at S p y))
  cut_pos y x h =
      each_map _ _ (rows_at S p y) (each_weaken _ _ (rows_at S p y) (λ r (l : length r ≡ W). rw (length-drop, length-take) (omega arith)) (each_rows _ y e))

  pub pixel : (y x : ℕ) → x < W → best S.order (under S p y x) ≡ best_at S.order S.above S.below (column S x (across S p)) y
  unfolding across best_at
  pixel y x h =
      best_flatten S.order _ (cut_pos y x h)
      ∙ simp (map_map, take_map, drop_map)
      (ap (best S.order) (map_each _ _ (rows_at S p y) (each_weaken _ _ (rows_at S p y) (λ r (l : length r ≡ W). sym (line_at S.order S.back S.ahead r x _ (omega arith))) (each_rows _ y e))))

  row_length : (y : ℕ) → length (get_or (across S p) y []) ≡ length (get_or p y [])
  unfolding across filter_line
  row_length y = ap length (get_or-map (filter_line S.order S.back S.ahead) p y []) ∙ length_line S.order S.back S.ahead (get_or p y [])

  -- across first, and then down
  pub separable : apply_stage S p ≡ down S (across S p)
  unfolding apply_stage down across
  separable =
      rw (length-map p)
      (tabulate_ext (length p) _ _
      (λ y h. rw (row_length y) (tabulate_ext (length (get_or p y [])) _ _ (λ x k. pixel y x (omega (arith, each_get_d _ p y [] e h))))))

  pub stage_wide : Wide W (apply_stage S p)
  unfolding apply_stage
  stage_wide = each_tabulate _ (length p) _ (λ y h. rw length_tabulate (each_get_d _ p y [] e h))

  -- what holds of each pixel holds of each pixel of the answer
  pub stage_each : (P : A → Type 0) → Each (Each P) p → Each (Each P) (apply_stage S p)
  unfolding apply_stage
  stage_each P a =
      each_tabulate _ (length p) _ (λ y h. each_tabulate _ (length (get_or p y [])) _ (λ x k.
      let w : x < W = omega (arith, each_get_d _ p y [] e h) in
      best_each S.order P (under S p y x)
      (flatten_pos _ (rw (length-map, length-drop, length-take) (omega arith)) (cut_pos y x w))
      (each_flatten P _ (each_map _ _ (rows_at S p y) (each_weaken _ _ (rows_at S p y) (λ r l. each_slice P (x - S.back) (x + S.ahead + 1) r l) (each_rows _ y a))))))

module _ {A : Type 0} where
  pub stage_length : (S : Stage A) (p : Picture A) → length (apply_stage S p) ≡ length p
  unfolding apply_stage
  stage_length S p = length_tabulate (length p) _

  pub plan_length : (Ss : List (Stage A)) (p : Picture A) → length (apply_plan Ss p) ≡ length p
  unfolding apply_plan
  plan_length [] p = refl
  plan_length (S ∷ Ss) p = plan_length Ss (apply_stage S p) ∙ stage_length S p

  pub plan_wide : (Ss : List (Stage A)) (W : ℕ) (p : Picture A) → Wide W p → Wide W (apply_plan Ss p)
  unfolding apply_plan
  plan_wide [] W p e = e
  plan_wide (S ∷ Ss) W p e = plan_wide Ss W (apply_stage S p) (stage_wide S W p e)

  -- what holds of each pixel of a picture holds of each pixel that a plan makes of it
  pub plan_each : (Ss : List (Stage A)) (W : ℕ) (p : Picture A) → Wide W p → (P : A → Type 0) → Each (Each P) p → Each (Each P) (apply_plan Ss p)
  unfolding apply_plan
  plan_each [] W p e P h = h
  plan_each (S ∷ Ss) W p e P h = plan_each Ss W (apply_stage S p) (stage_wide S W p e) P (stage_each S W p e P h)

  pub plan_append : (Ss Ts : List (Stage A)) (p : Picture A) → apply_plan (Ss ++ Ts) p ≡ apply_plan Ts (apply_plan Ss p)
  unfolding apply_plan
  plan_append [] Ts p = refl
  plan_append (S ∷ Ss) Ts p = plan_append Ss Ts (apply_stage S p)

  -- the alternate sequential filter of order n has 4n stages
  pub alternating_length : (O : Order A) (n : ℕ) → length (alternating O n) ≡ 4 * n
  unfolding alternating
  alternating_length O zero = refl
  alternating_length O (suc n) = rw (length-append, length-append) (omega (arith, alternating_length O n))

  -- ---- what a row of the answer rests on

  -- the first n rows of a stage's answer rest on its first n + below rows
  pub stage_prefix : (S : Stage A) (n : ℕ) (p : Picture A) → take n (apply_stage S p) ≡ take n (apply_stage S (take (n + S.below) p))
  unfolding apply_stage
  stage_prefix S n p =
      let m = n + S.below in
      let e : min n (min m (length p)) ≡ min n (length p) = omega arith in
      rw (take_tabulate n (length p), take_tabulate, length-take, e)
      (tabulate_ext (min n (length p)) _ _ (λ y h. rw (get_or-take m p y [] (omega arith), take-take (y + S.below + 1) m p (omega arith))))

  pub plan_prefix : (Ss : List (Stage A)) (n : ℕ) (p : Picture A) → take n (apply_plan Ss p) ≡ take n (apply_plan Ss (take (n + look_ahead_of Ss) p))
  unfolding apply_plan look_ahead_of
  plan_prefix [] n p = rw (add-zero, take-take n n p (omega arith))
  plan_prefix (S ∷ Ss) n p =
      let m = n + look_ahead_of Ss in
      let e : n + (S.below + look_ahead_of Ss) ≡ m + S.below = omega arith in
      cc (plan_prefix Ss n (apply_stage S p), stage_prefix S m p, plan_prefix Ss n (apply_stage S (take (m + S.below) p)))

  -- and so on any rows that have those
  pub plan_rests : (Ss : List (Stage A)) (n m : ℕ) (p : Picture A) → n + look_ahead_of Ss ≤ m → take n (apply_plan Ss p) ≡ take n (apply_plan Ss (take m p))
  plan_rests Ss n m p h = cc (plan_prefix Ss n p, plan_prefix Ss n (take m p), take-take (n + look_ahead_of Ss) m p h)

  pub plan_row : (Ss : List (Stage A)) (y m : ℕ) (p : Picture A) → y + look_ahead_of Ss < m → get_or (apply_plan Ss p) y [] ≡ get_or (apply_plan Ss (take m p)) y []
  plan_row Ss y m p h =
      let t = get_or-take (suc y) (apply_plan Ss p) y [] (omega arith) in
      let u = get_or-take (suc y) (apply_plan Ss (take m p)) y [] (omega arith) in
      cc (plan_rests Ss (suc y) m p (omega arith))
