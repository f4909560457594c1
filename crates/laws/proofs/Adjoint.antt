-- Where one picture is nowhere above another: the two stages of a rectangle, plans, two dilations, and openings one within the other.
-- By which idea: δ and ε being the dilation and the erosion by one rectangle, δ p is nowhere above q exactly where p is nowhere above ε q. For the rectangle is reflected, so the one's window at a place reaches another place exactly where the other's window there reaches back, also at the edge.
-- In the order turned round an erosion is a dilation by the reflected rectangle, and a closing an opening: what is shown of dilations and openings over any order holds of erosions and closings.
use mathlib.Core.Path.{◌≡◌, refl}
use mathlib.Core.List.{List, [], ◌∷◌, map}
use Prim.Native.Nat.{ℕ, ◌+◌, ◌-◌, ◌≤◌, ◌<◌, min, max}
use native.Mathlib.Omega.{arith}
use Rattle.morph.specs.declared.Kind.{Kind}
use Rattle.morph.specs.declared.Kind.TheVariants.{Erosion, Dilation}
use Rattle.morph.specs.Order.{Order, order_of}
use Rattle.morph.specs.Picture.{Picture, pixel_at, stage_of, erosion, dilation, opening, closing, apply_stage, apply_plan}
use Rattle.morph.proofs.Line.{le_refl}
use Rattle.plan_record.specs.declared.Stage.{Stage as StageRecord}
use Rattle.plan_record.specs.Plan.{filter_of, opening_stages}
use Rattle.laws.specs.Laws.{Sized, Below}
use Rattle.laws.proofs.Stage.{sized_stage, sized_plan, stage_over, stage_under}

abbrev pub turned : {A : Type 0} → Order A → Order A
turned O = order_of Erosion O

-- both by definition; proofs below use it without a word
module _ {A : Type 0} (O : Order A) (a b c d : ℕ) where
  pub erosion_turned : erosion O a b c d ≡ dilation (turned O) b a d c
  erosion_turned = refl

  pub closing_turned : closing O a b c d ≡ opening (turned O) b a d c
  closing_turned = refl

module _ {A : Type 0} (O : Order A) (W H : ℕ) where
  pub below_refl : (p : Picture A) → Below O W H p p
  below_refl p y x h k = le_refl O (pixel_at O p y x)

  pub below_trans : (p q r : Picture A) → Below O W H p q → Below O W H q r → Below O W H p r
  below_trans p q r f g y x h k = O.trans _ _ _ (f y x h k) (g y x h k)

-- ---- the adjoint pair: either way

module _ {A : Type 0} (O : Order A) (W H a b c d : ℕ) (p q : Picture A) (z : Sized W H p) (w : Sized W H q) where
  pub adjoint_from : Below O W H p (apply_stage (erosion O a b c d) q) → Below O W H (apply_stage (dilation O a b c d) p) q
  adjoint_from f y x h k =
      stage_under (dilation O a b c d) W H p z _ y x h k
      (λ y' x' r. O.trans _ _ _ (f y' x' r.0 r.1) (stage_over (erosion O a b c d) W H q w y' x' r.0 r.1 y x (h, k, r.3, r.2, r.5, r.4)))

module _ {A : Type 0} (O : Order A) (W H a b c d : ℕ) (p q : Picture A) (z : Sized W H p) (w : Sized W H q) where
  pub adjoint_to : Below O W H (apply_stage (dilation O a b c d) p) q → Below O W H p (apply_stage (erosion O a b c d) q)
  adjoint_to f = adjoint_from (turned O) W H b a d c q p w z f

-- "the opened picture is nowhere above the input and the closed one nowhere below"
module _ {A : Type 0} (O : Order A) (W H a b c d : ℕ) (p : Picture A) (z : Sized W H p) where
  pub opened_below : Below O W H (apply_plan (opening O a b c d) p) p
  unfolding apply_plan
  opened_below =
      let e = apply_stage (erosion O a b c d) p in
      adjoint_from O W H a b c d e p (sized_stage W H (erosion O a b c d) p z) z (below_refl O W H e)

module _ {A : Type 0} (O : Order A) (W H a b c d : ℕ) (p : Picture A) (z : Sized W H p) where
  pub closed_above : Below O W H p (apply_plan (closing O a b c d) p)
  closed_above = opened_below (turned O) W H b a d c p z

-- ---- "an input nowhere above another gives an output nowhere above, for every plan"

module _ {A : Type 0} (O : Order A) (W H a b c d : ℕ) (p q : Picture A) (z : Sized W H p) (w : Sized W H q) where
  dilation_monotone : Below O W H p q → Below O W H (apply_stage (dilation O a b c d) p) (apply_stage (dilation O a b c d) q)
  unfolding apply_plan
  dilation_monotone f =
      let e = apply_stage (dilation O a b c d) q in
      adjoint_from O W H a b c d p e z (sized_stage W H (dilation O a b c d) q w) (below_trans O W H p q (apply_plan (closing O a b c d) q) f (closed_above O W H a b c d q w))

module _ {A : Type 0} (O : Order A) (W H : ℕ) where
  stage_monotone : (kind : Kind) (a b c d : ℕ) (p q : Picture A) → Sized W H p → Sized W H q → Below O W H p q
      → Below O W H (apply_stage (stage_of O kind a b c d) p) (apply_stage (stage_of O kind a b c d) q)
  stage_monotone Dilation a b c d p q z w f = dilation_monotone O W H a b c d p q z w f
  stage_monotone Erosion a b c d p q z w f = dilation_monotone (turned O) W H b a d c q p w z f

  pub stages_monotone : (ss : List StageRecord) (p q : Picture A) → Sized W H p → Sized W H q → Below O W H p q
      → Below O W H (apply_plan (map (filter_of O) ss) p) (apply_plan (map (filter_of O) ss) q)
  unfolding apply_plan
  stages_monotone [] p q z w f = f
  stages_monotone (s ∷ ss) p q z w f =
      stages_monotone ss (apply_stage (filter_of O s) p) (apply_stage (filter_of O s) q) (sized_stage W H (filter_of O s) p z) (sized_stage W H (filter_of O s) q w)
      (stage_monotone s.kind s.left s.right s.up s.down p q z w f)

-- ---- a dilation followed by another

-- of a line's places x and x'' that two windows together bridge: a place of the line between them that each window bridges the way to
between : (n x x'' a b a' b' : ℕ) → x < n → x'' < n → x ≤ x'' + (b + b') → x'' ≤ x + (a + a')
    → (x' : ℕ) × (x' < n) × (x ≤ x' + b') × (x' ≤ x + a') × (x' ≤ x'' + b) × (x'' ≤ x' + a)
between n x x'' a b a' b' h k p q = (max (x - b') (min x'' (x + a')), omega arith, omega arith, omega arith, omega arith, omega arith)

module _ {A : Type 0} (O : Order A) (W H a b c d a' b' c' d' : ℕ) (p : Picture A) (z : Sized W H p) where
  pub two_below_one : Below O W H (apply_stage (dilation O a' b' c' d') (apply_stage (dilation O a b c d) p)) (apply_stage (dilation O (a + a') (b + b') (c + c') (d + d')) p)
  two_below_one y x h k =
      stage_under (dilation O a' b' c' d') W H (apply_stage (dilation O a b c d) p) (sized_stage W H (dilation O a b c d) p z) _ y x h k
      (λ y' x' r. stage_under (dilation O a b c d) W H p z _ y' x' r.0 r.1
      (λ y'' x'' s. stage_over (dilation O (a + a') (b + b') (c + c') (d + d')) W H p z y x h k y'' x''
      (s.0, s.1, omega (arith, r.2, s.2), omega (arith, r.3, s.3), omega (arith, r.4, s.4), omega (arith, r.5, s.5))))

  pub one_below_two : Below O W H (apply_stage (dilation O (a + a') (b + b') (c + c') (d + d')) p) (apply_stage (dilation O a' b' c' d') (apply_stage (dilation O a b c d) p))
  one_below_two y x h k =
      stage_under (dilation O (a + a') (b + b') (c + c') (d + d')) W H p z _ y x h k
      (λ y'' x'' r.
      let (x', i, l, m, n, o) = between W x x'' a b a' b' k r.1 r.2 r.3 in
      let (y', j, s, t, u, v) = between H y y'' c d c' d' h r.0 r.4 r.5 in
      O.trans _ _ _ (stage_over (dilation O a b c d) W H p z y' x' j i y'' x'' (r.0, r.1, n, o, u, v))
      (stage_over (dilation O a' b' c' d') W H (apply_stage (dilation O a b c d) p) (sized_stage W H (dilation O a b c d) p z) y x h k y' x' (j, i, l, m, s, t)))

-- ---- an opening after one by a larger rectangle

module _ {A : Type 0} (O : Order A) (W H a b c d a' b' c' d' : ℕ) (p : Picture A) (z : Sized W H p) where
  abbrev after : List StageRecord → Picture A → Picture A
  after ss q = apply_plan (map (filter_of O) ss) q

  -- what is opened by a rectangle was dilated by one part of it and then by the rest; and what was dilated by the rest is nowhere above itself opened by the rest
  opened_stays : Below O W H (apply_plan (opening O (a + a') (b + b') (c + c') (d + d')) p)
      (apply_plan (opening O a' b' c' d') (apply_plan (opening O (a + a') (b + b') (c + c') (d + d')) p))
  unfolding apply_plan
  opened_stays =
      let e = apply_stage (erosion O (a + a') (b + b') (c + c') (d + d')) p in
      let w = sized_stage W H (erosion O (a + a') (b + b') (c + c') (d + d')) p z in
      let r = apply_stage (dilation O a b c d) e in
      let v = sized_stage W H (dilation O a b c d) e w in
      let two = apply_stage (dilation O a' b' c' d') r in
      let one = after (opening_stages (a + a') (b + b') (c + c') (d + d')) p in
      let rest = opening_stages a' b' c' d' in
      below_trans O W H one two (after rest one) (one_below_two O W H a b c d a' b' c' d' e w)
      (below_trans O W H two (after rest two) (after rest one)
      (dilation_monotone O W H a' b' c' d' r (apply_plan (closing O a' b' c' d') r) v (sized_plan W H (closing O a' b' c' d') r v) (closed_above O W H a' b' c' d' r v))
      (stages_monotone O W H rest two one (sized_stage W H (dilation O a' b' c' d') r v) (sized_plan W H (opening O (a + a') (b + b') (c + c') (d + d')) p z) (two_below_one O W H a b c d a' b' c' d' e w)))

module _ {A : Type 0} (O : Order A) (W H a b c d a' b' c' d' : ℕ) (h : a' ≤ a) (i : b' ≤ b) (j : c' ≤ c) (k : d' ≤ d) (p : Picture A) (z : Sized W H p) where
  -- a picture that was opened by a rectangle is nowhere above itself opened by one within it
  pub opened_within : Below O W H (apply_plan (opening O a b c d) p) (apply_plan (opening O a' b' c' d') (apply_plan (opening O a b c d) p))
  opened_within =
      let e : a - a' + a' ≡ a = omega arith in
      let f : b - b' + b' ≡ b = omega arith in
      let g : c - c' + c' ≡ c = omega arith in
      let l : d - d' + d' ≡ d = omega arith in
      rw (e, f, g, l) at (opened_stays O W H (a - a') (b - b') (c - c') (d - d') a' b' c' d' p z)

  -- the larger the rectangle, the less is left: for sizes of pits, no proof here uses it
  pub opening_shrinks : Below O W H (apply_plan (opening O a b c d) p) (apply_plan (opening O a' b' c' d') p)
  opening_shrinks =
      let q = apply_plan (opening O a b c d) p in
      below_trans O W H q (apply_plan (opening O a' b' c' d') q) (apply_plan (opening O a' b' c' d') p) opened_within
      (stages_monotone O W H (opening_stages a' b' c' d') q p (sized_plan W H (opening O a b c d) p z) z (opened_below O W H a b c d p z))

module _ {A : Type 0} (O : Order A) (W H a b c d : ℕ) (p : Picture A) (z : Sized W H p) where
  pub opened_again : Below O W H (apply_plan (opening O a b c d) p) (apply_plan (opening O a b c d) (apply_plan (opening O a b c d) p))
  opened_again = opened_within O W H a b c d a b c d (omega arith) (omega arith) (omega arith) (omega arith) p z
