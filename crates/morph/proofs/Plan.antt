-- The laws of a plan's queues, step by step, and of what its steps cost.
use mathlib.Core.Path.{◌≡◌, ap, ◌∙◌}
use mathlib.Core.Bool.{cond}
use mathlib.Core.List.{List, [], ◌∷◌, ◌++◌}
use Prim.Native.Nat.{ℕ, zero, suc, ◌+◌, ◌-◌, ◌*◌, ◌≤◌, ◌<◌, min}
use native.Mathlib.Nat.{le_of_lt, mul-zero, mul-le-mul_right}
use native.Mathlib.Omega.{arith}
use borrow.Author.Tests.{leb-true, leb-false, ltb-true, ltb-false, lt-ltb, le-ltb}
use lib.Dec.{leb, ltb}
use lib.ListN.{length, take, get_or, length-take, length-map, get_or-map}
use lib.Seq.{take-take}
use Rattle.morph.specs.Lists.{sum_to}
use Rattle.morph.specs.Line.{filter_line, front, queue, aged, unpassed, line_cost, line_costs}
use Rattle.morph.specs.Picture.{Picture, Wide, Stage, apply_stage, apply_plan, look_ahead_of, across, column}
use Rattle.morph.specs.Plan.{window, column_queue, plan_queue, stage_cost, plan_cost, stage_bound}
use Rattle.morph.proofs.Lists.{split, get_d_tabulate, each_get_d, take_map, sum_to_add, sum_to_le, sum_to_later}
use Rattle.morph.proofs.Line.{output_front, queue_read, queue_drain, cost_drain, costs_bound}
use Rattle.morph.proofs.Picture.{pixel, stage_wide, stage_length, plan_rests}

module _ {A : Type 0} (S : Stage A) where
  -- a stage's answer at (x, y) is the front of column x after its step y + below
  pub stage_front : (W : ℕ) (p : Picture A) → Wide W p → (y x : ℕ) (d : A) → y < length p → x < W → get_or (get_or (apply_stage S p) y []) x d ≡ front S.order (column_queue S x p (y + S.below + 1))
  unfolding apply_stage column_queue
  stage_front W p e y x d h k =
      let l : length (get_or p y []) ≡ W = each_get_d _ p y [] e h in
      let m : x < length (get_or p y []) = omega arith in
      rw (get_d_tabulate, get_d_tabulate) (pixel S W p e y x k ∙ output_front _ _ _ _ y)

  module _ (x : ℕ) (p : Picture A) (s : ℕ) where
    -- what column x reads at step s: the across-result of row s
    pub across_at : get_or (column S x (across S p)) s S.order.blank ≡ get_or (filter_line S.order S.back S.ahead (get_or p s [])) x S.order.blank
    unfolding across filter_line
    across_at =
        get_or-map (λ r. get_or r x S.order.blank) (across S p) s [] ∙ ap (λ r. get_or r x S.order.blank) (get_or-map (filter_line S.order S.back S.ahead) p s [])

    pub column_length : length (column S x (across S p)) ≡ length p
    unfolding across
    column_length = simp length-map

    pub column_read : (a : A) → s < length p → a ≡ get_or (filter_line S.order S.back S.ahead (get_or p s [])) x S.order.blank
        → column_queue S x p (suc s) ≡ aged (suc s - (window S)) (unpassed S.order a (column_queue S x p s)) ++ (record { value = a; position = s } ∷ [])
    unfolding column_queue
    column_read a h e = rw (e, ← across_at) (queue_read S.order _ _ s (omega arith) (rw column_length h))

    pub column_drain : length p ≤ s → column_queue S x p (suc s) ≡ aged (suc s - (window S)) (column_queue S x p s)
    unfolding column_queue
    column_drain h = queue_drain S.order _ _ s (rw column_length h)

    -- the queue rests on the rows read
    pub column_prefix : column_queue S x p s ≡ column_queue S x (take s p) s
    unfolding column_queue queue across
    column_prefix = simp (take_map, take-take s s p (omega arith))

  pub plan_queue_rests : (before : List (Stage A)) (x : ℕ) (p : Picture A) (t : ℕ) → t ≤ length p → plan_queue before S x p t ≡ plan_queue before S x (take t p) t
  unfolding plan_queue
  plan_queue_rests before x p t h =
      let D = look_ahead_of before in
      let e : min (t - D) (length p + S.below) ≡ t - D = omega arith in
      let f : min (t - D) (length (take t p) + S.below) ≡ t - D = rw length-take (omega arith) in
      let r : take (t - D) (apply_plan before p) ≡ take (t - D) (apply_plan before (take t p)) =
      split (leb D t) (λ l. plan_rests before (t - D) t p (omega (arith, leb-true))) (λ l. let z : t - D ≡ 0 = omega (arith, leb-false) in rw z) in
      rw (e, f) (cc (column_prefix x (apply_plan before p) (t - D), column_prefix x (apply_plan before (take t p)) (t - D)))

  -- ---- what a stage costs over a picture

  module _ (W : ℕ) (p : Picture A) (e : Wide W p) where
    stage_costs : (n : ℕ) → n ≤ length p → sum_to n (stage_cost S W p) ≤ n * (2 * W - 2) + sum_to W (λ x. line_costs S.order (window S) (column S x (across S p)) n)
    unfolding stage_cost
    stage_costs zero h = omega arith
    stage_costs (suc n) h =
        let w = window S in
        let a = sum_to_add W (λ x. line_costs S.order w (column S x (across S p)) n) (λ x. line_cost S.order w (column S x (across S p)) n) in
        let l : length (get_or p n []) ≡ W = each_get_d _ p n [] e h in
        rw (lt-ltb n (length p) h) (omega (arith, stage_costs n (le_of_lt h), costs_bound S.order (S.back + S.ahead + 1) (get_or p n []) (omega arith) W))

    -- a stage's step that reads no row costs nothing
    pub stage_cost_drain : (s : ℕ) → length p ≤ s → stage_cost S W p s ≡ 0
    unfolding stage_cost
    stage_cost_drain s h =
        let z = sum_to_le W 0 (λ x. line_cost S.order (window S) (column S x (across S p)) s) (λ x k. rw (cost_drain S.order (window S) (column S x (across S p)) s (rw column_length h)) (omega arith)) in
        rw (le-ltb s (length p) h) (omega (arith, mul-zero W))

    -- over any number of steps
    pub stage_costs_bound : (n : ℕ) → sum_to n (stage_cost S W p) ≤ stage_bound W (length p)
    stage_costs_bound zero = omega arith
    stage_costs_bound (suc n) =
        split (ltb n (length p))
        (λ t.
        let h = ltb-true n (length p) t in
        let b = sum_to_le W (2 * length p - 2) (λ x. line_costs S.order (window S) (column S x (across S p)) (suc n))
        (λ x k. rw column_length at (costs_bound S.order (window S) (column S x (across S p)) (omega arith) (suc n))) in
        omega (arith, stage_costs (suc n) h, mul-le-mul_right (2 * W - 2) h))
        (λ t. omega (arith, stage_costs_bound n, stage_cost_drain n (ltb-false n (length p) t)))

-- a whole plan's steps, over any number of them: at most the sum of that over its stages
pub plan_costs_bound : {A : Type 0} (Ss : List (Stage A)) (W : ℕ) (p : Picture A) → Wide W p → (n : ℕ) → sum_to n (plan_cost Ss W p) ≤ length Ss * stage_bound W (length p)
unfolding plan_cost
plan_costs_bound [] W p e n = omega (arith, sum_to_le n 0 (λ t. 0) (λ k h. omega arith), mul-zero n)
plan_costs_bound (S ∷ Ss) W p e n =
    let i = plan_costs_bound Ss W (apply_stage S p) (stage_wide S W p e) (n - S.below) in
    let a = sum_to_add n (stage_cost S W p) (λ t. cond (leb S.below t) (plan_cost Ss W (apply_stage S p) (t - S.below)) 0) in
    rw (a, sum_to_later n S.below (plan_cost Ss W (apply_stage S p))) (omega (arith, stage_costs_bound S W p e n, rw stage_length at i))
