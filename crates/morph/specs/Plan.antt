-- What the queues of a plan hold after some steps, and what a step costs.
use Rattle.std.specs.Prelude.{cond, List, [], ◌∷◌, ℕ, ◌+◌, ◌-◌, ◌*◌, min, ltb, leb, length, get_or}
use Rattle.morph.specs.Lists.{sum_to}
use Rattle.morph.specs.Line.{Entry, queue, line_cost, line_costs}
use Rattle.morph.specs.Picture.{Picture, Stage, apply_stage, apply_plan, look_ahead_of, across, column}

module _ {A : Type 0} where
  -- the places of a column's queue, c + d + 1
  abbrev pub window : Stage A → ℕ
  window S = S.above + S.below + 1

  -- "Each column of a stage is a line of its own over that stage's across-results": its queue after s of the stage's own steps
  unfoldable pub column_queue : Stage A → ℕ → Picture A → ℕ → List (Entry A)
  column_queue S x p s = queue S.order (window S) (column S x (across S p)) s

  -- "A stage's own step is the plan's step less the F down of the stages before it; before its step 0 its queues are empty, and after its last, H-1+F, they stay as they are."
  -- The queue of column x after t steps of a plan over p, `before` being the stages before S.
  unfoldable pub plan_queue : List (Stage A) → Stage A → ℕ → Picture A → ℕ → List (Entry A)
  plan_queue before S x p t = column_queue S x (apply_plan before p) (min (t - look_ahead_of before) (length p + S.below))

  -- "A step's comparisons are the sum, over the stages that read a row in it, of those of that row's line and of the columns' steps."
  -- Of a stage's own step s over a picture of width W: of row s as a line, and of each column; none where no row is read
  unfoldable pub stage_cost : Stage A → ℕ → Picture A → ℕ → ℕ
  stage_cost S W p s =
      cond (ltb s (length p)) (line_costs S.order (S.back + S.ahead + 1) (get_or p s []) W) 0
      + sum_to W (λ x. line_cost S.order (window S) (column S x (across S p)) s)

  -- of a plan's step t
  unfoldable pub plan_cost : List (Stage A) → ℕ → Picture A → ℕ → ℕ
  plan_cost [] W p t = 0
  plan_cost (S ∷ Ss) W p t = stage_cost S W p t + cond (leb S.below t) (plan_cost Ss W (apply_stage S p) (t - S.below)) 0

-- "Over a picture W × H a stage takes at most H(2W-2) + W(2H-2) comparisons."
abbrev pub stage_bound : ℕ → ℕ → ℕ
stage_bound W H = H * (2 * W - 2) + W * (2 * H - 2)
