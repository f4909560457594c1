-- A step's comparisons and the row that comes out of it rest on the rows up to the step's own: whatever rows come after, they stay. By which idea: a stage's first rows rest on the rows below them that it has read.
use mathlib.Core.Path.{◌≡◌, refl, sym, ap, ◌∙◌}
use mathlib.Core.List.{List, [], ◌∷◌}
use Prim.Native.Nat.{ℕ, ◌+◌, ◌-◌, ◌<◌, min}
use native.Mathlib.Omega.{arith}
use borrow.Author.Tests.{leb-true, ltb-true, ltb-false, lt-ltb}
use lib.Dec.{leb, ltb}
use lib.ListN.{length, take, length-take}
use lib.Seq.{get_or-take, take-take, take_all}
use Rattle.morph.specs.Order.{Order}
use Rattle.morph.specs.Line.{queue, line_cost, output_at}
use Rattle.morph.specs.Picture.{Picture, Stage, apply_stage, look_ahead_of, row_at, across, column}
use Rattle.morph.specs.Plan.{window, stage_cost, plan_cost}
use Rattle.morph.proofs.Lists.{split, take_map, sum_to_same}
use Rattle.morph.proofs.Picture.{stage_prefix, plan_row}

line_cost_rests : {A : Type 0} (O : Order A) (w : ℕ) (xs : List A) (s m : ℕ) → s < m → line_cost O w xs s ≡ line_cost O w (take m xs) s
unfolding line_cost queue
line_cost_rests O w xs s m h =
    split (ltb s (length xs))
    (λ p. let l = ltb-true s (length xs) p in rw (length-take m xs, p, lt-ltb s (min m (length xs)) (omega arith), get_or-take m xs s O.blank h, take-take s m xs (omega arith)))
    (λ p. let l = ltb-false s (length xs) p in rw (take_all m xs (omega arith)))

module _ {A : Type 0} where
  column_take : (S : Stage A) (x m : ℕ) (p : Picture A) → column S x (across S (take m p)) ≡ take m (column S x (across S p))
  unfolding across
  column_take S x m p = simp take_map

  stage_cost_rests : (S : Stage A) (W : ℕ) (p : Picture A) (s m : ℕ) → s < m → stage_cost S W p s ≡ stage_cost S W (take m p) s
  unfolding stage_cost
  stage_cost_rests S W p s m h =
      let d = sum_to_same W (λ x. line_cost S.order (window S) (column S x (across S p)) s) (λ x. line_cost S.order (window S) (column S x (across S (take m p))) s)
      (λ x _. line_cost_rests S.order (window S) (column S x (across S p)) s m h ∙ ap (λ l. line_cost S.order (window S) l s) (sym (column_take S x m p))) in
      split (ltb s (length p))
      (λ a. let l = ltb-true s (length p) a in rw (length-take m p, a, lt-ltb s (min m (length p)) (omega arith), get_or-take m p s [] h, d))
      (λ a. let l = ltb-false s (length p) a in rw (take_all m p (omega arith)))

  pub plan_cost_rests : (Ss : List (Stage A)) (W : ℕ) (p : Picture A) (t m : ℕ) → t < m → plan_cost Ss W p t ≡ plan_cost Ss W (take m p) t
  unfolding plan_cost
  plan_cost_rests [] W p t m h = refl
  plan_cost_rests (S ∷ Ss) W p t m h =
      let a = stage_cost_rests S W p t m h in
      split (leb S.below t)
      (λ b.
      let l = leb-true S.below t b in
      let n = m - S.below in
      let e : m - S.below + S.below ≡ m = omega arith in
      let i = plan_cost_rests Ss W (apply_stage S p) (t - S.below) n (omega arith) in
      let j = plan_cost_rests Ss W (apply_stage S (take m p)) (t - S.below) n (omega arith) in
      let k : take n (apply_stage S p) ≡ take n (apply_stage S (take m p)) = rw e at (stage_prefix S n p) in
      rw (b, a, i, k, ← j))
      (λ b. rw (b, a))

  -- of a step that reads a row
  pub row_rests : (Ss : List (Stage A)) (p : Picture A) (t m : ℕ) → t < m → t < length p → row_at Ss p t ≡ row_at Ss (take m p) t
  unfolding row_at output_at
  row_rests Ss p t m h l =
      split (leb (look_ahead_of Ss) t)
      (λ b.
      let d = leb-true (look_ahead_of Ss) t b in
      rw (b, length-take m p, lt-ltb (t - look_ahead_of Ss) (length p) (omega arith), lt-ltb (t - look_ahead_of Ss) (min m (length p)) (omega arith), plan_row Ss (t - look_ahead_of Ss) m p (omega arith)))
      (λ b. rw b)
