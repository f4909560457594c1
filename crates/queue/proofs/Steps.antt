-- A step with the code's own comparison, over a line of accepted pixels: the queue of a run goes to the next, at document 01's comparisons.
use Rattle.std.proofs.Common.{◌≡◌, sym, ◌∙◌, true, List, ℕ, suc, ◌<◌, length, get_or}
use Rattle.morph.specs.declared.Kind.{Kind}
use Rattle.morph.specs.Order.{Order, order_of}
use Rattle.morph.specs.Lists.{Each}
use Rattle.morph.specs.Line.{queue, line_cost}
use Rattle.morph.specs.Inner.{stepped, step_cost}
use Rattle.morph.proofs.Lists.{each_in, each_get_d}
use Rattle.morph.proofs.Line.{queue_sound, cost_read}
use Rattle.morph.proofs.Step.{step_read, step_cost_law}
use Rattle.sample.specs.Samples.{Samples}

module _ {A : Type 0} (K : Samples A) (kind : Kind) (xs : List A) (good : Each (λ a. K.good a ≡ true) xs) (w : ℕ) (t : ℕ) (v : A) (l : t < length xs) (e : v ≡ get_or xs t K.order.blank) where
  abbrev O : Order A
  O = order_of kind K.order

  -- the code's comparison is the order's, on a queue of accepted pixels
  agreed : Each (λ r. K.passes kind v r.value ≡ O.le r.value v) (queue O w xs t)
  agreed =
      each_in (queue O w xs t) (λ r i.
      let s = queue_sound O w xs t r i in
      K.agrees kind v r.value (rw e (each_get_d _ xs t K.order.blank good l)) (rw s.value (each_get_d _ xs r.position K.order.blank good s.read)))

  pub next_queue : 0 < w → stepped (K.passes kind v) w t v (queue O w xs t) ≡ queue O w xs (suc t)
  next_queue h = step_read O w xs t (K.passes kind v) v agreed h l e

  pub next_cost : step_cost (K.passes kind v) (queue O w xs t) ≡ line_cost O w xs t
  next_cost = step_cost_law O w xs t (K.passes kind v) v agreed ∙ rw e (sym (cost_read O w xs t l))
