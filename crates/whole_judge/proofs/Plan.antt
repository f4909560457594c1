-- A stage of a plan applied to a whole picture, and then a plan, stage by stage: what is left of it, applied to what there is, is the whole of it applied to what there was.
use mathlib.Core.Path.{◌≡◌, refl, sym, ap, ◌∙◌}
use mathlib.Core.List.{List, ◌∷◌, map, flatten}
use Prim.Native.Nat.{ℕ, suc, ◌+◌, ◌*◌, ◌≤◌, ◌<◌}
use native.Mathlib.Numerals.{add-one}
use native.Mathlib.Omega.{arith}
use lib.ListN.{length, drop, get_or, length-take, drop_of_length-le}
use lib.Seq.{drop-cons, get_or-take}
use Rattle.morph.specs.Lists.{Each}
use Rattle.morph.specs.Order.{Order, order_of, reach_back, ahead_of}
use Rattle.morph.specs.Picture.{Picture, apply_stage, apply_plan}
use Rattle.sample.specs.Samples.{Samples}
use Rattle.plan_record.specs.declared.Stage.{Stage}
use Rattle.plan_record.specs.declared.Plan.{Plan}
use Rattle.plan_record.specs.Plan.{filter_of, stages_of, used}
use Rattle.laws.specs.Laws.{Told}
use Rattle.passes.specs.Flat.{flat_rows, UsedUpTo}
use Rattle.passes.specs.Inner.{Reached, ThenBack, Crossed}
use Rattle.passes.proofs.Flat.{crossed_each, reached_all, stage_done}
use Rattle.passes.proofs.Rows.{told_of, unused, flatten_rows}
use Rattle.whole_judge.specs.Whole.{Changes}
use Rattle.whole_judge.specs.Inner.{Applied}

-- ---- a stage

module _ {A : Type 0} (O : Order A) (P : A → Type 0) (told : Told O P) (s : Stage) (W H : ℕ) (xs row row' zs : List A) (n : length xs ≡ H * W) (all : Each P xs) where
  -- the extents as the code hands them on
  module _ (b f a d : ℕ) (eb : b ≡ reach_back s.kind s.left s.right) (ef : f ≡ ahead_of s.kind s.left s.right) (ea : a ≡ reach_back s.kind s.up s.down) (ed : d ≡ ahead_of s.kind s.up s.down)
      (c : Crossed (order_of s.kind O) W H b f xs zs × UsedUpTo W row row') where
    pub stage_crossed : Each P zs
    stage_crossed = crossed_each (order_of s.kind O) P W H b f xs zs n all c.0

    pub stage_applied : (ms ys : List A) → Reached (order_of s.kind O) W 0 d zs ms → ThenBack (order_of s.kind O) P W a d ms ys → Applied P (apply_stage (filter_of O s)) W H xs row ys row'
    stage_applied ms ys r t =
        let w = t zs stage_crossed r in
        record {
          rows = stage_done (filter_of O s) P (told_of O P told s.kind) W H xs n all zs (rw (← eb, ← ef) c.0) ys (rw (← ea, ← ed) w);
          fine = reached_all (order_of s.kind O) P W a d zs ys stage_crossed w;
          used = c.1;
        }

-- ---- a plan

module _ {A : Type 0} (O : Order A) (plan : Plan) (p : Picture A) where
  abbrev Left : ℕ → Picture A → Type 0
  Left i q = apply_plan (map (filter_of O) (drop i (used plan))) q ≡ apply_plan (stages_of O plan) p

  left_start : Left 0 p
  left_start = refl

  left_next : (i : ℕ) (d : Stage) (q q' : Picture A) → i < plan.count → i < length plan.stages → Left i q → q' ≡ apply_stage (filter_of O (get_or plan.stages i d)) q → Left (i + 1) q'
  unfolding apply_plan
  left_next i d q q' h n e f =
      let g : drop i (used plan) ≡ get_or plan.stages i d ∷ drop (suc i) (used plan) =
      drop-cons (used plan) i d (rw length-take (omega arith)) ∙ ap (λ s. s ∷ drop (suc i) (used plan)) (get_or-take plan.count plan.stages i d h) in
      rw (add-one, f) (rw g at e)

  left_end : (i : ℕ) (q : Picture A) → plan.count ≤ i → Left i q → q ≡ apply_plan (stages_of O plan) p
  unfolding apply_plan
  left_end i q h e = rw (drop_of_length-le (used plan) {i = i} (rw length-take (omega arith))) at e

-- so much of the plan is applied
module _ {A : Type 0} (O : Order A) (P : A → Type 0) (plan : Plan) (W H : ℕ) (xs row : List A) where
  pub record Applying (i : ℕ) (ys row' : List A) : Type 0 where
    pub within : i ≤ plan.count
    pub left : Left O plan (flat_rows W H xs) i (flat_rows W H ys)
    pub long : length ys ≡ length xs
    pub fine : Each P ys
    pub used : UsedUpTo W row row'

  pub applying_start : Each P xs → Applying 0 xs row
  applying_start all = record { within = omega arith; left = left_start O plan (flat_rows W H xs); long = refl; fine = all; used = unused W row }

  module _ (i : ℕ) (ys row' : List A) (a : Applying i ys row') where
    pub applying_next : (d : Stage) (zs row'' : List A) → i < plan.count → i < length plan.stages → length zs ≡ length ys → Applied P (apply_stage (filter_of O (get_or plan.stages i d))) W H ys row' zs row'' → Applying (i + 1) zs row''
    applying_next d zs row'' h n l b = record {
      within = omega arith;
      left = left_next O plan (flat_rows W H xs) i d _ _ h n a.left b.rows;
      long = l ∙ a.long;
      fine = b.fine;
      used = record { long = b.used.long ∙ a.used.long; past = b.used.past ∙ a.used.past };
    }

    pub applying_end : plan.count ≤ i → Applied P (apply_plan (stages_of O plan)) W H xs row ys row'
    applying_end h = record { rows = left_end O plan (flat_rows W H xs) i _ h a.left; fine = a.fine; used = a.used }

-- ---- what a call leaves

pub changes : {A : Type 0} (K : Samples A) (P : A → Type 0) (plan : Plan) (W H : ℕ) (picture xs row ys row' : List A) → xs ≡ map K.taken picture → length ys ≡ H * W
    → Applied P (apply_plan (stages_of K.order plan)) W H xs row ys row' → Changes K (stages_of K.order plan) W H picture row ys row'
changes K P plan W H picture xs row ys row' e n a = record { filtered = sym (flatten_rows W H ys n) ∙ ap flatten (a.rows ∙ ap (λ l. apply_plan (stages_of K.order plan) (flat_rows W H l)) e); used = a.used }
