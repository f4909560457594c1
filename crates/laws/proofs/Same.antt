-- Equal pictures, of values that the order tells apart: an opening done again, and a dilation followed by another; and plans of which one may stand for the other.
-- By which idea: neither of two pictures is anywhere above the other.
use mathlib.Core.Path.{◌≡◌, sym, ap, ◌∙◌}
use mathlib.Core.List.{List, [], ◌∷◌, ◌++◌}
use Prim.Native.Nat.{ℕ, ◌+◌, ◌<◌}
use native.Mathlib.Omega.{arith}
use lib.ListN.{length, get_or}
use lib.Seq.{ext_get_or}
use Rattle.morph.specs.Lists.{Each}
use Rattle.morph.specs.Order.{Order}
use Rattle.morph.specs.Picture.{Picture, Stage, dilation, opening, apply_stage, apply_plan}
use Rattle.morph.proofs.Lists.{each_get_d}
use Rattle.morph.proofs.Picture.{plan_each, plan_append}
use Rattle.laws.specs.Laws.{Sized, Below, Told, TwiceIsOnce}
use Rattle.laws.proofs.Stage.{row_wide, sized_plan}
use Rattle.laws.proofs.Adjoint.{turned, opened_below, two_below_one, one_below_two, opened_again}

pub told_turned : {A : Type 0} (O : Order A) (P : A → Type 0) → Told O P → Told (turned O) P
told_turned O P told a b p q h k = told a b p q k h

-- a picture of W columns and H rows, of values of which P holds
pub record Good {A : Type 0} (W H : ℕ) (P : A → Type 0) (p : Picture A) : Type 0 where
  pub sized : Sized W H p
  pub each : Each (Each P) p

module _ {A : Type 0} (W H : ℕ) (P : A → Type 0) where
  pub good_plan : (Ss : List (Stage A)) (p : Picture A) → Good W H P p → Good W H P (apply_plan Ss p)
  good_plan Ss p g = record { sized = sized_plan W H Ss p g.sized; each = plan_each Ss W p g.sized.wide P g.each }

  -- stages that give the same as others may stand for them anywhere in a plan: for shorter plans, no proof here uses it
  pub plan_exchanged : (before Ss Ts after : List (Stage A)) → ((q : Picture A) → Good W H P q → apply_plan Ss q ≡ apply_plan Ts q)
      → (p : Picture A) → Good W H P p → apply_plan (before ++ Ss ++ after) p ≡ apply_plan (before ++ Ts ++ after) p
  plan_exchanged before Ss Ts after same p g =
      let cut : (Us : List (Stage A)) → apply_plan (before ++ Us ++ after) p ≡ apply_plan after (apply_plan Us (apply_plan before p)) =
      λ Us. plan_append (before ++ Us) after p ∙ ap (apply_plan after) (plan_append before Us p) in
      cut Ss ∙ ap (apply_plan after) (same (apply_plan before p) (good_plan before p g)) ∙ sym (cut Ts)

module _ {A : Type 0} (O : Order A) (W H : ℕ) (P : A → Type 0) (told : Told O P) where
  same_picture : (p q : Picture A) → Good W H P p → Good W H P q → Below O W H p q → Below O W H q p → p ≡ q
  same_picture p q g g' f f' =
      let z = g.sized in
      let w = g'.sized in
      ext_get_or [] p q (z.high ∙ sym w.high) (λ y h.
      let i : y < H = omega (arith, z.high) in
      let j : y < length q = omega (arith, w.high) in
      ext_get_or O.blank (get_or p y []) (get_or q y []) (row_wide W H p z y i ∙ sym (row_wide W H q w y i)) (λ x k.
      let l : x < W = omega (arith, row_wide W H p z y i) in
      let m : x < length (get_or q y []) = omega (arith, row_wide W H q w y i) in
      told _ _ (each_get_d P (get_or p y []) x _ (each_get_d (Each P) p y [] g.each h) k) (each_get_d P (get_or q y []) x _ (each_get_d (Each P) q y [] g'.each j) m) (f y x i l) (f' y x i l)))

  module _ (p : Picture A) (g : Good W H P p) where
    -- a plan of which the second time neither raises nor lowers what the first has left
    pub settled : (Ss : List (Stage A)) → Below O W H (apply_plan Ss (apply_plan Ss p)) (apply_plan Ss p) → Below O W H (apply_plan Ss p) (apply_plan Ss (apply_plan Ss p)) → TwiceIsOnce Ss p
    settled Ss f f' =
        let g' = good_plan W H P Ss p g in
        same_picture (apply_plan Ss (apply_plan Ss p)) (apply_plan Ss p) (good_plan W H P Ss (apply_plan Ss p) g') g' f f'

    -- "an opening done twice equals it done once"
    pub opening_twice : (a b c d : ℕ) → TwiceIsOnce (opening O a b c d) p
    opening_twice a b c d =
        settled (opening O a b c d) (opened_below O W H a b c d (apply_plan (opening O a b c d) p) (sized_plan W H (opening O a b c d) p g.sized))
        (opened_again O W H a b c d p g.sized)

    -- "a dilation followed by another equals a single one whose extents are the sums"
    pub dilation_twice : (a b c d a' b' c' d' : ℕ) → apply_stage (dilation O a' b' c' d') (apply_stage (dilation O a b c d) p) ≡ apply_stage (dilation O (a + a') (b + b') (c + c') (d + d')) p
    unfolding apply_plan
    dilation_twice a b c d a' b' c' d' =
        let two = dilation O a b c d ∷ dilation O a' b' c' d' ∷ [] in
        let one = dilation O (a + a') (b + b') (c + c') (d + d') ∷ [] in
        same_picture (apply_plan two p) (apply_plan one p) (good_plan W H P two p g) (good_plan W H P one p g)
        (two_below_one O W H a b c d a' b' c' d' p g.sized) (one_below_two O W H a b c d a' b' c' d' p g.sized)
