-- Rows that take the better of themselves and of other rows, pixel by pixel in place: the picture is cut between the two.
use mathlib.Core.Path.{◌≡◌, refl, sym, ap, ◌∙◌}
use mathlib.Core.List.{List, ◌++◌, append_assoc}
use mathlib.Core.Logic.{◌⊎◌, ⊎_elim}
use Prim.Native.Nat.{ℕ, suc, ◌+◌, ◌-◌, ◌*◌, ◌≤◌, ◌<◌}
use native.Mathlib.Nat.{mul-le-mul_right, suc-mul}
use native.Mathlib.Omega.{arith}
use borrow.Rule.Slice.PartMut.{put_mid, mid_of, post_of, put_same}
use lib.ListN.{length, get_or, take, drop, length-append, length-take, length-drop, get_or-append}
use lib.Seq.{get_or-append-add, get_or-take, get_or-drop}
use Rattle.std.proofs.Common.{take-append-drop}
use Rattle.morph.proofs.Lists.{length_tabulate, get_d_tabulate}
use Rattle.passes.proofs.Pass.{get_d_right}
use Rattle.sweep.specs.Inner.{met, Over, Climbed}

module _ {A : Type 0} (blank : A) (pick : A → A → A) where
  -- the middle of three parts is replaced
  over_parts : (p ys zs q l l' : List A) (W at from : ℕ) → length p ≡ at → length ys ≡ W → l ≡ p ++ (ys ++ q) → l' ≡ p ++ (met blank pick ys zs ++ q)
      → ((x : ℕ) → x < W → get_or zs x blank ≡ get_or l (from + x) blank) → Over blank pick W at from l l'
  over_parts p ys zs q l l' W at from n m e e' f = record {
    long = rw (e, e', length-append, length-append, length-append, length-append, long) refl;
    there = λ x h.
        let here : get_or ys x blank ≡ get_or l (at + x) blank = rw e (sym (along (ys ++ q) x ∙ get_or-append ys q blank x (rw m h))) in
        rw e' (along (M ++ q) x ∙ get_or-append M q blank x (rw long (rw m h)) ∙ get_d_tabulate (length ys) _ x blank (rw m h) ∙ rw (here, f x h) refl);
    elsewhere = λ i d. ⊎_elim
        (λ (u : i < at). rw (e, e') (get_or-append p (M ++ q) blank i (rw n u) ∙ sym (get_or-append p (ys ++ q) blank i (rw n u))))
        (λ (u : at + W ≤ i). rw (e, e') (past M (long ∙ m) i u ∙ sym (past ys m i u))) d;
  }
    where
      M : List A
      M = met blank pick ys zs

      long : length M ≡ length ys
      long = length_tabulate (length ys) _

      along : (r : List A) (x : ℕ) → get_or (p ++ r) (at + x) blank ≡ get_or r x blank
      along r x = ap (λ (k : ℕ). get_or (p ++ r) (k + x) blank) (sym n) ∙ get_or-append-add p r x blank

      past : (r : List A) → length r ≡ W → (i : ℕ) → at + W ≤ i → get_or (p ++ (r ++ q)) i blank ≡ get_or q (i - at - W) blank
      past r k i u = get_d_right p (r ++ q) i at blank n (omega arith) ∙ get_d_right r q (i - at) W blank k (omega arith)

  module _ (l above below : List A) (mid W : ℕ) (e : l ≡ above ++ below) (n : length above ≡ mid) where
    -- rows above the cut take from the first ones below it
    pub over_below : (at k : ℕ) (ys : List A) → k ≡ W → at + W ≤ mid → mid + W ≤ length l → ys ≡ met blank pick (take k (drop at above)) (take W below) → Over blank pick W at mid l (put_mid at k above ys ++ below)
    over_below at k ys g a b h =
        over_parts (take at above) (take W (drop at above)) (take W below) (post_of at W above ++ below) l (put_mid at k above ys ++ below) W at mid
        (rw length-take (omega arith)) (rw (length-take, length-drop) (omega arith))
        (e ∙ ap (λ (z : List A). z ++ below) (sym (put_same at W above)) ∙ whole (mid_of at W above))
        (let i = rw g at h in rw (g, i) (whole (met blank pick (take W (drop at above)) (take W below))))
        (λ x v. get_or-take W below x blank v ∙ sym (rw e (ap (λ (z : ℕ). get_or (above ++ below) (z + x) blank) (sym n) ∙ get_or-append-add above below x blank)))
      where
        whole : (z : List A) → put_mid at W above z ++ below ≡ take at above ++ (z ++ (post_of at W above ++ below))
        whole z = append_assoc (take at above) (z ++ post_of at W above) below ∙ ap (λ r. take at above ++ r) (append_assoc z (post_of at W above) below)

    -- the first rows below the cut take from rows above it
    pub over_above : (from k : ℕ) (ys : List A) → W ≤ k → from + W ≤ mid → mid + W ≤ length l → ys ≡ met blank pick (take W below) (take k (drop from above)) → Over blank pick W mid from l (above ++ (ys ++ drop W below))
    over_above from k ys g a b h =
        over_parts above (take W below) (take k (drop from above)) (drop W below) l (above ++ (ys ++ drop W below)) W mid from
        n (rw length-take (omega (arith, rw length-append at (ap length e)))) (e ∙ ap (λ r. above ++ r) (sym (take-append-drop W below))) (rw h refl)
        (λ x v. get_or-take k (drop from above) x blank (omega arith) ∙ get_or-drop from above x blank ∙ sym (rw e (get_or-append above below blank (from + x) (omega arith))))

-- ---- which rows are meant

-- rows y + k and on, where all k of them are of a picture of H rows
pub rows_fit : (W H y k : ℕ) → y + k ≤ H → y * W + k * W ≤ H * W
rows_fit W H y k h = let m = mul-le-mul_right {m = y + k} {n = H} W h in omega arith

-- a row begins where the one before it ends
pub row_before : (W z : ℕ) → 0 < z → z * W ≡ (z - 1) * W + W
row_before W z h = let e : z ≡ suc (z - 1) = omega arith in ap (λ (m : ℕ). m * W) e ∙ suc-mul (z - 1) W

module _ {A : Type 0} (blank : A) (pick : A → A → A) (W H r s t : ℕ) where
  pub climb_none : (l : List A) → (t < r + s) ⊎ (H ≤ t - r) → Climbed blank pick W H r s t l l
  climb_none l h = record { idle = λ _. refl; over = λ a b. absurd (⊎_elim (λ (q : t < r + s). omega arith) (λ (q : H ≤ t - r). omega arith) h) }

  pub climb_made : (l l' : List A) → r + s ≤ t → t - r < H → Over blank pick W ((t - r - s) * W) ((t - r) * W) l l' → Climbed blank pick W H r s t l l'
  climb_made l l' a b o = record { idle = λ h. absurd (⊎_elim (λ (q : t < r + s). omega arith) (λ (q : H ≤ t - r). omega arith) h); over = λ _ _. o }
