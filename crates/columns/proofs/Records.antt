-- The judging of the column records: the flag is that of the columns passed.
use Rattle.std.proofs.Common.{◌≡◌, refl, Bool, true, false, ◌&&◌, List, [], ◌∷◌, ℕ, ◌+◌, ◌<◌, add-one, ltb, leb, length, take, get_or, take-suc}
use Rattle.std.proofs.Math.Bool.{and-true}
use Rattle.morph.specs.Lists.{all}
use Rattle.morph.proofs.Lists.{all_append}
use Rattle.memory.specs.Memory.{sound_records}

middle : (a b c d : Bool) → ((a && b) && (c && d)) ≡ ((a && c) && (b && d))
middle true true c d = refl
middle true false true d = refl
middle true false false d = refl
middle false b c d = refl

all_next : (p : ℕ → Bool) (l : List ℕ) (i : ℕ) → i < length l → all p (take (i + 1) l) ≡ (all p (take i l) && p (get_or l i 0))
all_next p l i h = rw (add-one, take-suc l i 0 h, all_append p (take i l) (get_or l i 0 ∷ []), and-true)

module _ (P : ℕ) (starts lengths : List ℕ) where
  pub judge_next : (x : ℕ) (good here : Bool) → x < length starts → x < length lengths
      → good ≡ sound_records P (take x starts) (take x lengths) → here ≡ (ltb (get_or starts x 0) P && leb (get_or lengths x 0) P)
      → (good && here) ≡ sound_records P (take (x + 1) starts) (take (x + 1) lengths)
  unfolding sound_records
  judge_next x good here h k g e =
      rw (all_next (λ s. ltb s P) starts x h, all_next (λ n. leb n P) lengths x k, g, e)
      (middle (all (λ s. ltb s P) (take x starts)) (all (λ n. leb n P) (take x lengths)) (ltb (get_or starts x 0) P) (leb (get_or lengths x 0) P))
