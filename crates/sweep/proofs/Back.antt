-- A step back in place: from the bottom each row takes the row s rows above it, and then the first s go along from the top.
-- By which idea: a row that is taken from has not been changed yet, and along the front it has been changed already.
use mathlib.Core.Path.{◌≡◌, refl, sym, ap, ◌∙◌}
use mathlib.Core.List.{List}
use mathlib.Core.Logic.{◌⊎◌, inl, inr, ⊎_elim}
use Prim.Native.Nat.{ℕ, suc, ◌+◌, ◌-◌, ◌*◌, ◌≤◌, ◌<◌, min}
use native.Mathlib.Nat.{mul-le-mul_right, suc-mul, one-mul}
use native.Mathlib.Omega.{arith}
use lib.ListN.{length, get_or}
use Rattle.morph.specs.Order.{Order}
use Rattle.passes.specs.Inner.{Picks, Back}
use Rattle.passes.proofs.Reach.{below_or}
use Rattle.sweep.specs.Inner.{Over, Lowered, Fronted}

module _ {A : Type 0} (blank : A) (pick : A → A → A) (W H s : ℕ) (xs : List A) where
  -- ---- from the bottom

  -- the rows from row z on are done
  pub record Lowering (z : ℕ) (l : List A) : Type 0 where
    pub long : length l ≡ length xs
    pub within : z ≤ H
    pub place : (s ≤ z) ⊎ (z ≡ H)
    pub front : (i : ℕ) → i < z * W → i < length xs → get_or l i blank ≡ get_or xs i blank
    pub back : (i : ℕ) → z * W ≤ i → i < length xs → get_or l i blank ≡ pick (get_or xs i blank) (get_or xs (i - s * W) blank)

  pub lower_start : length xs ≡ H * W → Lowering H xs
  lower_start n = record { long = refl; within = omega arith; place = inr refl; front = λ i h k. refl; back = λ i h k. absurd (omega arith) }

  module _ (z : ℕ) (l : List A) (a : Lowering z l) where
    pub lower_end : length xs ≡ H * W → z ≤ s → Lowered blank pick W s xs l
    lower_end n h =
        let m : z * W ≤ s * W = mul-le-mul_right W h in
        record { long = a.long; front = λ i v k. ⊎_elim (λ (q : z * W ≤ i). absurd (off i v q k)) (λ (q : suc i ≤ z * W). a.front i q k) (below_or (z * W) i); back = λ i v k. a.back i (omega arith) k }
      where
        off : (i : ℕ) → i < s * W → z * W ≤ i → i < length xs → ⊥
        off i v q k = ⊎_elim (λ (p : s ≤ z). let m : s * W ≤ z * W = mul-le-mul_right W p in omega arith) (λ (p : z ≡ H). let m : H * W ≤ i = rw (← p) q in omega arith) a.place

    -- k of them at once
    pub lower_next : (k : ℕ) → 0 < k → k ≤ s → s + k ≤ z → (y : ℕ) → y ≡ z - k → (l' : List A) → Over blank pick (k * W) (y * W) ((y - s) * W) l l' → Lowering y l'
    lower_next k some few h y e l' o = record {
      long = o.long ∙ a.long;
      within = omega (arith, a.within);
      place = inl (omega arith);
      front = λ i v m. o.elsewhere i (inl v) ∙ a.front i (omega (arith, ends)) m;
      back = λ i v m. ⊎_elim (λ (q : z * W ≤ i). o.elsewhere i (inr (omega (arith, ends))) ∙ a.back i q m) (λ (q : suc i ≤ z * W). here i v q m) (below_or (z * W) i);
    }
      where
        ends : z * W ≡ y * W + k * W
        ends = let u : z ≡ y + k = omega arith in ap (λ (m : ℕ). m * W) u ∙ omega arith

        apart : y * W ≡ (y - s) * W + s * W
        apart = let u : y ≡ y - s + s = omega arith in ap (λ (m : ℕ). m * W) u ∙ omega arith

        short : k * W ≤ s * W
        short = mul-le-mul_right W few

        here : (i : ℕ) → y * W ≤ i → i < z * W → i < length xs → get_or l' i blank ≡ pick (get_or xs i blank) (get_or xs (i - s * W) blank)
        here i v q m =
            let u : y * W + (i - y * W) ≡ i = omega arith in
            let w : (y - s) * W + (i - y * W) ≡ i - s * W = omega (arith, apart) in
            let t = o.there (i - y * W) (omega (arith, ends)) in
            rw (u, w) at t ∙ rw (a.front i q m, a.front (i - s * W) (omega (arith, apart, ends, short)) (omega arith)) refl

  -- ---- along the front

  -- the rows before row z are done
  pub record Fronting (z : ℕ) (l : List A) : Type 0 where
    pub long : length l ≡ length xs
    pub begun : 0 < z
    pub within : z ≤ s
    pub first : (i : ℕ) → i < W → i < length xs → get_or l i blank ≡ get_or xs i blank
    pub front : (i : ℕ) → W ≤ i → i < z * W → i < length xs → get_or l i blank ≡ pick (get_or xs i blank) (get_or l (i - W) blank)
    pub back : (i : ℕ) → z * W ≤ i → i < length xs → get_or l i blank ≡ get_or xs i blank

  pub front_start : 0 < s → Fronting 1 xs
  front_start some = record { long = refl; begun = omega arith; within = some; first = λ i h k. refl; front = λ i h v k. absurd (omega (arith, one-mul W)); back = λ i h k. refl }

  module _ (z : ℕ) (l : List A) (a : Fronting z l) where
    pub front_end : length xs ≡ H * W → (end : ℕ) → end ≡ min s H → end ≤ z → Fronted blank pick W s xs l
    front_end n end e h = record {
      long = a.long;
      first = a.first;
      front = λ i v w k. a.front i v (⊎_elim (λ (p : s ≤ z). let m : s * W ≤ z * W = mul-le-mul_right W p in omega arith) (λ (p : suc z ≤ s). let m : H * W ≤ z * W = mul-le-mul_right W (omega arith) in omega arith) (below_or s z)) k;
      back = λ i v k. let m : z * W ≤ s * W = mul-le-mul_right W a.within in a.back i (omega arith) k;
    }

    pub front_next : z < s → (l' : List A) → Over blank pick W (z * W) ((z - 1) * W) l l' → Fronting (z + 1) l'
    front_next h l' o = record {
      long = o.long ∙ a.long;
      begun = omega arith;
      within = omega arith;
      first = λ i v k. o.elsewhere i (inl (omega (arith, before))) ∙ a.first i v k;
      front = λ i v w k. ⊎_elim (λ (q : z * W ≤ i). here i v q w k) (λ (q : suc i ≤ z * W). o.elsewhere i (inl q) ∙ a.front i v q k ∙ ap (pick (get_or xs i blank)) (sym (o.elsewhere (i - W) (inl (omega arith))))) (below_or (z * W) i);
      back = λ i v k. o.elsewhere i (inr (omega arith)) ∙ a.back i (omega arith) k;
    }
      where
        before : z * W ≡ (z - 1) * W + W
        before = let u : z ≡ suc (z - 1) = omega (arith, a.begun) in ap (λ (m : ℕ). m * W) u ∙ suc-mul (z - 1) W

        here : (i : ℕ) → W ≤ i → z * W ≤ i → i < (z + 1) * W → i < length xs → get_or l' i blank ≡ pick (get_or xs i blank) (get_or l' (i - W) blank)
        here i v q w k =
            let u : z * W + (i - z * W) ≡ i = omega arith in
            let m : (z - 1) * W + (i - z * W) ≡ i - W = omega (arith, before) in
            let t = o.there (i - z * W) (omega arith) in
            rw (u, m) at t ∙ rw (a.back i q k, o.elsewhere (i - W) (inl (omega (arith, before)))) refl

-- ---- both

-- the same choice, with its two values the other way round
pub picks_flip : {A : Type 0} (O : Order A) (P : A → Type 0) (pick : A → A → A) → Picks O P pick → Picks O P (λ a b. pick b a)
picks_flip O P pick c = record {
  one = λ a b p q. ⊎_elim (λ e. inr e) (λ e. inl e) (c.one b a q p);
  first = λ a b p q. c.second b a q p;
  second = λ a b p q. c.first b a q p;
}

pub rows_back : {A : Type 0} (blank : A) (pick : A → A → A) (W s : ℕ) (xs l l' : List A) → Lowered blank pick W s xs l → Fronted blank pick W s l l' → Back blank (λ a b. pick b a) W s xs l'
rows_back blank pick W s xs l l' a b = record {
  long = b.long ∙ a.long;
  first = λ i v w k. b.first i v (on k) ∙ a.front i w k;
  front = λ i v w k. b.front i v w (on k) ∙ ap (λ c. pick c (get_or l' (i - W) blank)) (a.front i w k);
  back = λ i v k. b.back i v (on k) ∙ a.back i v k;
}
  where
    on : {i : ℕ} → i < length xs → i < length l
    on k = rw a.long k
