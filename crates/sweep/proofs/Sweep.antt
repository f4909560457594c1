-- The sweep: after each tick every row has reached as far ahead as its level says.
use mathlib.Core.Path.{◌≡◌, refl, sym, ap, ◌∙◌, subst}
use mathlib.Core.List.{List}
use mathlib.Core.Logic.{◌⊎◌, inl, inr, ⊎_elim}
use Prim.Native.Nat.{ℕ, suc, ◌+◌, ◌-◌, ◌*◌, ◌/◌, ◌%◌, ◌≤◌, ◌<◌, min}
use native.Mathlib.Nat.{mul-le-mul_right, suc-mul, eq-or-lt_of_le, mod-lt, div-add-mod', div-lt_iff_lt-mul}
use native.Mathlib.Omega.{arith}
use borrow.Author.Tests.{eqb-true, eqb-false}
use lib.Dec.{eqb}
use lib.ListN.{length, get_or}
use Rattle.morph.specs.Order.{Order}
use Rattle.morph.specs.Line.{greater}
use Rattle.morph.proofs.Lists.{split, each_get_d}
use Rattle.passes.specs.Inner.{Near, Greatest, Reached, Picks}
use Rattle.passes.specs.Picks.{greater_picks}
use Rattle.passes.proofs.Reach.{below_or, reach_start, any_each, greatest_join, greatest_same, ahead_first, ahead_second, ahead_either, ahead_cut}
use Rattle.passes.proofs.Flat.{place_fits, some_wide}
use Rattle.sweep.specs.Inner.{Over, level_of, Climbed, Sound, Swept, Ticked}
use Rattle.sweep.proofs.Levels.{within, within_start, within_up, within_here, within_next, within_other, within_end, level_up, level_top, level_none, level_far}

-- two rows lie apart
rows_apart : (W y z : ℕ) → (z ≡ y → ⊥) → (z * W + W ≤ y * W) ⊎ (y * W + W ≤ z * W)
rows_apart W y z n =
    ⊎_elim (λ (p : z ≤ y). ⊎_elim (λ (q : z ≡ y). absurd (n q)) (λ (q : z < y). inl (omega (arith, mul-le-mul_right {m = suc z} {n = y} W q, suc-mul z W))) (eq-or-lt_of_le p))
    (λ (p : suc y ≤ z). inr (omega (arith, mul-le-mul_right {m = suc y} {n = z} W p, suc-mul y W))) (below_or z y)

module _ {A : Type 0} (O : Order A) (P : A → Type 0) (pick : A → A → A) (c : Picks O P pick) (W H : ℕ) (xs : List A) (fine : (k : ℕ) → k < H * W → P (get_or xs k O.blank)) where
  -- what row z has at column x, once it has reached r ahead
  abbrev Has : List A → ℕ → ℕ → ℕ → Type 0
  Has l r z x = Greatest O (λ k. get_or xs k O.blank) (Near W 0 r (H * W) (z * W + x)) (get_or l (z * W + x) O.blank)

  has_fine : (l : List A) (r z x : ℕ) → Has l r z x → P (get_or l (z * W + x) O.blank)
  has_fine l r z x a = let (k, w, e) = a.place in subst P (sym e) (fine k w.0)

  -- ---- one step of a tick

  -- the rows' reaches, said another way
  swept_as : (ρ ρ' : ℕ → ℕ) (l : List A) → ((z : ℕ) → z < H → ρ' z ≡ ρ z) → Swept O W H xs ρ l → Swept O W H xs ρ' l
  swept_as ρ ρ' l e w = record { has = λ z x h k. rw (e z h) (w.has z x h k) }

  -- row y goes from reach r to r + s, and the others stay where they are
  module _ (ρ ρ' : ℕ → ℕ) (y r s : ℕ) (h : s ≤ suc r) (l : List A) (w : Swept O W H xs ρ l) (here : ρ y ≡ r) (up : ρ' y ≡ r + s) (other : (z : ℕ) → (z ≡ y → ⊥) → ρ' z ≡ ρ z) where
    -- there is no row to take from: the window is cut
    step_cut : H ≤ y + s → Swept O W H xs ρ' l
    step_cut v = record { has = λ z x g k. split (eqb z y) (λ t. same z x g k (eqb-true z y t)) (λ t. rw (other z (eqb-false z y t)) (w.has z x g k)) }
      where
        past : (x : ℕ) → H * W ≤ y * W + x + s * W
        past x = omega (arith, mul-le-mul_right {m = H} {n = y + s} W v)

        same : (z x : ℕ) → z < H → x < W → z ≡ y → Has l (ρ' z) z x
        same z x g k e =
            let m : y < H = rw (← e) g in
            rw (e, up) (greatest_same O (λ k. get_or xs k O.blank) _ _ _ (rw here at (w.has y x m k)) (ahead_first W (H * W) r s (y * W + x) h) (ahead_cut W (H * W) r s (y * W + x) h (past x)))

    step_over : (l' : List A) → y + s < H → ρ (y + s) ≡ r → Over O.blank pick W (y * W) ((y + s) * W) l l' → Swept O W H xs ρ' l'
    step_over l' m next o =
        record { has = λ z x g k. split (eqb z y) (λ t. same z x k (eqb-true z y t)) (λ t. rw (other z (eqb-false z y t), o.elsewhere (z * W + x) (aside z x k (rows_apart W y z (eqb-false z y t)))) (w.has z x g k)) }
      where
        aside : (z x : ℕ) → x < W → (z * W + W ≤ y * W) ⊎ (y * W + W ≤ z * W) → (z * W + x < y * W) ⊎ (y * W + W ≤ z * W + x)
        aside z x k d = ⊎_elim (λ (p : z * W + W ≤ y * W). inl (omega arith)) (λ (p : y * W + W ≤ z * W). inr (omega arith)) d

        on : (x : ℕ) → (y + s) * W + x ≡ y * W + x + s * W
        on x = omega arith

        same : (z x : ℕ) → x < W → z ≡ y → Has l' (ρ' z) z x
        same z x k e =
            let a = rw here at (w.has y x (omega arith) k) in
            let b = rw next at (w.has (y + s) x m k) in
            let p = has_fine l r y x a in
            let q = has_fine l r (y + s) x b in
            rw (e, up, o.there x k)
            (greatest_join O (λ k. get_or xs k O.blank) _ _ _ _ _ _ a b (c.one _ _ p q) (c.first _ _ p q) (c.second _ _ p q) (ahead_first W (H * W) r s (y * W + x) h)
            (λ j d. ahead_second W (H * W) r s (y * W + x) h j (subst (λ (i : ℕ). Near W 0 r (H * W) i j) (on x) d))
            (λ j d. ⊎_elim (λ p. inl p) (λ p. inr (subst (λ (i : ℕ). Near W 0 r (H * W) i j) (sym (on x)) p)) (ahead_either W (H * W) r s (y * W + x) h j d)))

  -- ---- within tick t

  module _ (far t : ℕ) where
    abbrev Within : ℕ → List A → Type 0
    Within r l = Swept O W H xs (λ z. within far r (t - z)) l

    tick_start : (l : List A) → Swept O W H xs (λ z. level_of far (t - 1 - z)) l → Within 0 l
    tick_start l w = swept_as _ _ l (λ z h. within_start far (t - z) ∙ ap (level_of far) (turn z)) w
      where
        turn : (z : ℕ) → t - z - 1 ≡ t - 1 - z
        turn z = omega arith

    tick_end : (l : List A) → Within far l → Swept O W H xs (λ z. level_of far (t - z)) l
    tick_end l w = swept_as _ _ l (λ z h. sym (within_end far (t - z) (level_top far))) w

    module _ (r s : ℕ) (h : level_of far r ≡ r) (e : s ≡ min (r + 1) (far - r)) (p : r < far) (l l' : List A) (d : Climbed O.blank pick W H r s t l l') (w : Within r l) where
      some : 0 < s
      some = omega arith

      small : s ≤ suc r
      small = omega arith

      idle : t < r + s → Within (r + s) l
      idle q = swept_as _ _ l (λ z u. within_other far r s h e some (t - z) (λ (v : t - z ≡ r + s). omega arith)) w

      module _ (q : r + s ≤ t) where
        behind : t - (t - r - s) ≡ r + s
        behind = omega arith

        others : (z : ℕ) → (z ≡ t - r - s → ⊥) → within far (r + s) (t - z) ≡ within far r (t - z)
        others z n = within_other far r s h e some (t - z) (λ (v : t - z ≡ r + s). n (omega (arith, some)))

        here : within far r (t - (t - r - s)) ≡ r
        here = ap (within far r) behind ∙ within_here far r s h e some

        up : within far (r + s) (t - (t - r - s)) ≡ r + s
        up = ap (within far (r + s)) behind ∙ within_up far r s h e some

        cut : H ≤ t - r → Within (r + s) l
        cut m = step_cut _ _ (t - r - s) r s small l w here up others (omega arith)

        over : t - r < H → Within (r + s) l'
        over m =
            let y : t - r - s + s ≡ t - r = omega arith in
            let n : t - (t - r - s + s) ≡ r = omega arith in
            step_over _ _ (t - r - s) r s small l w here up others l' (omega arith) (ap (within far r) n ∙ within_next far r s h e some) (rw y (d.over q m))

      tick_next : Within (r + s) l'
      tick_next =
          ⊎_elim
          (λ (q : r + s ≤ t). ⊎_elim (λ (m : H ≤ t - r). rw (d.idle (inr m)) (cut q m)) (λ (m : suc (t - r) ≤ H). over q m) (below_or H (t - r)))
          (λ (q : suc t ≤ r + s). rw (d.idle (inl q)) (idle q)) (below_or (r + s) t)

-- ---- a whole sweep

module _ {A : Type 0} (O : Order A) (W H far : ℕ) where
  -- every place stands in some row and column
  placed : (i : ℕ) → i < H * W → (y : ℕ) × (x : ℕ) × (y < H) × (x < W) × (y * W + x ≡ i)
  placed i h = let w = some_wide W H i h in (i / W, i % W, (div-lt_iff_lt-mul w).1 h, mod-lt i w, div-add-mod' i W)

  pub sweep_start : (xs : List A) → length xs ≡ H * W → (t : ℕ) → t ≡ 0 → Swept O W H xs (λ z. level_of far (t - 1 - z)) xs
  sweep_start xs n t e = record { has = λ z x h k. rw (level_none far (t - 1 - z) (omega arith), ← n) ((reach_start O _ (greater O) (greater_picks O) W xs (any_each O xs)).has (z * W + x) (rw n (place_fits W H z x h k))) }

  pub sweep_end : (xs l : List A) → length xs ≡ H * W → length l ≡ length xs → (t : ℕ) → H + far ≤ t → Swept O W H xs (λ z. level_of far (t - 1 - z)) l → Reached O W 0 far xs l
  sweep_end xs l n m t e w = record {
    long = m;
    has = λ i h.
        let (y, x, a, b, p) = placed i (rw n at h) in
        let q : level_of far (t - 1 - y) ≡ far = level_far far (t - 1 - y) (level_top far) (omega arith) in
        rw (n, ← p) (rw q at (w.has y x a b));
  }

  -- the next tick begins where this one ended
  pub sweep_again : (t : ℕ) (xs l : List A) → Swept O W H xs (λ z. level_of far (t - z)) l → Swept O W H xs (λ z. level_of far (t + 1 - 1 - z)) l
  sweep_again t xs l w = record { has = λ z x h k. let e : t + 1 - 1 - z ≡ t - z = omega arith in rw e (w.has z x h k) }

-- ---- the loop of a tick, for any value that the order picks

module _ {A : Type 0} (O : Order A) (P : A → Type 0) (W H far t : ℕ) where
  -- the steps up to reach r are made
  pub record Ticking (l₀ : List A) (r : ℕ) (l : List A) : Type 0 where
    pub near : r ≤ far
    pub level : level_of far r ≡ r
    pub long : length l ≡ length l₀
    pub on : (xs : List A) → Sound P W H xs → Swept O W H xs (λ z. level_of far (t - 1 - z)) l₀ → Swept O W H xs (λ z. within far r (t - z)) l

module _ {A : Type 0} (O : Order A) (P : A → Type 0) (pick : A → A → A) (c : Picks O P pick) (W H far t : ℕ) where
  fine : (xs : List A) → Sound P W H xs → (k : ℕ) → k < H * W → P (get_or xs k O.blank)
  fine xs (n, v) k h = each_get_d P xs k O.blank v (rw n h)

  module _ (l₀ : List A) where
    pub ticking_first : Ticking O P W H far t l₀ 0 l₀
    ticking_first = record { near = omega arith; level = level_none far 0 refl; long = refl; on = λ xs v w. tick_start O P pick c W H xs (fine xs v) far t l₀ w }

    pub ticking_next : (r s : ℕ) (l l' : List A) → s ≡ min (r + 1) (far - r) → r < far → length l' ≡ length l → Ticking O P W H far t l₀ r l → Climbed O.blank pick W H r s t l l' → Ticking O P W H far t l₀ (r + s) l'
    ticking_next r s l l' e p n a d = record {
      near = omega arith;
      level = level_up far r s a.level e (omega arith);
      long = n ∙ a.long;
      on = λ xs v w. tick_next O P pick c W H xs (fine xs v) far t r s a.level e p l l' d (a.on xs v w);
    }

    pub ticking_last : (r : ℕ) (l : List A) → far ≤ r → Ticking O P W H far t l₀ r l → Ticked O P W H far t l₀ l
    ticking_last r l q a xs v w = let e : r ≡ far = omega (arith, a.near) in tick_end O P pick c W H xs (fine xs v) far t l (rw e at (a.on xs v w))
