-- Inner: only contracts of inner functions, and proofs, cite what stands here; no promise of a public call is made of it.
-- Down the columns. Ahead, in one sweep, which comes to one row more with every tick: a row that is r + s rows behind it, and reaches r ahead, takes the row s rows on and reaches r + s. All steps of doubling go on at once, each at its own distance,
-- and the rows that they need are still in the cache. Then back, in one step where the rows reach far enough ahead.
use Rattle.std.specs.Prelude.{◌≡◌, cond, List, ◌⊎◌, ℕ, zero, suc, ◌+◌, ◌-◌, ◌*◌, ◌≤◌, ◌<◌, min, eqb, length, get_or}
use Rattle.morph.specs.Lists.{tabulate, Each}
use Rattle.morph.specs.Order.{Order}
use Rattle.passes.specs.Inner.{Near, Greatest}

-- each place of ys takes the better of itself and of the same place of zs
abbrev pub met : {A : Type 0} → A → (A → A → A) → List A → List A → List A
met blank pick ys zs = tabulate (length ys) (λ i. pick (get_or ys i blank) (get_or zs i blank))

-- the part of W places at `at` takes the better of itself and of the part at `from`, place by place, and all else stays
pub record Over {A : Type 0} (blank : A) (pick : A → A → A) (W at from : ℕ) (l l' : List A) : Type 0 where
  pub long : length l' ≡ length l
  pub there : (x : ℕ) → x < W → get_or l' (at + x) blank ≡ pick (get_or l (at + x) blank) (get_or l (from + x) blank)
  pub elsewhere : (i : ℕ) → (i < at) ⊎ (at + W ≤ i) → get_or l' i blank ≡ get_or l i blank

-- ---- ahead

-- how far ahead a row reaches that the sweep is m rows past
unfoldable pub level_of : ℕ → ℕ → ℕ
level_of far zero = 0
level_of far (suc m) = cond (eqb (suc m) (level_of far m + min (level_of far m + 1) (far - level_of far m))) (suc m) (level_of far m)

-- the step from reach r to r + s at tick t, where there is a row for it and one to take from
pub record Climbed {A : Type 0} (blank : A) (pick : A → A → A) (W H r s t : ℕ) (l l' : List A) : Type 0 where
  pub idle : (t < r + s) ⊎ (H ≤ t - r) → l' ≡ l
  pub over : r + s ≤ t → t - r < H → Over blank pick W ((t - r - s) * W) ((t - r) * W) l l'

-- a picture of W columns and H rows, of which P holds
abbrev pub Sound : {A : Type 0} → (A → Type 0) → ℕ → ℕ → List A → Type 0
Sound P W H xs = (length xs ≡ H * W) × Each P xs

-- each row z of l has reached as far ahead in the picture xs as `reach z` says
pub record Swept {A : Type 0} (O : Order A) (W H : ℕ) (xs : List A) (reach : ℕ → ℕ) (l : List A) : Type 0 where
  pub has : (z x : ℕ) → z < H → x < W → Greatest O (λ k. get_or xs k O.blank) (Near W 0 (reach z) (H * W) (z * W + x)) (get_or l (z * W + x) O.blank)

-- a tick
abbrev pub Ticked : {A : Type 0} → Order A → (A → Type 0) → ℕ → ℕ → ℕ → ℕ → List A → List A → Type 0
Ticked {A} O P W H far t l l' = (xs : List A) → Sound P W H xs → Swept O W H xs (λ z. level_of far (t - 1 - z)) l → Swept O W H xs (λ z. level_of far (t - z)) l'

-- ---- back

module _ {A : Type 0} (blank : A) (pick : A → A → A) (W s : ℕ) (l l' : List A) where
  -- each row from row s on takes the better of itself and of the row s rows above it, and the others stay
  pub record Lowered : Type 0 where
    pub long : length l' ≡ length l
    pub front : (i : ℕ) → i < s * W → i < length l → get_or l' i blank ≡ get_or l i blank
    pub back : (i : ℕ) → s * W ≤ i → i < length l → get_or l' i blank ≡ pick (get_or l i blank) (get_or l (i - s * W) blank)

  -- each row before row s, but for the first, takes the better of itself and of the row above it, as that has become, and the others stay
  pub record Fronted : Type 0 where
    pub long : length l' ≡ length l
    pub first : (i : ℕ) → i < W → i < length l → get_or l' i blank ≡ get_or l i blank
    pub front : (i : ℕ) → W ≤ i → i < s * W → i < length l → get_or l' i blank ≡ pick (get_or l i blank) (get_or l' (i - W) blank)
    pub back : (i : ℕ) → s * W ≤ i → i < length l → get_or l' i blank ≡ get_or l i blank
