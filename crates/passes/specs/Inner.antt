-- Inner: only contracts of inner functions, and proofs, cite what stands here; no promise of a public call is made of it.
-- Passes by doubling over a line; what a place has after some of them; rows filtered one after another.
use Rattle.std.specs.Prelude.{◌≡◌, Bool, true, cond, List, ◌⊎◌, ℕ, ◌+◌, ◌-◌, ◌*◌, ◌≤◌, ◌<◌, ltb, Float, length, get_or}
use Rattle.std.specs.Float.Ieee.{lt}
use Rattle.morph.specs.declared.Kind.{Kind}
use Rattle.morph.specs.declared.Kind.TheVariants.{Erosion, Dilation}
use Rattle.morph.specs.Lists.{tabulate, Each}
use Rattle.morph.specs.Order.{Order}
use Rattle.morph.specs.Line.{filter_line}
use Rattle.passes.specs.Flat.{flat_row}

-- ---- the choice between two values

-- any value is taken: nothing is asked of a byte
abbrev pub Any : {A : Type 0} → A → Type 0
Any a = Unit {0}

-- a choice of the greater of two, among values of which P holds
pub record Picks {A : Type 0} (O : Order A) (P : A → Type 0) (pick : A → A → A) : Type 0 where
  pub one : (a b : A) → P a → P b → (pick a b ≡ a) ⊎ (pick a b ≡ b)
  pub first : (a b : A) → P a → P b → O.le a (pick a b) ≡ true
  pub second : (a b : A) → P a → P b → O.le b (pick a b) ≡ true

-- the code's choice between two floats: the second only where it is strictly better, which is one instruction
abbrev pub pick_rate : Kind → Float → Float → Float
pick_rate Erosion a b = cond (lt b a) b a
pick_rate Dilation a b = cond (lt a b) b a

-- ---- one pass

module _ {A : Type 0} (blank : A) (pick : A → A → A) where
  -- the first m places, each with the one s places on
  abbrev pub pairs : ℕ → ℕ → List A → List A
  pairs s m xs = tabulate m (λ i. pick (get_or xs i blank) (get_or xs (i + s) blank))

  -- ahead: each place takes the better of itself and the one s places on, where there is one
  abbrev pub ahead_at : ℕ → List A → ℕ → A
  ahead_at s xs i = cond (ltb (i + s) (length xs)) (pick (get_or xs i blank) (get_or xs (i + s) blank)) (get_or xs i blank)

  unfoldable pub ahead_by : ℕ → List A → List A
  ahead_by s xs = tabulate (length xs) (ahead_at s xs)

  -- along the front: each place takes the better of the place before it, as it has become, and of itself
  pub record Runs (ys zs : List A) : Type 0 where
    pub long : length zs ≡ length ys
    pub first : 0 < length ys → get_or zs 0 blank ≡ get_or ys 0 blank
    pub next : (i : ℕ) → 0 < i → i < length ys → get_or zs i blank ≡ pick (get_or zs (i - 1) blank) (get_or ys i blank)

  -- back by s units at once: each place takes the better of the one s units back and itself; the first s units, which have none, go along the front
  pub record Back (unit s : ℕ) (ys zs : List A) : Type 0 where
    pub long : length zs ≡ length ys
    pub first : (i : ℕ) → i < unit → i < s * unit → i < length ys → get_or zs i blank ≡ get_or ys i blank
    pub front : (i : ℕ) → unit ≤ i → i < s * unit → i < length ys → get_or zs i blank ≡ pick (get_or zs (i - unit) blank) (get_or ys i blank)
    pub back : (i : ℕ) → s * unit ≤ i → i < length ys → get_or zs i blank ≡ pick (get_or ys (i - s * unit) blank) (get_or ys i blank)

-- of two slices that are used in turn, the one that holds the line
abbrev pub held : {A : Type 0} → Bool → List A → List A → List A
held other a t = cond other t a

-- ---- what a place has after some passes

-- place k is on the list of n, and at most `hi` units after i or at most `lo` units before it
abbrev pub Near : ℕ → ℕ → ℕ → ℕ → ℕ → ℕ → Type 0
Near unit lo hi n i k = (k < n) × (((d : ℕ) × (d ≤ hi) × (k ≡ i + d * unit)) ⊎ ((d : ℕ) × (d ≤ lo) × (i ≡ k + d * unit)))

-- v is a greatest of the values that f has at some places
pub record Greatest {A : Type 0} (O : Order A) (f : ℕ → A) (At : ℕ → Type 0) (v : A) : Type 0 where
  pub place : (k : ℕ) × At k × (v ≡ f k)
  pub over : (k : ℕ) → At k → O.le (f k) v ≡ true

-- each place of ys has the greatest of xs from `lo` units before it to `hi` units after it; "positions off the picture take no part"
pub record Reached {A : Type 0} (O : Order A) (unit lo hi : ℕ) (xs ys : List A) : Type 0 where
  pub long : length ys ≡ length xs
  pub has : (i : ℕ) → i < length xs → Greatest O (λ k. get_or xs k O.blank) (Near unit lo hi (length xs) i) (get_or ys i O.blank)

-- what has reached `hi` ahead has then reached `lo` back too
abbrev pub ThenBack : {A : Type 0} → Order A → (A → Type 0) → ℕ → ℕ → ℕ → List A → List A → Type 0
ThenBack {A} O P unit lo hi ys zs = (xs : List A) → Each P xs → Reached O unit 0 hi xs ys → Reached O unit lo hi xs zs

-- ---- rows

-- each of H rows filtered as a line
pub record Crossed {A : Type 0} (O : Order A) (W H lo hi : ℕ) (xs ys : List A) : Type 0 where
  pub long : length ys ≡ length xs
  pub rows : (y : ℕ) → y < H → flat_row W ys y ≡ filter_line O lo hi (flat_row W xs y)
