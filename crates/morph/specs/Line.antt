-- A line: its windows, its answer, its queue, and what its steps cost. The window reaches `back` and `ahead`, B and F of document 01, and w is its L.
-- Steps done are counted, s of them, so that step t is done where s = t + 1. Nothing here knows erosion from dilation: that is the order's.
use Rattle.std.specs.Prelude.{◌≡◌, Bool, true, false, cond, not, ◌&&◌, List, [], ◌∷◌, ℕ, suc, ◌+◌, ◌-◌, ◌≤◌, ◌<◌, min, ltb, leb, length, get_or}
use Rattle.std.proofs.Math.Option.{Option, none, some}
use Rattle.std.proofs.Math.Seq.{slice}
use Rattle.morph.specs.Order.{Order}
use Rattle.morph.specs.Lists.{tabulate, all, keep, sum_to}

-- "each with its position": a queue's entry
pub record Entry (A : Type 0) : Type 0 where
  pub value : A
  pub position : ℕ

-- what a read-out answers: the entry at a queue's place, or a refusal with document 01's number
pub data Shown (A : Type 0) : Type 0 where
  found : (entry : Entry A) → Shown A
  refused : (number : ℕ) → Shown A

module _ {A : Type 0} where
  -- the samples of a list as entries, the first at position k
  abbrev pub positioned : ℕ → List A → List (Entry A)
  positioned k [] = []
  positioned k (a ∷ l) = record { value = a; position = k } ∷ positioned (suc k) l

  -- what was read in the last w of s steps, oldest first
  abbrev pub windowed : ℕ → List A → ℕ → List (Entry A)
  windowed w xs s = positioned (s - w) (slice (s - w) s xs)

  -- a queue without its oldest entry, if that stands before position m
  abbrev pub aged : ℕ → List (Entry A) → List (Entry A)
  aged m [] = []
  aged m (e ∷ q) = cond (ltb e.position m) q (e ∷ q)

  -- "Output x comes at step x + F": the step t gives output t - F if the line has that one, and else none
  unfoldable pub output_at : ℕ → (ℕ → A) → ℕ → ℕ → Option A
  output_at n output ahead t = cond (leb ahead t && ltb (t - ahead) n) (some (output (t - ahead))) none

module _ {A : Type 0} (O : Order A) where
  -- ---- the answer

  abbrev pub greater : A → A → A
  greater a b = cond (O.le a b) b a

  -- the greatest of a list that is not empty
  abbrev pub best : List A → A
  best [] = O.blank
  best (a ∷ []) = a
  best (a ∷ b ∷ l) = greater a (best (b ∷ l))

  -- the answer at x: the greatest from x - back to x + ahead. "Positions off the picture take no part. They are neither 0 nor 255."
  unfoldable pub best_at : ℕ → ℕ → List A → ℕ → A
  best_at back ahead xs x = best (slice (x - back) (x + ahead + 1) xs)

  unfoldable pub filter_line : ℕ → ℕ → List A → List A
  filter_line back ahead xs = tabulate (length xs) (best_at back ahead xs)

  -- ---- the queue

  -- e's value is greater than r's
  abbrev pub over : Entry A → Entry A → Bool
  over e r = not (O.le e.value r.value)

  -- the entries whose value is greater than every later one
  abbrev pub standing : List (Entry A) → List (Entry A)
  standing [] = []
  standing (e ∷ l) = cond (all (over e) l) (e ∷ standing l) (standing l)

  -- "After step t the queue holds exactly the positions q with q read, q ≥ t-L+1, and value greater than every later value read .., oldest first, each with its position."
  -- A step past the line's end reads nothing, and the queue only ages.
  unfoldable pub queue : ℕ → List A → ℕ → List (Entry A)
  queue w xs s = standing (windowed w xs s)

  -- the same sentence of one entry, word for word: `queue_sound` and `queue_complete` prove that the queue has exactly these
  pub record Queued (w : ℕ) (xs : List A) (s : ℕ) (e : Entry A) : Type 0 where
    pub done : e.position < s
    pub read : e.position < length xs
    pub recent : s ≤ e.position + w
    pub value : e.value ≡ get_or xs e.position O.blank
    pub greatest : (r : ℕ) → e.position < r → r < s → r < length xs → O.le e.value (get_or xs r O.blank) ≡ false

  -- the value of the oldest entry
  abbrev pub front : List (Entry A) → A
  front [] = O.blank
  front (e ∷ q) = e.value

  -- each entry's value is greater than every later one
  abbrev pub falling : List (Entry A) → Bool
  falling [] = true
  falling (e ∷ q) = all (over e) q && falling q

  -- ---- the comparisons

  -- the entries that a equals or passes, and those that it does not
  abbrev pub passed : A → List (Entry A) → List (Entry A)
  passed a q = keep (λ e. O.le e.value a) q

  abbrev pub unpassed : A → List (Entry A) → List (Entry A)
  unpassed a q = keep (λ e. not (O.le e.value a)) q

  -- "the queued values before the step that the new one equals or passes, plus 1 if some queued value stays unpassed. Values about to grow too old are still in this count."
  unfoldable pub comparisons : A → List (Entry A) → ℕ
  comparisons a q = length (passed a q) + min 1 (length (unpassed a q))

  -- of step s: "A drain step has 0."
  unfoldable pub line_cost : ℕ → List A → ℕ → ℕ
  line_cost w xs s = cond (ltb s (length xs)) (comparisons (get_or xs s O.blank) (queue w xs s)) 0

  -- of the first s steps
  abbrev pub line_costs : ℕ → List A → ℕ → ℕ
  line_costs w xs s = sum_to s (line_cost w xs)

-- each entry's position is before every later one's: "oldest first"
abbrev pub Rising : {A : Type 0} → List (Entry A) → Type 0
Rising [] = Unit {0}
Rising (e ∷ []) = Unit {0}
Rising (e ∷ r ∷ q) = (e.position < r.position) × Rising (r ∷ q)
