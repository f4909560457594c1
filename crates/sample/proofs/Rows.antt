-- Rows that a loop goes over from left to right: one that is filled with what it is to hold, and one whose first column that is not accepted is looked for.
-- By which idea: a row is what stands before the loop's place and what stands from it on, `take i` and `drop i`.
use Rattle.std.proofs.Common.{◌≡◌, refl, sym, ap, ◌∙◌, Bool, true, false, not, ◌&&◌, List, [], ◌∷◌, ◌++◌, map, append-nil, ℕ, zero, suc, ◌+◌, ◌≤◌, ◌<◌, add-one, arith, ltb-false, lt-ltb, le-ltb, T, ltb, length, take, drop, get_or, set, length-set, drop_of_length-le, take-suc, drop-cons, take_all, length-take-le, Float}
use Rattle.std.proofs.lemmas.Bool.{not-true, not-false}
use Rattle.std.proofs.lemmas.List.{set_at, get_or_at}
use Rattle.std.proofs.Math.Bool.{and-true}
use Rattle.std.proofs.Math.Dec.{leb-suc-suc}
use Rattle.std.proofs.Math.Seq.{append_snoc}
use Rattle.std.specs.Float.{nan, binary32}
use Rattle.std.specs.Float.Ieee.{fits}
use lib.Ieee.Scale.{finite}
use Rattle.morph.specs.Lists.{all, Each}
use Rattle.morph.specs.Rate.{plus_zero_of}
use Rattle.morph.proofs.Lists.{split, both, all_append}
use Rattle.sample.specs.Rate.{negative_zero, accepted}
use Rattle.sample.specs.Samples.{Samples, first_bad, greys}
use Rattle.sample.proofs.Floats.{accepted_plus, plus_accepted}

-- ---- filling: the first i places of a row that was `before` hold what `goal` has there, and the others are as they were

module _ {A : Type 0} (goal before : List A) where
  pub record Filling (row : List A) (i : ℕ) : Type 0 where
    pub lengths : length before ≡ length goal
    pub kept : length row ≡ length before
    pub within : i ≤ length goal
    pub holds : row ≡ take i goal ++ drop i before

  pub fill_start : length before ≡ length goal → Filling before 0
  fill_start h = record { lengths = h; kept = refl; within = omega arith; holds = refl }

  module _ (row : List A) (i : ℕ) (f : Filling row i) where
    pub fill_end : length goal ≤ i → row ≡ goal
    fill_end h = f.holds ∙ rw (take_all i goal, drop_of_length-le before {i = i} (omega arith), append-nil goal)

    module _ (d : A) (h : i < length goal) where
      at_seam : row ≡ take i goal ++ get_or before i d ∷ drop (suc i) before
      at_seam = f.holds ∙ rw (drop-cons before i d (omega arith))

      -- the next place is as it was
      pub fill_here : get_or row i d ≡ get_or before i d
      fill_here = rw at_seam (get_or_at (take i goal) (get_or before i d) (drop (suc i) before) d i (length-take-le i goal f.within))

      pub fill_next : (a : A) → a ≡ get_or goal i d → Filling (set row i a) (i + 1)
      fill_next a e = record {
        lengths = f.lengths;
        kept = simp length-set f.kept;
        within = omega arith;
        holds = rw (at_seam, add-one) (set_at (take i goal) (get_or before i d) (drop (suc i) before) a i (length-take-le i goal f.within) ∙ rw (e, take-suc goal i d h, append_snoc));
      }

-- ---- the first column that is not accepted, as document 01 has it: it is not, and each column before it is

module _ {A : Type 0} (K : Samples A) where
  pub first_within : (row : List A) → first_bad K row ≤ length row
  first_within [] = omega arith
  first_within (a ∷ row) = let i = first_within row in split (K.good a) (λ p. rw p (omega arith)) (λ p. rw p (omega arith))

  pub before_first : (row : List A) (k : ℕ) → k < first_bad K row → K.good (get_or row k K.order.blank) ≡ true
  before_first [] k h = absurd (omega arith)
  before_first (a ∷ row) zero h = split (K.good a) (λ p. p) (λ p. absurd (omega (arith, rw p at h)))
  before_first (a ∷ row) (suc k) h = split (K.good a) (λ p. before_first row k (omega (arith, rw p at h))) (λ p. absurd (omega (arith, rw p at h)))

  pub at_first : (row : List A) → first_bad K row < length row → K.good (get_or row (first_bad K row) K.order.blank) ≡ false
  at_first [] h = absurd (omega arith)
  at_first (a ∷ row) h = split (K.good a) (λ p. rw p (at_first row (omega (arith, rw p at h)))) (λ p. rw p p)

  -- it is the length exactly where each column is accepted
  pub all_first : (row : List A) → ltb (first_bad K row) (length row) ≡ not (all K.good row)
  all_first [] = refl
  all_first (a ∷ row) = let i = all_first row in split (K.good a) (λ p. rw p (leb-suc-suc (suc (first_bad K row)) (length row) ∙ i)) (λ p. rw p (lt-ltb 0 (suc (length row)) (omega arith)))

  pub none_first : (row : List A) → all K.good row ≡ true → length row ≡ first_bad K row
  none_first row h = let e : ltb (first_bad K row) (length row) ≡ false = cc (all_first row) in omega (arith, ltb-false, first_within row)

  -- a row that was looked through
  module _ (row : List A) (n : ℕ) (e : n ≡ first_bad K row) where
    pub not_all : n < length row → all K.good row ≡ false
    not_all h = not-true _ (sym (all_first row) ∙ ap (λ k. ltb k (length row)) (sym e) ∙ lt-ltb n (length row) h)

    pub is_all : length row ≤ n → all K.good row ≡ true
    is_all h = not-false _ (sym (all_first row) ∙ ap (λ k. ltb k (length row)) (sym e) ∙ le-ltb n (length row) h)

  -- ---- a search that found the columns passed accepted

  abbrev pub Searched : List A → ℕ → Type 0
  Searched row i = (i ≤ length row) × (first_bad K row ≡ i + first_bad K (drop i row))

-- ---- a row of grey bytes: every byte is accepted, as itself

pub all_grey : (l : List ℕ) → all greys.good l ≡ true
all_grey [] = refl
all_grey (a ∷ l) = all_grey l

pub good_grey : (l : List ℕ) → length l ≤ first_bad greys l
good_grey l = omega (arith, none_first greys l (all_grey l))

pub taken_grey : (l : List ℕ) → map greys.taken l ≡ l
taken_grey [] = refl
taken_grey (a ∷ l) = ap (λ m. a ∷ m) (taken_grey l)

-- ---- a row of floats

-- what a finite row is read as, is accepted
pub clean_accepted : (row : List Float) → all finite row ≡ true → Each (λ x. accepted x ≡ true) (map plus_zero_of row)
clean_accepted [] h = tt
clean_accepted (x ∷ row) h = let b = both (finite x) (all finite row) h in (accepted_plus x b.0, clean_accepted row b.1)

-- a flag over the columns passed
pub all_more : (f : Float → Bool) (row : List Float) (i : ℕ) (good here : Bool) → i < length row → good ≡ all f (take i row) → here ≡ f (get_or row i nan) → (good && here) ≡ all f (take (i + 1) row)
all_more f row i good here h g e = rw (add-one, take-suc row i nan h, all_append f (take i row) (get_or row i nan ∷ []), and-true, g, e)

-- a row that is accepted is finite, and is read as it stands
pub accepted_row : (row : List Float) → Each (λ x. T (fits binary32 x)) row → all accepted row ≡ true → (all finite row ≡ true) × (map plus_zero_of row ≡ row)
accepted_row [] p h = (refl, refl)
accepted_row (x ∷ row) (p, ps) h =
    let (a, b) = both (accepted x) (all accepted row) h in
    let (f, _) = both (finite x) (not (negative_zero x)) a in
    let (e, q) = accepted_row row ps b in
    (rw (f, e) refl, rw (plus_accepted binary32 x p a, q) refl)
