-- "For each public function the answer, the state and all lent cells afterwards follow from its inputs alone": two outcomes that meet a promise are equal, the memory as the queues that it holds
-- and past the need. A refusal's outcomes are equal in every cell. By which idea: the queues after t steps rest on the first t rows, so that any accepted row can stand next in a picture that left them.
use mathlib.Core.Path.{◌≡◌, refl, sym, ap, ◌∙◌}
use mathlib.Core.Bool.{true, not}
use mathlib.Core.List.{List, [], ◌∷◌, map}
use Prim.Native.Nat.{ℕ, zero, suc, ◌+◌, ◌-◌, ◌≤◌, ◌<◌, min}
use native.Mathlib.Omega.{arith}
use borrow.Author.Tests.{leb-true, leb-false, not-false}
use lib.Dec.{leb}
use lib.ListN.{length, get_or, set, length-map, length-set}
use lib.Seq.{take-set-le, get_or-set_same}
use Rattle.morph.specs.Lists.{Each, all}
use Rattle.morph.specs.Picture.{Picture, apply_stage, across, column}
use Rattle.morph.proofs.Lists.{split, each_set, all_hold, each_map, each_weaken}
use Rattle.sample.specs.Samples.{Samples}
use Rattle.plan_record.specs.declared.Stage.{Stage}
use Rattle.morph.specs.Numbers.{given}
use Rattle.plan_record.specs.Plan.{used, filter_of, below_of, cells_of, plan_ahead}
use Rattle.morph.proofs.Numbers.{first_zero, given_zero}
use Rattle.morph.specs.Cell.{read_at}
use Rattle.morph.specs.Plan.{window, column_queue}
use Rattle.morph.proofs.Cell.{held_fresh, read_same}
use Rattle.memory.specs.Memory.{Memory, behind, stage_steps, kept_at, queue_at, Whole, Holds}
use Rattle.chain.proofs.Rests.{holds_rests}
use Rattle.picture_state.specs.declared.State.{State}
use Rattle.picture_state.specs.declared.Answer.{Answer}
use Rattle.picture_state.specs.declared.Answer.TheVariants.{Row, NotYet, Refused}
use Rattle.picture_state.specs.Numbers.{height_of, memory_judged, offer_number, row_number, drain_number, drain_judged}
use Rattle.picture_state.specs.Step.{row_said_of, row_said_at, Advanced, Unchanged, RowStep, DrainStep}
use Rattle.picture_state.specs.ReadOut.{queue_in, Shows}
use Rattle.morph.specs.Line.{Shown}
use Rattle.picture_state.proofs.Numbers.{offer_accepted, drain_accepted}
use Rattle.picture.specs.Same.{Equal, SameQueues, SameStep, SamePast}
use Rattle.picture.proofs.Reading.{shows_queue}

-- what an answer says tells the answer
pub answer_same : (a b : Answer) → row_said_of a ≡ row_said_of b → a ≡ b
answer_same (Row n c) (Row m d) e = cc
answer_same (Row n c) (NotYet d) e = let z : ◌≡◌ {A = ℕ} 0 1 = cc in absurd (omega arith)
answer_same (Row n c) (Refused m d) e = let z : ◌≡◌ {A = ℕ} 0 1 = cc in absurd (omega arith)
answer_same (NotYet c) (Row m d) e = let z : ◌≡◌ {A = ℕ} 0 1 = cc in absurd (omega arith)
answer_same (NotYet c) (NotYet d) e = cc
answer_same (NotYet c) (Refused m d) e = let z : ◌≡◌ {A = ℕ} 0 1 = cc in absurd (omega arith)
answer_same (Refused n c) (Row m d) e = let z : ◌≡◌ {A = ℕ} 0 1 = cc in absurd (omega arith)
answer_same (Refused n c) (NotYet d) e = let z : ◌≡◌ {A = ℕ} 0 1 = cc in absurd (omega arith)
answer_same (Refused n c) (Refused m d) e = cc

-- ---- what an accepted row is

module _ {A : Type 0} (K : Samples A) (kind : ℕ) (S : State) (M : Memory A) (pixels out : List A) (n : row_number K kind S M pixels out ≡ 0) where
  offer_zero : offer_number kind S (length pixels) (length out) (length M.values) (length M.positions) M.starts M.lengths ≡ 0
  unfolding row_number
  offer_zero = (first_zero (offer_number kind S (length pixels) (length out) (length M.values) (length M.positions) M.starts M.lengths) (given 8 (not (all K.good pixels)) ∷ []) n).0

  row_good : all K.good pixels ≡ true
  unfolding row_number
  row_good =
      let (_, b) = first_zero (offer_number kind S (length pixels) (length out) (length M.values) (length M.positions) M.starts M.lengths) (given 8 (not (all K.good pixels)) ∷ []) n in
      not-false _ (given_zero 7 _ (first_zero (given 8 (not (all K.good pixels))) [] b).0)

  -- it is in turn, has a number and is as wide as the picture, the memory lent is in order, and its pixels, as they are read, are accepted ones
  pub record Offered : Type 0 where
    pub lent : memory_judged kind S M ≡ 0
    pub within : S.step < height_of S
    pub low : height_of S ≤ 4294967296
    pub wide : length (map K.taken pixels) ≡ S.width
    pub given : Each (λ a. K.good a ≡ true) pixels
    pub good : Each (λ a. K.good a ≡ true) (map K.taken pixels)

  pub row_offered : Offered
  row_offered =
      let o = offer_accepted kind S (length M.values) (length M.positions) M.starts M.lengths (length pixels) (length out) offer_zero in
      let g = all_hold K.good pixels row_good in
      record { lent = o.judged; within = o.within; low = o.low; wide = length-map pixels K.taken ∙ o.wide; given = g; good = each_map _ K.taken pixels (each_weaken _ _ pixels K.keeps g) }

-- ---- memories that hold the same queues

module _ {A : Type 0} (K : Samples A) where
  -- what one holds the other holds: no cell outside a queue is looked at, nor where a queue starts
  holds_same : (ss : List Stage) (W : ℕ) (p : Picture A) (t : ℕ) (M N : Memory A)
      → ((i x : ℕ) → i < length ss → x < W → kept_at K ss W M i x ≡ kept_at K ss W N i x) → Holds K ss W p t M → Holds K ss W p t N
  unfolding Holds kept_at
  holds_same [] W p t M N e h = tt
  holds_same (s ∷ ss) W p t M N e h = (
    λ x l. ap (map (read_at (min t (length p + below_of s)))) (sym (e 0 x (omega arith) l)) ∙ h.0 x l,
    holds_same ss W (apply_stage (filter_of K.order s) p) (t - below_of s) (behind (cells_of W s) W M) (behind (cells_of W s) W N) (λ i x a b. e (suc i) x (omega arith) b) h.1,
  )

  -- and memories that hold the same have the same queues, cell by cell: each entry is of the window, so that its row tells its remainder
  kept_same : (ss : List Stage) (W : ℕ) (p : Picture A) (t : ℕ) (M N : Memory A) → Holds K ss W p t M → Holds K ss W p t N
      → (i x : ℕ) → i < length ss → x < W → kept_at K ss W M i x ≡ kept_at K ss W N i x
  unfolding Holds kept_at column_queue
  kept_same [] W p t M N h k i x a b = absurd (omega arith)
  kept_same (s ∷ ss) W p t M N h k zero x a b =
      let F = filter_of K.order s in
      let u = min t (length p + below_of s) in
      let xs = column F x (across F p) in
      read_same (window F) u (kept_at K (s ∷ ss) W M 0 x) (kept_at K (s ∷ ss) W N 0 x) (held_fresh F.order (window F) xs u (kept_at K (s ∷ ss) W M 0 x) (h.0 x b))
      (held_fresh F.order (window F) xs u (kept_at K (s ∷ ss) W N 0 x) (k.0 x b)) (h.0 x b ∙ sym (k.0 x b))
  kept_same (s ∷ ss) W p t M N h k (suc i) x a b =
      kept_same ss W (apply_stage (filter_of K.order s) p) (t - below_of s) (behind (cells_of W s) W M) (behind (cells_of W s) W N) h.1 k.1 i x (omega arith) b

  module _ (S : State) where
    pub held_same : (p : Picture A) (t : ℕ) (M N : Memory A) → Holds K (used S.plan) S.width p t M → Holds K (used S.plan) S.width p t N → SameQueues K S M N
    held_same p t M N h k = kept_same (used S.plan) S.width p t M N h k

    -- such memories are judged alike, where both are in order
    module _ (kind : ℕ) (M N : Memory A) (a : memory_judged kind S M ≡ 0) (b : memory_judged kind S N ≡ 0) where
      pub numbers_same : (pixels out : List A) → (row_number K kind S M pixels out ≡ row_number K kind S N pixels out) × (drain_judged kind S M out ≡ drain_judged kind S N out)
      unfolding row_number offer_number drain_number
      numbers_same pixels out = (rw (a, b), rw (a, b))

      queue_same : (stage column : ℕ) → kept_at K (used S.plan) S.width M stage column ≡ kept_at K (used S.plan) S.width N stage column → queue_in K S M stage column ≡ queue_in K S N stage column
      unfolding queue_at
      queue_same stage column e = ap (map (read_at (stage_steps (used S.plan) (height_of S) S.step stage))) e

      pub read_out_same : SameQueues K S M N → (stage column place : ℕ) (r q : Shown A) → Shows K kind S M stage column place r → Shows K kind S N stage column place q → r ≡ q
      read_out_same e stage column place r q h k =
          let Q = queue_in K S N stage column in
          shows_queue K kind S M stage column place r Q a h (λ i x. queue_same stage column (e stage column i x)) ∙ sym (shows_queue K kind S N stage column place q Q b k (λ _ _. refl))

-- ---- two outcomes

module _ {A : Type 0} (K : Samples A) (S : State) where
  unchanged_equal : (n c : ℕ) (M : Memory A) (out : List A) (M₁ M₂ : Memory A) (out₁ out₂ : List A) (a₁ a₂ : Answer) (S₁ S₂ : State)
      → Unchanged K n c S M out M₁ out₁ a₁ S₁ → Unchanged K n c S M out M₂ out₂ a₂ S₂ → Equal M₁ M₂ out₁ out₂ a₁ a₂ S₁ S₂
  unchanged_equal n c M out M₁ M₂ out₁ out₂ a₁ a₂ S₁ S₂ h k = record {
    answer = answer_same a₁ a₂ (h.said ∙ sym k.said);
    state = h.state ∙ sym k.state;
    output = h.output ∙ sym k.output;
    memory = h.memory ∙ sym k.memory;
  }

  advanced_same : (M N : Memory A) → SameQueues K S M N → (pixels out : List A) (M₁ M₂ : Memory A) (out₁ out₂ : List A) (a₁ a₂ : Answer) (S₁ S₂ : State)
      → Advanced K S M pixels out M₁ out₁ a₁ S₁ → Advanced K S N pixels out M₂ out₂ a₂ S₂
      → (p : Picture A) → Whole K S.width (height_of S) p → Holds K (used S.plan) S.width p S.step M → (S.step < height_of S → pixels ≡ get_or p S.step [])
      → SameStep K S M₁ M₂ out₁ out₂ a₁ a₂ S₁ S₂
  advanced_same M N e pixels out M₁ M₂ out₁ out₂ a₁ a₂ S₁ S₂ h k p whole holds given =
      let (x, y, z) = h.told p whole holds given in
      let (u, v, w) = k.told p whole (holds_same K (used S.plan) S.width p S.step M N e holds) given in
      let D = plan_ahead S.plan in
      let c : h.comparisons ≡ k.comparisons = y ∙ sym v in
      record {
        answer = answer_same a₁ a₂ (h.said ∙ ap (row_said_at (leb D S.step) (S.step - D)) c ∙ sym k.said);
        state = h.state ∙ sym k.state;
        output = split (leb D S.step) (λ d. z (leb-true D S.step d) ∙ sym (w (leb-true D S.step d))) (λ d. h.early (leb-false D S.step d) ∙ sym (k.early (leb-false D S.step d)));
        queues = held_same K S p (S.step + 1) M₁ M₂ x u;
      }

  -- a picture that left the memory goes on with the row
  goes_on : (kind : ℕ) (M : Memory A) (pixels out : List A) → row_number K kind S M pixels out ≡ 0 → (p : Picture A) → Whole K S.width (height_of S) p → Holds K (used S.plan) S.width p S.step M
      → (q : Picture A) × Whole K S.width (height_of S) q × Holds K (used S.plan) S.width q S.step M × (map K.taken pixels ≡ get_or q S.step [])
  goes_on kind M pixels out n p whole holds =
      let o = row_offered K kind S M pixels out n in
      let new = map K.taken pixels in
      let q = set p S.step new in (
        q,
        record {
          wide = each_set _ p S.step new whole.wide o.wide;
          high = length-set p S.step new ∙ whole.high;
          good = each_set _ p S.step new whole.good o.good;
        },
        holds_rests K S.width (used S.plan) p q S.step M (sym (length-set p S.step new)) (sym (take-set-le S.step p S.step new (omega arith))) holds,
        sym (get_or-set_same p S.step new [] (omega (arith, o.within, whole.high))),
      )

  -- ---- the calls on two memories that hold the same queues: neither where a queue starts nor what stands outside it is seen by a later call

  module _ (kind : ℕ) (M N : Memory A) (e : SameQueues K S M N) (M₁ M₂ : Memory A) (out out₁ out₂ : List A) (a₁ a₂ : Answer) (S₁ S₂ : State) where
    pub row_same : (pixels : List A) → RowStep K kind S M pixels out M₁ out₁ a₁ S₁ → RowStep K kind S N pixels out M₂ out₂ a₂ S₂ → row_number K kind S M pixels out ≡ 0
        → row_number K kind S N pixels out ≡ 0 → (p : Picture A) → Whole K S.width (height_of S) p → Holds K (used S.plan) S.width p S.step M → SameStep K S M₁ M₂ out₁ out₂ a₁ a₂ S₁ S₂
    row_same pixels h k n m p whole holds =
        let (q, w, g, r) = goes_on kind M pixels out n p whole holds in
        advanced_same M N e (map K.taken pixels) out M₁ M₂ out₁ out₂ a₁ a₂ S₁ S₂ (h.accepted n) (k.accepted m) q w g (λ _. r)

    pub drain_same : DrainStep K kind S M out M₁ out₁ a₁ S₁ → DrainStep K kind S N out M₂ out₂ a₂ S₂ → drain_judged kind S M out ≡ 0 → drain_judged kind S N out ≡ 0
        → (p : Picture A) → Whole K S.width (height_of S) p → Holds K (used S.plan) S.width p S.step M → SameStep K S M₁ M₂ out₁ out₂ a₁ a₂ S₁ S₂
    drain_same h k n m p whole holds =
        let l = (drain_accepted kind S (length M.values) (length M.positions) M.starts M.lengths (length out) n).read in
        advanced_same M N e [] out M₁ M₂ out₁ out₂ a₁ a₂ S₁ S₂ (h.accepted n) (k.accepted m) p whole holds (λ b. absurd (omega arith))

  -- ---- the promises of a call

  module _ (kind : ℕ) (M : Memory A) (M₁ M₂ : Memory A) (out out₁ out₂ : List A) (a₁ a₂ : Answer) (S₁ S₂ : State) where
    pub row_refusal_unique : (pixels : List A) → RowStep K kind S M pixels out M₁ out₁ a₁ S₁ → RowStep K kind S M pixels out M₂ out₂ a₂ S₂ → (row_number K kind S M pixels out ≡ 0 → ⊥)
        → Equal M₁ M₂ out₁ out₂ a₁ a₂ S₁ S₂
    row_refusal_unique pixels h k n = unchanged_equal _ _ M out M₁ M₂ out₁ out₂ a₁ a₂ S₁ S₂ (h.refusal n) (k.refusal n)

    pub row_unique : (pixels : List A) → RowStep K kind S M pixels out M₁ out₁ a₁ S₁ → RowStep K kind S M pixels out M₂ out₂ a₂ S₂ → row_number K kind S M pixels out ≡ 0
        → (p : Picture A) → Whole K S.width (height_of S) p → Holds K (used S.plan) S.width p S.step M → SameStep K S M₁ M₂ out₁ out₂ a₁ a₂ S₁ S₂ × SamePast K S M₁ M₂
    row_unique pixels h k n p whole holds = (
      row_same kind M M (λ i x a b. refl) M₁ M₂ out out₁ out₂ a₁ a₂ S₁ S₂ pixels h k n n p whole holds,
      (h.accepted n).past ∙ sym (k.accepted n).past,
    )

    pub drain_refusal_unique : DrainStep K kind S M out M₁ out₁ a₁ S₁ → DrainStep K kind S M out M₂ out₂ a₂ S₂ → (drain_judged kind S M out ≡ 0 → ⊥) → Equal M₁ M₂ out₁ out₂ a₁ a₂ S₁ S₂
    drain_refusal_unique h k n = unchanged_equal _ _ M out M₁ M₂ out₁ out₂ a₁ a₂ S₁ S₂ (h.refusal n) (k.refusal n)

    pub drain_unique : DrainStep K kind S M out M₁ out₁ a₁ S₁ → DrainStep K kind S M out M₂ out₂ a₂ S₂ → drain_judged kind S M out ≡ 0
        → (p : Picture A) → Whole K S.width (height_of S) p → Holds K (used S.plan) S.width p S.step M → SameStep K S M₁ M₂ out₁ out₂ a₁ a₂ S₁ S₂ × SamePast K S M₁ M₂
    drain_unique h k n p whole holds = (
      drain_same kind M M (λ i x a b. refl) M₁ M₂ out out₁ out₂ a₁ a₂ S₁ S₂ h k n n p whole holds,
      (h.accepted n).past ∙ sym (k.accepted n).past,
    )
