-- What an accepted plan, size, state and memory have: the numbers read back as facts.
use mathlib.Core.Path.{◌≡◌, refl, sym, ap, ◌∙◌}
use mathlib.Core.Bool.{Bool, true, false, not, ◌&&◌, ◌||◌, and-true, and_assoc, false≢true}
use mathlib.Core.List.{List, [], ◌∷◌, ◌++◌}
use Prim.Native.Nat.{ℕ, suc, ◌+◌, ◌-◌, ◌*◌, ◌≤◌, ◌<◌, min}
use native.Mathlib.Nat.{zero-mul, mul-le-mul_right}
use native.Mathlib.Numerals.{add-one}
use native.Mathlib.Omega.{arith}
use borrow.Author.Tests.{eqb-true, ltb-false, leb-false, not-false, eq-eqb, ne_eqb, lt-leb, le-ltb}
use lib.Dec.{eqb, ltb}
use lib.ListN.{length, get_or, take, drop, length-take, length-drop}
use lib.Seq.{get_or-take, take-suc, drop-drop, length-take-le}
use Rattle.morph.specs.Lists.{Each}
use Rattle.morph.proofs.Lists.{neither, each_in, in_place}
use Rattle.morph.specs.Numbers.{given, first_of, outside}
use Rattle.morph.proofs.Numbers.{first_one, first_skip, first_zero, given_zero, found, skip, inside}
use Rattle.plan_record.specs.declared.Stage.{Stage}
use Rattle.plan_record.specs.declared.Plan.{Plan}
use Rattle.plan_record.specs.Numbers.{sample_number, size_number}
use Rattle.plan_record.specs.Plan.{unused, used, total, below_of, size_of, record_number, cells_needed, records_needed, plan_ahead}
use Rattle.plan_record.specs.Inner.{Small}
use Rattle.plan_record.proofs.Numbers.{size_accepted}
use Rattle.plan_record.proofs.Named.{judged_count, judged_stage}
use Rattle.stage.proofs.Stage.{ahead_small}
use Rattle.memory.specs.Memory.{sound_records, all_sound}
use Rattle.picture_state.specs.declared.State.{State}
use Rattle.picture_state.specs.declared.Ending.{Ending}
use Rattle.picture_state.specs.declared.Ending.TheVariants.{Fixed, Open, Stopped}
use Rattle.picture_state.specs.Inner.{Accepted, StateSound}
use Rattle.picture_state.specs.Numbers.{height_in, height_of, size_in, is_step_off, is_all_read, is_past_last, has_no_drain, is_not_open, memory_number, state_number, state_kind_number, records_number, shared_number, lent_number, offer_number, drain_number}

pub plan_accepted : (plan : Plan) → record_number plan ≡ 0 → Accepted plan
plan_accepted plan e = let (a, b) = judged_count plan e in record { some = a; few = b; small = judged_stage plan e }

-- each stage of an accepted plan is small, and its look-ahead is
pub used_small : (plan : Plan) → Accepted plan → Each Small (used plan)
used_small plan h =
    each_in (used plan) (λ s i.
    let (k, l, e) = in_place unused (used plan) s i in
    let m : k < plan.count = omega (arith, rw length-take at l) in
    rw (e, get_or-take plan.count plan.stages k unused m) (h.small k m))

total_small : (ss : List Stage) → Each Small ss → total below_of ss ≤ length ss * 31
total_small [] h = omega arith
total_small (s ∷ ss) h = omega (arith, total_small ss h.1, ahead_small s.kind s.up s.down h.0.up h.0.down)

pub ahead_few : (plan : Plan) → Accepted plan → plan_ahead plan ≤ 496
ahead_few plan h = omega (arith, total_small (used plan) (used_small plan h), length-take plan.count plan.stages, h.few)

-- ---- what an accepted state has

-- the rows that a step knows of, where they are the state's
pub height_fixed : (e : Ending) (rows step : ℕ) → is_not_open e ≡ true → height_in e rows step ≡ rows
height_fixed Fixed rows step h = refl
height_fixed Open rows step h = absurd (false≢true h)
height_fixed Stopped rows step h = refl

-- what the size and the step count say, of a plan with look-ahead D
record Sized (e : Ending) (width rows D step : ℕ) : Type 0 where
  wide : 0 < width
  narrow : width ≤ 4096
  high : 0 < height_in e rows step
  low : height_in e rows step ≤ 4294967297
  within : step ≤ height_in e rows step + D
  counted : step ≤ 4294967296 + D
  closed : is_not_open e ≡ true → rows ≤ 4294967296

read_size : (width rows : ℕ) → size_in Stopped width rows ≡ 0 → (size_number width 1 ≡ 0) × (0 < rows) × (rows ≤ 4294967296)
read_size width rows z =
    let (a, b) = first_zero (size_number width 1) (given 4 (outside 4294967296 rows) ∷ []) z in
    let (c, _) = first_zero (given 4 (outside 4294967296 rows)) [] b in
    let (d, f) = inside 4294967296 rows (given_zero 3 _ c) in
    (a, d, f)

-- its number, way by way
module _ (width rows : ℕ) where
  abbrev after_width : List ℕ
  after_width = given 4 (outside 4294967296 rows) ∷ []

  module _ (z : size_number width 1 ≡ 0) where
    pub read_all : (rows ≡ 0 → ⊥) → rows ≤ 4294967296 → 0 ≡ size_in Stopped width rows
    read_all h k = skip (size_number width 1) after_width z (rw (ne_eqb rows 0 h, le-ltb 4294967296 rows k))

sized : (e : Ending) (width rows D step : ℕ) → size_in e width rows ≡ 0 → is_step_off e rows D step ≡ false → Sized e width rows D step
sized Fixed width rows D step z o =
    let (w, x, y, l) = size_accepted width rows z in
    let h = ltb-false (rows + D) step o in
    record { wide = w; narrow = x; high = y; low = omega arith; within = h; counted = omega arith; closed = λ _. omega arith }
sized Open width rows D step z o =
    let (w, x, _, _) = size_accepted width 1 z in
    let h = ltb-false 4294967296 step o in
    record { wide = w; narrow = x; high = omega arith; low = omega arith; within = omega arith; counted = omega arith; closed = λ h. absurd (false≢true h) }
sized Stopped width rows D step z o =
    let (a, b, c) = read_size width rows z in
    let (w, x, _, _) = size_accepted width 1 a in
    let (_, g) = neither (ltb step rows) _ o in
    let h = ltb-false (rows + D) step g in
    record { wide = w; narrow = x; high = b; low = omega arith; within = h; counted = omega arith; closed = λ _. c }

-- while the rows count, they are few
pub rows_few : (e : Ending) (width rows : ℕ) → size_in e width rows ≡ 0 → is_not_open e ≡ true → rows ≤ 4294967296
rows_few Fixed width rows z h = let (_, _, _, l) = size_accepted width rows z in omega arith
rows_few Open width rows z h = absurd (false≢true h)
rows_few Stopped width rows z h = (read_size width rows z).2

pub state_accepted : (S : State) → state_number S ≡ 0 → (record_number S.plan ≡ 0) × StateSound S
unfolding state_number
state_accepted S e =
    let (a, b) = neither (not (eqb (record_number S.plan) 0) || not (eqb (sample_number S.sample) 0) || not (eqb (size_in S.ending S.width S.rows) 0)) _ (given_zero 11 _ e) in
    let (c, d) = neither (not (eqb (record_number S.plan) 0) || not (eqb (sample_number S.sample) 0)) _ a in
    let (f, g) = neither (not (eqb (record_number S.plan) 0)) _ c in
    let p = eqb-true (record_number S.plan) 0 (not-false _ f) in
    let q = plan_accepted S.plan p in
    let z = sized S.ending S.width S.rows (plan_ahead S.plan) S.step (eqb-true (size_in S.ending S.width S.rows) 0 (not-false _ d)) b in
    (p, record { plan = q; wide = z.wide; narrow = z.narrow; high = z.high; low = z.low; within = z.within; counted = omega (arith, z.counted, ahead_few S.plan q); closed = z.closed })

-- ---- the loop over the column records

module _ (W : ℕ) where
  -- one stage more, whose records begin after those of the stages before it
  sound_more : (ss : List Stage) (s : Stage) (starts lengths : List ℕ) → all_sound W (ss ++ (s ∷ [])) starts lengths
      ≡ (all_sound W ss starts lengths && sound_records (size_of s) (take W (drop (length ss * W) starts)) (take W (drop (length ss * W) lengths)))
  unfolding all_sound
  sound_more [] s starts lengths = rw (zero-mul W) (and-true _)
  sound_more (r ∷ ss) s starts lengths =
      let e : suc (length ss) * W ≡ W + length ss * W = omega arith in
      rw (sound_more ss s (drop W starts) (drop W lengths), drop-drop (length ss * W) W starts, drop-drop (length ss * W) W lengths, e) (sym (and_assoc (sound_records (size_of r) (take W starts) (take W lengths)) _ _))

  module _ (ss : List Stage) (starts lengths : List ℕ) where
    pub sound_first : true ≡ all_sound W [] starts lengths
    unfolding all_sound
    sound_first = refl

    pub sound_next : (i lo : ℕ) (good here : Bool) (P : ℕ) → i < length ss → lo ≡ i * W → good ≡ all_sound W (take i ss) starts lengths → P ≡ size_of (get_or ss i unused)
        → here ≡ sound_records P (take (lo + W - lo) (drop lo starts)) (take (lo + W - lo) (drop lo lengths)) → (good && here) ≡ all_sound W (take (i + 1) ss) starts lengths
    sound_next i lo good here P l e g p h =
        let m : lo + W - lo ≡ W = omega arith in
        let n : length (take i ss) * W ≡ lo = rw (length-take-le i ss (omega arith)) (sym e) in
        rw (add-one i, take-suc ss i unused l, sound_more (take i ss) (get_or ss i unused) starts lengths, n) (cc (rw (m, p) at h))

  -- the records of stage i are there
  pub records_there : (plan : Plan) (i lo n : ℕ) → i < plan.count → lo ≡ i * W → records_needed plan W ≤ n → lo + W ≤ n
  records_there plan i lo n l e h = omega (arith, mul-le-mul_right W l)

-- a place among the stages in use
pub in_use : (plan : Plan) (i : ℕ) → i < length (used plan) → i < plan.count
in_use plan i h = omega (arith, length-take plan.count plan.stages)

pub used_at : (plan : Plan) (i : ℕ) → i < length (used plan) → Accepted plan → Small (get_or (used plan) i unused)
used_at plan i h k = rw (get_or-take plan.count plan.stages i unused (in_use plan i h)) (k.small i (in_use plan i h))

-- two parts that are cut alike are as long as each other
pub cut_long : (lo W : ℕ) (l m : List ℕ) → lo + W ≤ length l → lo + W ≤ length m → length (take (lo + W - lo) (drop lo l)) ≡ length (take (lo + W - lo) (drop lo m))
cut_long lo W l m h k = length-take-le (lo + W - lo) (drop lo l) (rw length-drop (omega arith)) ∙ sym (length-take-le (lo + W - lo) (drop lo m) (rw length-drop (omega arith)))

-- ---- the numbers that every step shares

pub memory_accepted : (plan : Plan) (width cells records : ℕ) → memory_number plan width cells records ≡ 0 → (cells_needed plan width ≤ cells) × (records_needed plan width ≤ records)
unfolding memory_number
memory_accepted plan width cells records e =
    let (a, b) = neither (ltb cells (cells_needed plan width)) _ (given_zero 5 _ e) in (ltb-false cells (cells_needed plan width) a, ltb-false records (records_needed plan width) b)

module _ (kind : ℕ) (S : State) (cells records : ℕ) (starts lengths : List ℕ) where
  abbrev shared : ℕ
  shared = shared_number kind S cells records starts lengths

  -- what is left to judge after the state, the kind and the memory
  abbrev after_memory : List ℕ
  after_memory = records_number S starts lengths ∷ []

  abbrev after_kind : List ℕ
  after_kind = memory_number S.plan S.width cells records ∷ after_memory

  abbrev after_state : List ℕ
  after_state = state_kind_number kind S ∷ after_kind

  pub shared_state : (n : ℕ) → n ≡ state_number S → (n ≡ 0 → ⊥) → n ≡ shared
  unfolding shared_number
  shared_state n e h = found (state_number S) after_state e h

  module _ (a : state_number S ≡ 0) where
    module _ (b : S.sample ≡ kind) where
      past_kind : shared ≡ first_of (memory_number S.plan S.width cells records ∷ records_number S starts lengths ∷ [])
      unfolding shared_number
      past_kind = first_skip (state_number S) after_state a ∙ rw (eq-eqb S.sample kind b)

      pub shared_records : (r : Bool) → memory_number S.plan S.width cells records ≡ 0 → r ≡ all_sound S.width (used S.plan) starts lengths → given 12 (not r) ≡ shared
      shared_records r m e = sym (past_kind ∙ first_skip (memory_number S.plan S.width cells records) after_memory m ∙ first_one (records_number S starts lengths) ∙ ap (λ g. given 12 (not g)) (sym e))

  -- and nothing is wrong: what that says
  pub record Shared : Type 0 where
    pub judged : record_number S.plan ≡ 0
    pub run : StateSound S
    pub sample : S.sample ≡ kind
    pub cells_lent : cells_needed S.plan S.width ≤ cells
    pub records_lent : records_needed S.plan S.width ≤ records
    pub sound : all_sound S.width (used S.plan) starts lengths ≡ true

  pub shared_accepted : shared ≡ 0 → Shared
  unfolding shared_number
  shared_accepted e =
      let (a, b) = first_zero (state_number S) after_state e in
      let (c, d) = first_zero (state_kind_number kind S) after_kind b in
      let (f, g) = first_zero (memory_number S.plan S.width cells records) after_memory d in
      let (h, _) = first_zero (records_number S starts lengths) [] g in
      let (p, q) = state_accepted S a in
      let (x, y) = memory_accepted S.plan S.width cells records f in
      record {
        judged = p;
        run = q;
        sample = eqb-true S.sample kind (not-false _ (given_zero 4 _ c));
        cells_lent = x;
        records_lent = y;
        sound = not-false _ (given_zero 11 _ h);
      }

-- ---- the numbers of a row call and of a drain

-- what the tests of a row and of a drain say
row_left : (e : Ending) (rows step : ℕ) → (is_not_open e ≡ true → rows ≤ 4294967296) → is_all_read e rows step ≡ false → is_past_last e step ≡ false → (step < height_in e rows step) × (height_in e rows step ≤ 4294967296)
row_left Fixed rows step l a b = (leb-false rows step a, l refl)
row_left Open rows step l a b = let c = leb-false 4294967296 step b in (omega arith, omega arith)
row_left Stopped rows step l a b = absurd (false≢true (sym a))

drain_left : (e : Ending) (rows D step : ℕ) → has_no_drain e rows D step ≡ false → (is_not_open e ≡ true) × (rows ≤ step) × (step < rows + D)
drain_left Fixed rows D step a = let (b, c) = neither (ltb step rows) _ a in (refl, ltb-false step rows b, leb-false (rows + D) step c)
drain_left Open rows D step a = absurd (false≢true (sym a))
drain_left Stopped rows D step a = let (b, c) = neither (ltb step rows) _ a in (refl, ltb-false step rows b, leb-false (rows + D) step c)

-- and back: of a fixed run, and of one that has been stopped
pub fixed_reads : (e : Ending) (rows step : ℕ) → e ≡ Fixed → step < rows → (is_all_read e rows step ≡ false) × (is_past_last e step ≡ false)
fixed_reads e rows step h l = rw h (lt-leb rows step l, refl)

pub closed_drains : (e : Ending) (rows D step : ℕ) → is_not_open e ≡ true → rows ≤ step → step < rows + D → has_no_drain e rows D step ≡ false
closed_drains Fixed rows D step h a b = rw (le-ltb step rows a, lt-leb (rows + D) step b)
closed_drains Open rows D step h a b = absurd (false≢true h)
closed_drains Stopped rows D step h a b = rw (le-ltb step rows a, lt-leb (rows + D) step b)

module _ (kind : ℕ) (S : State) (values positions : ℕ) (starts lengths : List ℕ) where
  abbrev lent : ℕ
  lent = lent_number kind S values positions starts lengths

  abbrev read : Bool
  read = is_all_read S.ending S.rows S.step

  abbrev past : Bool
  past = is_past_last S.ending S.step

  abbrev done : Bool
  done = has_no_drain S.ending S.rows (plan_ahead S.plan) S.step

  sound : lent ≡ 0 → StateSound S
  sound z = (shared_accepted kind S (min values positions) (min (length starts) (length lengths)) starts lengths z).run

  module _ (row out : ℕ) where
    -- what is left to judge after the memory, 9 and 28
    abbrev after_last : List ℕ
    after_last = given 7 (not (eqb row S.width) || not (eqb out S.width)) ∷ []

    abbrev after_nine : List ℕ
    after_nine = given 28 past ∷ after_last

    abbrev offered : List ℕ
    offered = given 9 read ∷ after_nine

    offer_past : lent ≡ 0 → first_of offered ≡ offer_number kind S row out values positions starts lengths
    unfolding offer_number
    offer_past z = sym (first_skip lent offered z)

    module _ (z : lent ≡ 0) where
      module _ (a : read ≡ false) where
        module _ (b : past ≡ false) where
          pub offer_all : row ≡ S.width → out ≡ S.width → 0 ≡ offer_number kind S row out values positions starts lengths
          offer_all c d = simp (a, b, eq-eqb row S.width c, eq-eqb out S.width d) at (offer_past z)

    -- nothing is wrong: what that says
    pub record OfferTaken : Type 0 where
      pub judged : lent ≡ 0
      pub within : S.step < height_of S
      pub low : height_of S ≤ 4294967296
      pub wide : row ≡ S.width
      pub out_wide : out ≡ S.width

    pub offer_accepted : offer_number kind S row out values positions starts lengths ≡ 0 → OfferTaken
    unfolding offer_number
    offer_accepted e =
        let (a, b) = first_zero lent offered e in
        let (c, d) = first_zero (given 9 read) after_nine b in
        let (f, g) = first_zero (given 28 past) after_last d in
        let (h, _) = first_zero (given 7 (not (eqb row S.width) || not (eqb out S.width))) [] g in
        let (i, j) = neither (not (eqb row S.width)) _ (given_zero 6 _ h) in
        let (w, l) = row_left S.ending S.rows S.step (sound a).closed (given_zero 8 _ c) (given_zero 27 _ f) in
        record { judged = a; within = w; low = l; wide = eqb-true row S.width (not-false _ i); out_wide = eqb-true out S.width (not-false _ j) }

  module _ (out : ℕ) where
    abbrev after_ten : List ℕ
    after_ten = given 7 (not (eqb out S.width)) ∷ []

    abbrev asked : List ℕ
    asked = given 10 done ∷ after_ten

    drain_past : lent ≡ 0 → first_of asked ≡ drain_number kind S out values positions starts lengths
    unfolding drain_number
    drain_past z = sym (first_skip lent asked z)

    module _ (z : lent ≡ 0) where
      module _ (a : done ≡ false) where
        pub drain_all : out ≡ S.width → 0 ≡ drain_number kind S out values positions starts lengths
        drain_all b = simp (a, eq-eqb out S.width b) at (drain_past z)

    -- nothing is wrong: what that says
    pub record DrainTaken : Type 0 where
      pub judged : lent ≡ 0
      pub closed : is_not_open S.ending ≡ true
      pub read : height_of S ≤ S.step
      pub within : S.step < height_of S + plan_ahead S.plan
      pub low : height_of S ≤ 4294967296
      pub out_wide : out ≡ S.width

    pub drain_accepted : drain_number kind S out values positions starts lengths ≡ 0 → DrainTaken
    unfolding drain_number
    drain_accepted e =
        let (a, b) = first_zero lent asked e in
        let (c, d) = first_zero (given 10 done) after_ten b in
        let (f, _) = first_zero (given 7 (not (eqb out S.width))) [] d in
        let (g, h, i) = drain_left S.ending S.rows (plan_ahead S.plan) S.step (given_zero 9 _ c) in
        let k = height_fixed S.ending S.rows S.step g in
        let l = (sound a).closed g in
        record { judged = a; closed = g; read = omega arith; within = omega arith; low = omega arith; out_wide = eqb-true out S.width (not-false _ (given_zero 6 _ f)) }
