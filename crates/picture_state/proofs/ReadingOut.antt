-- The laws of a read-out: its number, the part of the memory that is a stage's own, and what stands at a place of a queue of it.
use mathlib.Core.Path.{◌≡◌, refl, sym, ap, ◌∙◌}
use mathlib.Core.Bool.{Bool, true, false, cond, ◌||◌}
use mathlib.Core.List.{List, [], ◌∷◌, map}
use Prim.Native.Nat.{ℕ, zero, suc, ◌+◌, ◌-◌, ◌*◌, ◌≤◌, ◌<◌, min}
use native.Mathlib.Nat.{sub-zero, zero-mul, not-suc-le-zero, mul-le-mul_right}
use native.Mathlib.Omega.{arith}
use borrow.Author.Tests.{le-leb, lt-leb, leb-false}
use lib.Dec.{leb}
use lib.ListN.{length, get_or, take, drop, length-take, length-drop, length-map}
use lib.Seq.{length-take-le, drop-drop, take-take, get_or-take}
use Rattle.morph.specs.Line.{Entry, Shown, found, refused}
use Rattle.morph.specs.Picture.{Picture, apply_stage, apply_plan, look_ahead_of}
use Rattle.morph.specs.Plan.{column_queue, plan_queue}
use Rattle.morph.proofs.Lists.{both, neither}
use Rattle.morph.proofs.Picture.{stage_length}
use Rattle.morph.specs.Numbers.{given, first_of}
use Rattle.morph.proofs.Numbers.{first_one, first_skip, first_zero, given_zero}
use Rattle.sample.specs.Samples.{Samples}
use Rattle.columns.specs.Inner.{Lent, EntryAt}
use Rattle.morph.specs.Cell.{read_at}
use Rattle.memory.specs.Memory.{Memory, behind, stage_steps, column_at, kept_at, queue_at, sound_records, all_sound, Holds}
use Rattle.columns.proofs.Column.{column_length}
use Rattle.memory.proofs.Records.{test_sound}
use Rattle.plan_record.specs.declared.Stage.{Stage}
use Rattle.plan_record.specs.declared.Plan.{Plan}
use Rattle.plan_record.specs.Plan.{unused, used, filter_of, size_of, below_of, cells_of, total, cells_needed, records_needed}
use Rattle.picture_state.specs.declared.State.{State}
use Rattle.picture_state.specs.Inner.{Accepted, Fit, placed_number, place_shown}
use Rattle.picture_state.specs.Numbers.{height_of, lent_number, memory_judged}
use Rattle.picture_state.specs.ReadOut.{queue_in, read_out_number, Shows}
use Rattle.picture_state.proofs.Step.{judged_fit}

-- ---- the number, but for the queue's place

module _ (kind : ℕ) (S : State) (stage column values positions : ℕ) (starts lengths : List ℕ) where
  abbrev lent : ℕ
  lent = lent_number kind S values positions starts lengths

  abbrev named : List ℕ
  named = given 11 (leb S.plan.count stage || leb S.width column) ∷ []

  abbrev placed : ℕ
  placed = placed_number kind S stage column values positions starts lengths

  pub place_accepted : placed ≡ 0 → (lent ≡ 0) × (stage < S.plan.count) × (column < S.width)
  unfolding placed_number
  place_accepted e =
      let (a, b) = first_zero lent named e in
      let (c, _) = first_zero (given 11 (leb S.plan.count stage || leb S.width column)) [] b in
      let (f, g) = neither (leb S.plan.count stage) _ (given_zero 10 _ c) in
      (a, leb-false S.plan.count stage f, leb-false S.width column g)

-- a number that is there stays, whatever else breaks the last rule
first_stays : (l : ℕ) (x c : Bool) → (first_of (l ∷ given 11 x ∷ []) ≡ 0 → ⊥) → first_of (l ∷ given 11 (x || c) ∷ []) ≡ first_of (l ∷ given 11 x ∷ [])
first_stays zero true c h = refl
first_stays zero false c h = absurd (h refl)
first_stays (suc l) x c h = refl

-- ---- what an answer says of a place

module _ {A : Type 0} where
  answers : (b : Bool) (n : ℕ) (s f : Shown A) → n ≡ given 11 b → s ≡ cond b (refused 11) f → ((n ≡ 0 → ⊥) → s ≡ refused n) × (n ≡ 0 → s ≡ f)
  answers true n s f e h = (λ _. h ∙ ap refused (sym e), λ (z : n ≡ 0). absurd (omega arith))
  answers false n s f e h = (λ k. absurd (k e), λ _. h)

module _ {A : Type 0} (K : Samples A) (P x : ℕ) (vs : List A) (ps ss ls : List ℕ) (k d n : ℕ) (s : Shown A) (e : n ≡ get_or ls x 0) where
  -- column x's queue, read after d steps
  abbrev read_queue : List (Entry A)
  read_queue = map (read_at d) (column_at K P vs ps ss ls x)

  read_long : length read_queue ≡ n
  read_long = length-map (column_at K P vs ps ss ls x) (read_at d) ∙ column_length K P x vs ps ss ls ∙ sym e

  pub show_lacks : n ≤ k → s ≡ refused 11 → s ≡ place_shown K read_queue k
  show_lacks h q = q ∙ rw (le-leb (length read_queue) k (omega (arith, read_long)))

  pub show_finds : (v : A) (p : ℕ) → k < n → EntryAt K P vs ps ss x k d v p → s ≡ found (record { value = v; position = p }) → s ≡ place_shown K read_queue k
  show_finds v p h g q = q ∙ rw (lt-leb (length read_queue) k (omega (arith, read_long))) (ap found (sym (g ls (record { value = K.order.blank; position = 0 }) (omega arith))))

-- ---- the part of a stage

module _ (W : ℕ) where
  -- it ends within what all the stages need
  cells_there : (ss : List Stage) (i : ℕ) → i < length ss → total (cells_of W) (take i ss) + cells_of W (get_or ss i unused) ≤ total (cells_of W) ss
  cells_there [] i h = absurd (not-suc-le-zero h)
  cells_there (s ∷ ss) zero h = omega arith
  cells_there (s ∷ ss) (suc i) h = let r = cells_there ss i (omega arith) in omega arith

  sound_both : (s : Stage) (ss : List Stage) (starts lengths : List ℕ) → all_sound W (s ∷ ss) starts lengths ≡ true
      → (sound_records (size_of s) (take W starts) (take W lengths) ≡ true) × (all_sound W ss (drop W starts) (drop W lengths) ≡ true)
  unfolding all_sound
  sound_both s ss starts lengths e = both (sound_records (size_of s) (take W starts) (take W lengths)) (all_sound W ss (drop W starts) (drop W lengths)) e

  sound_there : (ss : List Stage) (i : ℕ) (starts lengths : List ℕ) → i < length ss → all_sound W ss starts lengths ≡ true
      → sound_records (size_of (get_or ss i unused)) (take W (drop (i * W) starts)) (take W (drop (i * W) lengths)) ≡ true
  sound_there [] i starts lengths h e = absurd (not-suc-le-zero h)
  sound_there (s ∷ ss) zero starts lengths h e = rw (zero-mul W) (sound_both s ss starts lengths e).0
  sound_there (s ∷ ss) (suc i) starts lengths h e =
      let q : suc i * W ≡ W + i * W = omega arith in
      let r = sound_there ss i (drop W starts) (drop W lengths) (omega arith) (sound_both s ss starts lengths e).1 in
      rw (q, ← drop-drop (i * W) W starts, ← drop-drop (i * W) W lengths) r

  module _ {A : Type 0} (K : Samples A) (x : ℕ) where
    -- the queue of a column in the part that is cut
    abbrev cut : Stage → ℕ → ℕ → Memory A → List (Entry A)
    cut s n f M = column_at K (size_of s) (take (cells_of W s) (drop n M.values)) (take (cells_of W s) (drop n M.positions)) (take W (drop f M.starts)) (take W (drop f M.lengths)) x

    cut_behind : (s r : Stage) (n f : ℕ) (M : Memory A) → cut s n f (behind (cells_of W r) W M) ≡ cut s (cells_of W r + n) (W + f) M
    cut_behind s r n f M = rw (drop-drop n (cells_of W r) M.values, drop-drop n (cells_of W r) M.positions, drop-drop f W M.starts, drop-drop f W M.lengths)

    queue_cut : (ss : List Stage) (i : ℕ) (M : Memory A) → i < length ss → kept_at K ss W M i x ≡ cut (get_or ss i unused) (total (cells_of W) (take i ss)) (i * W) M
    unfolding kept_at
    queue_cut [] i M h = absurd (not-suc-le-zero h)
    queue_cut (s ∷ ss) zero M h = rw (zero-mul W)
    queue_cut (s ∷ ss) (suc i) M h =
        let q : suc i * W ≡ W + i * W = omega arith in
        queue_cut ss i (behind (cells_of W s) W M) (omega arith)
        ∙ cut_behind (get_or ss i unused) s (total (cells_of W) (take i ss)) (i * W) M
        ∙ ap (λ f. cut (get_or ss i unused) (cells_of W s + total (cells_of W) (take i ss)) f M) (sym q)

-- ---- what a run leaves is what a read-out shows

sub_twice : (t a b : ℕ) → t - a - b ≡ t - (a + b)
sub_twice t a b = omega arith

-- as many rows as far as t steps go, and so as far as fewer go
rows_fewer : (t b H L : ℕ) → min t H ≡ min t L → min (t - b) H ≡ min (t - b) L
rows_fewer t b H L e = omega arith

module _ {A : Type 0} (K : Samples A) (W x : ℕ) (across : x < W) where
  -- After t steps of a plan over p the queue of a column is that of document 01: "A stage's own step is the plan's step less the F down of the stages before it". As far as t steps go there are H rows.
  pub queue_run : (ss : List Stage) (i : ℕ) (p : Picture A) (H t : ℕ) (M : Memory A) → i < length ss → min t H ≡ min t (length p) → Holds K ss W p t M
      → queue_at K ss W H t M i x ≡ plan_queue (map (filter_of K.order) (take i ss)) (filter_of K.order (get_or ss i unused)) x p t
  unfolding Holds queue_at kept_at plan_queue apply_plan look_ahead_of
  queue_run [] i p H t M h e g = absurd (not-suc-le-zero h)
  queue_run (s ∷ ss) zero p H t M h e g =
      let f : min (t - 0) (H + below_of s) ≡ min t (length p + below_of s) = omega arith in
      rw (f, sub-zero) (g.0 x across)
  queue_run (s ∷ ss) (suc i) p H t M h e g =
      let F = filter_of K.order s in
      let G = filter_of K.order (get_or ss i unused) in
      let Fs = map (filter_of K.order) (take i ss) in
      let l : length (apply_stage F p) ≡ length p = stage_length F p in
      let d : stage_steps (s ∷ ss) H t (suc i) ≡ stage_steps ss H (t - below_of s) i = ap (λ n. min n (H + below_of (get_or ss i unused))) (sym (sub_twice t (below_of s) (total below_of (take i ss)))) in
      let f : min (t - below_of s - look_ahead_of Fs) (length (apply_stage F p) + below_of (get_or ss i unused)) ≡ min (t - (below_of s + look_ahead_of Fs)) (length p + below_of (get_or ss i unused)) =
      rw l (ap (λ n. min n (length p + below_of (get_or ss i unused))) (sub_twice t (below_of s) (look_ahead_of Fs))) in
      ap (λ n. map (read_at n) (kept_at K ss W (behind (cells_of W s) W M) i x)) d
      ∙ queue_run ss i (apply_stage F p) H (t - below_of s) (behind (cells_of W s) W M) (omega arith) (rw l (rows_fewer t (below_of s) H (length p) e)) g.1 ∙ ap (column_queue G x (apply_plan Fs (apply_stage F p))) f

-- ---- a place that is accepted

-- the stage and the column are there, and so many cells before the stage's own
pub record Place {A : Type 0} (S : State) (M : Memory A) (stage column cells places steps : ℕ) : Type 0 where
  pub fit : Fit S M
  pub there : stage < S.plan.count
  pub across : column < S.width
  pub long : length S.plan.stages ≡ 16
  pub begins : cells ≡ total (cells_of S.width) (take stage S.plan.stages)
  pub size : places ≡ size_of (get_or S.plan.stages stage unused)
  pub done : steps ≡ stage_steps S.plan.stages (height_of S) S.step stage
  pub counted : steps ≤ 4294967800

-- the part ends within the memory lent, which the stages' cells and records are cut from
abbrev pub Within : {A : Type 0} → ℕ → ℕ → ℕ → ℕ → Memory A → Type 0
Within width stage cells places M =
    (cells + width * places ≤ length M.values)
    × (cells + width * places ≤ length M.positions)
    × (stage * width + width ≤ length M.starts)
    × (stage * width + width ≤ length M.lengths)

pub placed_part : {A : Type 0} (kind : ℕ) (S : State) (M : Memory A) (stage column : ℕ) (plan : Plan) → plan ≡ S.plan
    → placed_number kind S stage column (length M.values) (length M.positions) M.starts M.lengths ≡ 0
    → Accepted plan × (stage < plan.count) × (S.width ≤ 4096) × (height_of S ≤ 4294967297) × (S.step ≤ 4294967792)
placed_part kind S M stage column plan e z =
    let (a, b, c) = place_accepted kind S stage column (length M.values) (length M.positions) M.starts M.lengths z in
    let f = judged_fit kind S M a in
    rw e (f.run.plan, b, f.run.narrow, f.run.low, f.run.counted)

pub placed_place : {A : Type 0} (kind : ℕ) (S : State) (M : Memory A) (stage column rows cells places steps : ℕ) (plan : Plan) → (plan ≡ S.plan) × (length S.plan.stages ≡ 16)
    → placed_number kind S stage column (length M.values) (length M.positions) M.starts M.lengths ≡ 0
    → (cells ≡ total (cells_of S.width) (take stage plan.stages)) × (places ≡ size_of (get_or plan.stages stage unused))
    → rows ≡ height_of S → (steps ≡ stage_steps plan.stages rows S.step stage) × (steps ≤ 4294967800) → Place S M stage column cells places steps
placed_place kind S M stage column rows cells places steps plan (e, l) z (n, p) r (d, k) =
    let (a, b, c) = place_accepted kind S stage column (length M.values) (length M.positions) M.starts M.lengths z in
    record {
      fit = judged_fit kind S M a;
      there = b;
      across = c;
      long = l;
      begins = n ∙ ap (λ (p : Plan). total (cells_of S.width) (take stage p.stages)) e;
      size = p ∙ ap (λ (p : Plan). size_of (get_or p.stages stage unused)) e;
      done = d ∙ ap (λ (p : Plan). stage_steps p.stages rows S.step stage) e ∙ ap (λ H. stage_steps S.plan.stages H S.step stage) r;
      counted = k;
    }

module _ {A : Type 0} (S : State) (M : Memory A) (stage column cells places steps : ℕ) (h : Place S M stage column cells places steps) where
  abbrev W : ℕ
  W = S.width

  abbrev own : Stage
  own = get_or (used S.plan) stage unused

  used_there : stage < length (used S.plan)
  used_there = rw length-take (omega (arith, h.there, h.long, h.fit.run.plan.few))

  own_stage : get_or S.plan.stages stage unused ≡ own
  own_stage = sym (get_or-take S.plan.count S.plan.stages stage unused h.there)

  own_size : places ≡ size_of own
  own_size = h.size ∙ ap size_of own_stage

  own_begins : cells ≡ total (cells_of W) (take stage (used S.plan))
  own_begins = h.begins ∙ ap (total (cells_of W)) (sym (take-take stage S.plan.count S.plan.stages (omega (arith, h.there))))

  own_done : steps ≡ stage_steps (used S.plan) (height_of S) S.step stage
  own_done =
      let t = take-take stage S.plan.count S.plan.stages (omega (arith, h.there)) in
      h.done ∙ ap (λ ss. min (S.step - total below_of ss) (height_of S + below_of (get_or S.plan.stages stage unused))) (sym t)
      ∙ ap (λ s. min (S.step - total below_of (take stage (used S.plan))) (height_of S + below_of s)) own_stage

  pub place_within : Within W stage cells places M
  place_within =
      let c = cells_there W (used S.plan) stage used_there in
      let d : cells + W * places ≤ cells_needed S.plan W = rw (own_begins, own_size) c in
      let r : suc stage * W ≤ records_needed S.plan W = mul-le-mul_right W h.there in
      (omega (arith, h.fit.values_lent), omega (arith, h.fit.positions_lent), omega (arith, h.fit.starts_lent), omega (arith, h.fit.lengths_lent))

  -- the parts as the code cuts them
  abbrev cells_of_law : {B : Type 0} → List B → List B
  cells_of_law l = take (cells + W * places - cells) (drop cells l)

  abbrev records_of : List ℕ → List ℕ
  records_of l = take (stage * W + W - stage * W) (drop (stage * W) l)

  cells_cut : {B : Type 0} (l : List B) → cells + W * places ≤ length l → length (cells_of_law l) ≡ W * places
  cells_cut l k = let e : cells + W * places - cells ≡ W * places = omega arith in rw e (length-take-le (W * places) (drop cells l) (rw length-drop (omega arith)))

  records_cut : (l : List ℕ) → stage * W + W ≤ length l → length (records_of l) ≡ W
  records_cut l k = let e : stage * W + W - stage * W ≡ W = omega arith in rw e (length-take-le W (drop (stage * W) l) (rw length-drop (omega arith)))

  pub place_asks : Lent places (length (records_of M.starts)) (cells_of_law M.positions) (records_of M.starts) (records_of M.lengths)
      × (length (cells_of_law M.values) ≡ length (cells_of_law M.positions)) × (column < length (records_of M.starts)) × (steps ≤ 4294967800)
  place_asks =
      let w = place_within in
      let a = records_cut M.starts w.2 in
      let b = records_cut M.lengths w.3 in
      let c = cells_cut M.positions w.1 in
      let s = h.fit.run.plan.small stage h.there in
      let e : stage * W + W - stage * W ≡ W = omega arith in
      let t = sound_there W (used S.plan) stage M.starts M.lengths used_there h.fit.sound in
      let g : sound_records places (records_of M.starts) (records_of M.lengths) ≡ true = rw (e, own_size) t in (
        record {
          places = omega (arith, h.size, s.up, s.down);
          width = rw a h.fit.run.narrow;
          positions_long = rw a c;
          starts_long = refl;
          lengths_long = b ∙ sym a;
          sound = rw a (test_sound places W (records_of M.starts) (records_of M.lengths) a b g);
        },
        cells_cut M.values w.0 ∙ sym c,
        rw a h.across,
        h.counted,
      )

  module _ (K : Samples A) where
    -- the queue as the code finds it
    abbrev found_queue : List (Entry A)
    found_queue = map (read_at steps) (column_at K places (cells_of_law M.values) (cells_of_law M.positions) (records_of M.starts) (records_of M.lengths) column)

    place_queue : found_queue ≡ queue_in K S M stage column
    unfolding queue_at
    place_queue =
        let e : stage * W + W - stage * W ≡ W = omega arith in
        let f : cells + W * places - cells ≡ W * places = omega arith in
        rw (e, f, own_begins, own_size) (ap (map (read_at steps)) (sym (queue_cut W K column (used S.plan) stage M used_there))) ∙ ap (λ n. map (read_at n) (kept_at K (used S.plan) W M stage column)) own_done

    module _ (kind place : ℕ) (s : Shown A) (z : placed_number kind S stage column (length M.values) (length M.positions) M.starts M.lengths ≡ 0) where
      read_past : read_out_number K kind S M stage column place ≡ given 11 (leb (length (queue_in K S M stage column)) place)
      unfolding read_out_number
      read_past =
          let (a, b, c) = place_accepted kind S stage column (length M.values) (length M.positions) M.starts M.lengths z in
          let q = leb (length (queue_in K S M stage column)) place in
          first_skip (memory_judged kind S M) (given 11 (leb S.plan.count stage || leb W column || q) ∷ []) a
          ∙ first_one (given 11 (leb S.plan.count stage || leb W column || q))
          ∙ rw (lt-leb S.plan.count stage b, lt-leb W column c)

      pub shows_place : s ≡ place_shown K found_queue place → Shows K kind S M stage column place s
      shows_place e =
          let q = queue_in K S M stage column in
          let (a, b) = answers (leb (length q) place) (read_out_number K kind S M stage column place) s (found (get_or q place (record { value = K.order.blank; position = 0 }))) read_past (e ∙ ap (λ q. place_shown K q place) place_queue) in
          record { refusal = a; accepted = b }

module _ {A : Type 0} (K : Samples A) (kind : ℕ) (S : State) (M : Memory A) (stage column place : ℕ) where
  pub shows_refused : (n : ℕ) (s : Shown A) → n ≡ placed_number kind S stage column (length M.values) (length M.positions) M.starts M.lengths → (n ≡ 0 → ⊥) → s ≡ refused n
      → Shows K kind S M stage column place s
  unfolding read_out_number placed_number
  shows_refused n s e h q =
      let r : read_out_number K kind S M stage column place ≡ n =
      first_stays (memory_judged kind S M) (leb S.plan.count stage || leb S.width column) (leb (length (queue_in K S M stage column)) place) (λ z. h (e ∙ z)) ∙ sym e in
      record { refusal = λ _. q ∙ ap refused (sym r); accepted = λ z. absurd (h (sym r ∙ z)) }

  -- the answer follows from the inputs alone
  pub shows_unique : (s t : Shown A) → Shows K kind S M stage column place s → Shows K kind S M stage column place t → s ≡ t
  shows_unique s t h k = go (read_out_number K kind S M stage column place) refl
    where
      go : (n : ℕ) → read_out_number K kind S M stage column place ≡ n → s ≡ t
      go zero e = h.accepted e ∙ sym (k.accepted e)
      go (suc n) e =
          let z : read_out_number K kind S M stage column place ≡ 0 → ⊥ = λ (y : read_out_number K kind S M stage column place ≡ 0). omega arith in
          h.refusal z ∙ sym (k.refusal z)
