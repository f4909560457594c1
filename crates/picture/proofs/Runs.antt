-- Whole runs, from the promises alone. By which idea: the start's memory holds what no step leaves, an accepted step keeps `Holds` and says what it tells, and a refused call changes nothing.
-- What open runs share stands here too: `Begun`, `Told` and what follows from them are said of any ending.
use mathlib.Core.Path.{◌≡◌, refl, sym, ap, ◌∙◌, subst}
use mathlib.Core.Bool.{true, false, not}
use mathlib.Core.List.{List, [], ◌∷◌, ◌++◌, append-nil, map}
use mathlib.Core.Option.{Option, none, some}
use Prim.Native.Nat.{ℕ, zero, suc, ◌+◌, ◌-◌, ◌*◌, ◌≤◌, ◌<◌, min}
use native.Mathlib.Nat.{zero-sub, mul-le-mul_right}
use native.Mathlib.Numerals.{add-one}
use native.Mathlib.Omega.{arith}
use borrow.Author.Tests.{leb-true, leb-false, lt-ltb, le-ltb, le-leb, lt-leb}
use lib.Dec.{leb}
use lib.ListN.{length, get_or, take, replicate, length-append, length-take, length-map, length-replicate}
use lib.Seq.{take-suc, take-take, take-length, take-append_seam, get_or-take, get_or-append_seam}
use lib.Ieee.{Float}
use Rattle.morph.specs.Lists.{all, tabulate, sum_to, Each}
use Rattle.morph.specs.Line.{Shown, output_at}
use Rattle.morph.specs.Picture.{Picture, Wide, Stage as Filter, apply_plan, look_ahead_of, row_at}
use Rattle.morph.specs.Plan.{plan_cost, stage_bound}
use Rattle.morph.proofs.Lists.{split, length_tabulate, tabulate_ext, tabulate_snoc, each_append, each_get_d, each_take, each_map, each_weaken}
use Rattle.morph.proofs.Picture.{plan_length, plan_each}
use Rattle.morph.proofs.Plan.{plan_costs_bound}
use Rattle.sample.specs.Samples.{Samples, rates}
use Rattle.sample.specs.Rate.{accepted}
use Rattle.sample.proofs.Floats.{accepted_plus}
use Rattle.plan_record.specs.declared.Plan.{Plan}
use Rattle.morph.specs.Numbers.{given}
use Rattle.plan_record.specs.Plan.{used, stages_of, plan_of, stages_from, cells_needed, records_needed, plan_ahead}
use Rattle.plan_record.proofs.Laws.{used_plan}
use Rattle.plan_record.proofs.Named.{look_ahead_plan}
use Rattle.morph.proofs.Numbers.{first_skip, first_zero}
use Rattle.memory.specs.Memory.{Memory, all_sound, Whole, Holds}
use Rattle.picture_state.specs.declared.State.{State}
use Rattle.picture_state.specs.declared.Ending.{Ending}
use Rattle.picture_state.specs.declared.Ending.TheVariants.{Fixed}
use Rattle.picture_state.specs.declared.Answer.{Answer}
use Rattle.picture_state.specs.Numbers.{height_of, memory_number, state_number, state_kind_number, records_number, shared_number, memory_judged, offer_number, row_number, drain_judged}
use Rattle.picture_state.specs.ReadOut.{Shows}
use Rattle.picture_state.specs.Step.{RowSaid, row, is_not_yet, row_said_of, row_said_at, next_state, Advanced}
use Rattle.picture_state.proofs.Numbers.{memory_accepted, shared_accepted, shared_records, fixed_reads, closed_drains, offer_all, drain_accepted, drain_all}
use Rattle.picture_state.proofs.ReadingOut.{queue_run}
use Rattle.picture_start.specs.declared.Started.{Started}
use Rattle.picture_start.specs.Start.{start_number, state_from, first_state_of, PictureStart}
use Rattle.picture_start.proofs.Starting.{Begins, begins_fixed, start_accepted, start_fits, start_first, numbers_start, cleared_long}
use Rattle.picture_state.proofs.Step.{judged_fit, state_next}
use Rattle.picture.specs.Runs.{row_comparisons, came_with, rows_of, sum_of, state_at, PictureRun, started, started_numbers, offered, drained, row_refused, drain_refused, row_said_over, queue_over, shown_over, PictureRan}
use Rattle.picture.proofs.Reading.{shows_queue}
use Rattle.picture.proofs.Unique.{row_offered}

-- ---- lists

map_table : {A B : Type 0} (f : A → B) (n : ℕ) (g : ℕ → A) → map f (tabulate n g) ≡ tabulate n (λ k. f (g k))
map_table f zero g = refl
map_table f (suc n) g = ap (λ l. f (g zero) ∷ l) (map_table f n (λ k. g (suc k)))

-- the sum of what a table says
sum_to_front : (n : ℕ) (f : ℕ → ℕ) → sum_to (suc n) f ≡ f 0 + sum_to n (λ k. f (suc k))
sum_to_front zero f = omega arith
sum_to_front (suc n) f = omega (arith, sum_to_front n f)

sum_table : (n : ℕ) (f : ℕ → ℕ) → sum_of (tabulate n f) ≡ sum_to n f
sum_table zero f = refl
sum_table (suc n) f = omega (arith, sum_table n (λ k. f (suc k)), sum_to_front n f)

module _ {B : Type 0} (l : List B) (b : B) where
  pub long_more : length (l ++ (b ∷ [])) ≡ suc (length l)
  long_more = length-append l (b ∷ []) ∙ add-one (length l)

  -- a list that begins with l and then b
  pub begins_more : (m : List B) (d : B) → take (length (l ++ (b ∷ []))) m ≡ l ++ (b ∷ []) → (take (length l) m ≡ l) × (b ≡ get_or m (length l) d)
  begins_more m d e =
      let f : take (suc (length l)) m ≡ l ++ (b ∷ []) = rw long_more at e in (
        sym (take-take (length l) (suc (length l)) m (omega arith)) ∙ ap (take (length l)) f ∙ take-append_seam l (b ∷ []),
        sym (get_or-append_seam l b [] d) ∙ ap (λ k. get_or k (length l) d) (sym f) ∙ get_or-take (suc (length l)) m (length l) d (omega arith),
      )

-- a picture of n rows that begins with some, its other rows being as the first
abbrev pub filled : {A : Type 0} → ℕ → Picture A → Picture A
filled n read = read ++ replicate (n - length read) (get_or read 0 [])

each_replicate : {B : Type 0} (P : B → Type 0) (n : ℕ) (b : B) → P b → Each P (replicate n b)
each_replicate P zero b h = tt
each_replicate P (suc n) b h = (h, each_replicate P n b h)

module _ {A : Type 0} where
  filled_each : (P : List A → Type 0) (n : ℕ) (read : Picture A) → 0 < length read → Each P read → Each P (filled n read)
  filled_each P n read l h = each_append P read (replicate (n - length read) (get_or read 0 [])) h (each_replicate P (n - length read) (get_or read 0 []) (each_get_d P read 0 [] h l))

  filled_long : (n : ℕ) (read : Picture A) → length read ≤ n → length (filled n read) ≡ n
  filled_long n read h = rw (length-append, length-replicate) (omega arith)

-- one more of a table
pub table_more : {B : Type 0} (n : ℕ) (f : ℕ → B) (l : List B) (b : B) → l ≡ tabulate n f → b ≡ f n → l ++ (b ∷ []) ≡ tabulate (n + 1) f
table_more n f l b e g = ap (λ k. k ++ (b ∷ [])) e ∙ ap (λ c. tabulate n f ++ (c ∷ [])) g ∙ sym (tabulate_snoc n f) ∙ ap (λ m. tabulate m f) (sym (add-one n))

module _ {A : Type 0} where
  rows_more : (came : List (Option (List A))) (o : Option (List A)) → rows_of (came ++ (o ∷ [])) ≡ rows_of came ++ rows_of (o ∷ [])
  rows_more [] o = refl
  rows_more (none ∷ came) o = rows_more came o
  rows_more (some out ∷ came) o = ap (λ l. out ∷ l) (rows_more came o)

  no_rows : (came : List (Option (List A))) → length came ≡ 0 → rows_of came ≡ []
  no_rows [] e = refl
  no_rows (o ∷ came) e = absurd (omega arith)

  -- the rows of the first steps are the first of the whole answer
  rows_told : (Ss : List (Filter A)) (p : Picture A) (n : ℕ) → n ≤ length p + look_ahead_of Ss → rows_of (tabulate n (row_at Ss p)) ≡ take (n - look_ahead_of Ss) (apply_plan Ss p)
  unfolding row_at output_at
  rows_told Ss p zero h = rw zero-sub
  rows_told Ss p (suc n) h =
      let D = look_ahead_of Ss in
      let i = rows_told Ss p n (omega arith) in
      let m = ap rows_of (tabulate_snoc n (row_at Ss p)) ∙ rows_more (tabulate n (row_at Ss p)) (row_at Ss p n) ∙ ap (λ l. l ++ rows_of (row_at Ss p n ∷ [])) i in
      split (leb D n)
      (λ a.
      let b = leb-true D n a in
      let e : suc n - D ≡ suc (n - D) = omega arith in
      m ∙ rw (a, lt-ltb (n - D) (length p) (omega arith), e) (sym (take-suc (apply_plan Ss p) (n - D) [] (rw plan_length (omega arith)))))
      (λ a.
      let b = leb-false D n a in
      let e : suc n - D ≡ n - D = omega arith in
      m ∙ rw (a, e) (append-nil (take (n - D) (apply_plan Ss p))))

-- ---- what is in order stays so

memory_zero : (plan : Plan) (width cells records : ℕ) → cells_needed plan width ≤ cells → records_needed plan width ≤ records → memory_number plan width cells records ≡ 0
unfolding memory_number
memory_zero plan width cells records a b = rw (le-ltb cells (cells_needed plan width) a, le-ltb records (records_needed plan width) b)

pub state_zero : {A : Type 0} (kind : ℕ) (S : State) (M : Memory A) → memory_judged kind S M ≡ 0 → state_number S ≡ 0
unfolding shared_number
state_zero kind S M z =
    (first_zero (state_number S)
    (state_kind_number kind S
    ∷ memory_number S.plan S.width (min (length M.values) (length M.positions)) (min (length M.starts) (length M.lengths))
    ∷ records_number S M.starts M.lengths
    ∷ [])
    z).0

-- the memory lent, where its parts are in order
pub lent_zero : {A : Type 0} (kind : ℕ) (S : State) (M : Memory A) → state_number S ≡ 0 → S.sample ≡ kind
    → cells_needed S.plan S.width ≤ length M.values → cells_needed S.plan S.width ≤ length M.positions
    → records_needed S.plan S.width ≤ length M.starts → records_needed S.plan S.width ≤ length M.lengths
    → all_sound S.width (used S.plan) M.starts M.lengths ≡ true → memory_judged kind S M ≡ 0
lent_zero kind S M a b v p s l e =
    sym (shared_records kind S (min (length M.values) (length M.positions)) (min (length M.starts) (length M.lengths)) M.starts M.lengths a b true
    (memory_zero S.plan S.width _ _ (omega arith) (omega arith)) (sym e))

pub lent_next : {A : Type 0} (K : Samples A) (kind : ℕ) (S : State) (M : Memory A) (pixels out : List A) (M' : Memory A) (out' : List A) (answer : Answer) (S' : State)
    → memory_judged kind S M ≡ 0 → S.step < height_of S + plan_ahead S.plan → height_of S ≤ 4294967296 → Advanced K S M pixels out M' out' answer S' → memory_judged kind S' M' ≡ 0
lent_next K kind S M pixels out M' out' answer S' z l low h =
    let f = judged_fit kind S M z in
    let g = shared_accepted kind S (min (length M.values) (length M.positions)) (min (length M.starts) (length M.lengths)) M.starts M.lengths z in
    rw h.state
    (lent_zero kind (next_state S) M' (state_next S (state_zero kind S M z) l low) g.sample (omega (arith, f.values_lent, h.values_long)) (omega (arith, f.positions_lent, h.positions_long))
    (omega (arith, f.starts_lent, h.starts_long)) (omega (arith, f.lengths_lent, h.lengths_long)) h.sound)

-- a row that is in order but for its pixels, and these are accepted
pub row_zero : {A : Type 0} (K : Samples A) (kind : ℕ) (S : State) (M : Memory A) (pixels out : List A)
    → offer_number kind S (length pixels) (length out) (length M.values) (length M.positions) M.starts M.lengths ≡ 0 → all K.good pixels ≡ true → row_number K kind S M pixels out ≡ 0
unfolding row_number
row_zero K kind S M pixels out z g =
    first_skip (offer_number kind S (length pixels) (length out) (length M.values) (length M.positions) M.starts M.lengths) (given 8 (not (all K.good pixels)) ∷ []) z ∙ rw g

-- ---- a run

module _ {A : Type 0} (K : Samples A) (kind : ℕ) (first : State) where
  -- over a picture, the queues, the answers and the rows so far are document 01's
  pub record Told (p : Picture A) (S : State) (M : Memory A) (said : List RowSaid) (came : List (Option (List A))) : Type 0 where
    pub held : Holds K (used S.plan) S.width p S.step M
    pub says : said ≡ tabulate S.step (row_said_over K kind first S p)
    pub comes : came ≡ tabulate S.step (row_at (stages_of K.order S.plan) p)

  comparisons_here : (S : State) (p : Picture A) (t : ℕ) → row_comparisons (row_said_over K kind first S p t) ≡ plan_cost (stages_of K.order S.plan) S.width p t
  comparisons_here S p t = split (leb (plan_ahead S.plan) t) (λ d. rw d) (λ d. rw d)

  -- what follows from that
  pub record Follows (p : Picture A) (S : State) (M : Memory A) (said : List RowSaid) (came : List (Option (List A))) : Type 0 where
    pub counted : length said ≡ S.step
    pub filtered : rows_of came ≡ take (S.step - plan_ahead S.plan) (apply_plan (stages_of K.order S.plan) p)
    pub costs : map row_comparisons said ≡ tabulate S.step (plan_cost (stages_of K.order S.plan) S.width p)
    pub few : sum_of (map row_comparisons said) ≤ length (used S.plan) * stage_bound S.width (length p)
    pub shows : (stage column place : ℕ) (answer : Shown A) → Shows K kind S M stage column place answer → answer ≡ shown_over K kind first S p stage column place

  -- .. where the picture has the state's width, and its rows as far as the steps go
  module _ (p : Picture A) (S : State) (M : Memory A) (said : List RowSaid) (came : List (Option (List A))) (u : Told p S M said came) where
    pub told_follows : Wide S.width p → S.step ≤ length p + plan_ahead S.plan → min S.step (height_of S) ≡ min S.step (length p) → memory_judged kind S M ≡ 0 → Follows p S M said came
    told_follows wide b rows lent =
        let Ss = stages_of K.order S.plan in
        let c : map row_comparisons said ≡ tabulate S.step (plan_cost Ss S.width p) =
        ap (map row_comparisons) u.says ∙ map_table row_comparisons S.step (row_said_over K kind first S p) ∙ tabulate_ext S.step _ _ (λ k _. comparisons_here S p k) in
        let a = look_ahead_plan K.order S.plan in
        record {
          counted = ap length u.says ∙ length_tabulate S.step (row_said_over K kind first S p);
          filtered = ap rows_of u.comes ∙ rows_told Ss p S.step (rw a b) ∙ ap (λ d. take (S.step - d) (apply_plan Ss p)) a;
          costs = c;
          few = let d = plan_costs_bound Ss S.width p wide S.step in rw (c, sum_table S.step (plan_cost Ss S.width p)) (rw (length-map (used S.plan)) at d);
          shows = λ stage column place answer h.
              shows_queue K kind S M stage column place answer (queue_over K kind first S p stage column) lent h
              (λ i x. queue_run K S.width column x (used S.plan) stage p (height_of S) S.step M i rows u.held);
        }

  -- one step more
  module _ (p : Picture A) (S : State) (M : Memory A) (whole : Whole K S.width (height_of S) p) (pixels out : List A) (M' : Memory A) (out' : List A) (answer : Answer) (S' : State)
      (h : Advanced K S M pixels out M' out' answer S') (given : S.step < height_of S → pixels ≡ get_or p S.step []) (within : S.step < height_of S + plan_ahead S.plan)
      (held : Holds K (used S.plan) S.width p S.step M) where
    abbrev t : ℕ
    t = S.step

    abbrev D : ℕ
    D = plan_ahead S.plan

    abbrev Ss : List (Filter A)
    Ss = stages_of K.order S.plan

    row_here : D ≤ t → row_at Ss p t ≡ some (get_or (apply_plan Ss p) (t - D) [])
    unfolding row_at output_at
    row_here a = rw (look_ahead_plan K.order S.plan, le-leb D t a, lt-ltb (t - D) (length p) (omega (arith, whole.high)))

    row_none : t < D → row_at Ss p t ≡ none
    unfolding row_at output_at
    row_none a = rw (look_ahead_plan K.order S.plan, lt-leb D t a)

    said_here : row_said_of answer ≡ row_said_over K kind first S p t
    said_here = h.said ∙ ap (row_said_at (leb D t) (t - D)) (h.told p whole held given).1

    said_row : leb D t ≡ true → row_said_of answer ≡ row (t - D) h.comparisons
    said_row d = h.said ∙ rw d

    said_wait : leb D t ≡ false → row_said_of answer ≡ is_not_yet h.comparisons
    said_wait d = h.said ∙ rw d

    came_here : came_with (row_said_of answer) out' ≡ row_at Ss p t
    came_here =
        let z = (h.told p whole held given).2 in
        split (leb D t)
        (λ d. ap (λ s. came_with s out') (said_row d) ∙ ap some (z (leb-true D t d)) ∙ sym (row_here (leb-true D t d)))
        (λ d. ap (λ s. came_with s out') (said_wait d) ∙ sym (row_none (leb-false D t d)))

    pub told_next : (said : List RowSaid) (came : List (Option (List A))) → Told p S M said came → Told p S' M' (said ++ (row_said_of answer ∷ [])) (came ++ (came_with (row_said_of answer) out' ∷ []))
    told_next said came r =
        subst (λ T. Told p T M' (said ++ (row_said_of answer ∷ [])) (came ++ (came_with (row_said_of answer) out' ∷ []))) (sym h.state)
        (record {
          held = (h.told p whole held given).0;
          says = table_more t (row_said_over K kind first S p) said (row_said_of answer) r.says said_here;
          comes = table_more t (row_at Ss p) came (came_with (row_said_of answer) out') r.comes came_here;
        })

  -- a start that is taken, of any ending: no step is done, the memory is in order, and it holds over every picture what no step leaves
  pub record Begun (ending : Ending) (rows : ℕ) (M : Memory A) : Type 0 where
    pub ends : first.ending ≡ ending
    pub counts : first.rows ≡ rows
    pub none : first.step ≡ 0
    pub lent : memory_judged kind first M ≡ 0
    pub told : (p : Picture A) → Told p first M [] []

  pub begun : {M : Memory A} (plan : Plan) (width : ℕ) (ending : Ending) (rows judged : ℕ) → Begins ending rows judged → (cells : ℕ) (starts lengths : List ℕ) (r : Started) → plan.count ≤ length plan.stages
      → PictureStart (start_number plan kind width judged cells (min (length starts) (length lengths))) (state_from plan kind width ending rows) (records_needed plan width) starts lengths M.starts M.lengths r
      → r.number ≡ 0 → r.state ≡ first → cells_needed first.plan first.width ≤ length M.values → cells_needed first.plan first.width ≤ length M.positions → Begun ending rows M
  begun {M} plan width ending rows judged begins cells starts lengths r long h z q v p =
      let n = sym h.told ∙ z in
      let f = start_first K plan kind width ending rows judged begins cells starts lengths M.starts M.lengths r long h z in
      let (s, a, b) = h.accepted n in
      let (_, _, _, m) = start_accepted plan kind width judged cells (min (length starts) (length lengths)) n in
      let (_, d) = memory_accepted plan width cells (min (length starts) (length lengths)) m in
      let o = state_from plan kind width ending rows in
      let e : first ≡ state_from plan kind width ending rows = sym q ∙ s in
      let u : used o.plan ≡ used plan = used_plan (used plan) in
      let l : length M.starts ≡ length starts = ap length a ∙ cleared_long (records_needed plan width) starts (omega arith) in
      let k : length M.lengths ≡ length lengths = ap length b ∙ cleared_long (records_needed plan width) lengths (omega arith) in
      let x : records_needed o.plan width ≤ records_needed plan width = mul-le-mul_right width (rw length-take (omega arith)) in
      let y : cells_needed first.plan first.width ≡ cells_needed o.plan width = ap (λ (T : State). cells_needed T.plan T.width) e in
      let w : memory_judged kind o M ≡ 0 =
      lent_zero kind o M (ap state_number (sym s) ∙ f.judged) refl (omega arith) (omega arith) (omega arith) (omega arith) (ap (λ ss. all_sound width ss M.starts M.lengths) u ∙ f.sound) in
      let i : first.step ≡ 0 = ap (λ (T : State). T.step) e in
      record {
        ends = ap (λ (T : State). T.ending) e;
        counts = ap (λ (T : State). T.rows) e;
        none = i;
        lent = ap (λ (T : State). memory_judged kind T M) e ∙ w;
        told = λ p. record {
          held = subst (λ (T : State). Holds K (used T.plan) T.width p T.step M) (sym e) (subst (λ ss. Holds K ss width p 0 M) (sym u) (f.holds M.values M.positions p));
          says = rw i;
          comes = rw i;
        };
      }

  -- ---- runs over a picture whose rows are counted

  -- what holds after each call
  record Going (S : State) (M : Memory A) (read : Picture A) (said : List RowSaid) (came : List (Option (List A))) : Type 0 where
    kept : S ≡ state_at first S.step
    fixed : S.ending ≡ Fixed
    lent : memory_judged kind S M ≡ 0
    reads : length read ≡ min S.step S.rows
    wide : Wide S.width read
    good : Each (Each (λ a. K.good a ≡ true)) read
    answers : length came ≡ S.step
    told : (p : Picture A) → Whole K S.width S.rows p → take (length read) p ≡ read → Told p S M said came

  kept_next : (S S' : State) → S ≡ state_at first S.step → S' ≡ next_state S → S' ≡ state_at first S'.step
  kept_next S S' e f = f ∙ ap next_state e ∙ ap (state_at first) (sym (ap (λ (T : State). T.step) f))

  -- an accepted row, and an accepted drain
  module _ (S : State) (M : Memory A) (read : Picture A) (said : List RowSaid) (came : List (Option (List A))) (r : Going S M read said came) (out : List A) (M' : Memory A) (out' : List A)
      (answer : Answer) (S' : State) where
    going_row : (pixels : List A) → row_number K kind S M pixels out ≡ 0 → Advanced K S M (map K.taken pixels) out M' out' answer S'
        → Going S' M' (read ++ (map K.taken pixels ∷ [])) (said ++ (row_said_of answer ∷ [])) (came ++ (came_with (row_said_of answer) out' ∷ []))
    going_row pixels n h =
        let o = row_offered K kind S M pixels out n in
        let new = map K.taken pixels in
        let w : S.step < S.rows = rw r.fixed at o.within in
        let l : length read ≡ S.step = omega (arith, r.reads) in
        let q : S'.step ≡ S.step + 1 = ap (λ (T : State). T.step) h.state in
        let k : S'.rows ≡ S.rows = ap (λ (T : State). T.rows) h.state in
        let v : S'.width ≡ S.width = ap (λ (T : State). T.width) h.state in
        record {
          kept = kept_next S S' r.kept h.state;
          fixed = ap (λ (T : State). T.ending) h.state ∙ r.fixed;
          lent = lent_next K kind S M new out M' out' answer S' r.lent (omega (arith, o.within)) o.low h;
          reads = long_more read new ∙ omega arith;
          wide = rw v (each_append _ read (new ∷ []) r.wide (o.wide, tt));
          good = each_append _ read (new ∷ []) r.good (o.good, tt);
          answers = long_more came (came_with (row_said_of answer) out') ∙ omega (arith, r.answers);
          told = λ p whole e.
              let (a, b) = begins_more read new p [] e in
              let whole₀ : Whole K S.width S.rows p = rw (v, k) at whole in
              let u = r.told p whole₀ a in
              told_next p S M (rw r.fixed whole₀) new out M' out' answer S' h (λ _. b ∙ ap (λ i. get_or p i []) l) (omega (arith, o.within)) u.held said came u;
        }

    going_drain : drain_judged kind S M out ≡ 0 → Advanced K S M [] out M' out' answer S' → Going S' M' read (said ++ (row_said_of answer ∷ [])) (came ++ (came_with (row_said_of answer) out' ∷ []))
    going_drain n h =
        let d = drain_accepted kind S (length M.values) (length M.positions) M.starts M.lengths (length out) n in
        let w : S.rows ≤ S.step = rw r.fixed at d.read in
        let q : S'.step ≡ S.step + 1 = ap (λ (T : State). T.step) h.state in
        let k : S'.rows ≡ S.rows = ap (λ (T : State). T.rows) h.state in
        let v : S'.width ≡ S.width = ap (λ (T : State). T.width) h.state in
        record {
          kept = kept_next S S' r.kept h.state;
          fixed = ap (λ (T : State). T.ending) h.state ∙ r.fixed;
          lent = lent_next K kind S M [] out M' out' answer S' r.lent d.within d.low h;
          reads = r.reads ∙ omega arith;
          wide = rw v r.wide;
          good = r.good;
          answers = long_more came (came_with (row_said_of answer) out') ∙ omega (arith, r.answers);
          told = λ p whole e.
              let whole₀ : Whole K S.width S.rows p = rw (v, k) at whole in
              let u = r.told p whole₀ e in
              told_next p S M (rw r.fixed whole₀) [] out M' out' answer S' h (λ (b : S.step < height_of S). absurd (omega (arith, d.read))) d.within u.held said came u;
        }

    -- a refused call changes nothing
    going_same : S' ≡ S → M' ≡ M → Going S' M' read said came
    going_same e f = subst (λ T. Going T M' read said came) (sym e) (subst (λ N. Going S N read said came) (sym f) r)

  -- the start
  going_first : {M : Memory A} (rows : ℕ) → Begun Fixed rows M → Going first M [] [] []
  going_first rows b = record {
    kept = refl;
    fixed = b.ends;
    lent = b.lent;
    reads = omega (arith, b.none);
    wide = tt;
    good = tt;
    answers = sym b.none;
    told = λ p whole _. b.told p;
  }

  abbrev R : State → Memory A → Picture A → List RowSaid → List (Option (List A)) → Type 0
  R = PictureRun K kind first

  going : {S : State} {M : Memory A} {read : Picture A} {said : List RowSaid} {came : List (Option (List A))} → R S M read said came → Going S M read said came
  going (started plan width rows cells starts lengths r l h z q v p) =
      let f = (start_fits plan kind width rows cells (min (length starts) (length lengths)) (sym h.told ∙ z)).0 in
      going_first rows (begun plan width Fixed rows rows (begins_fixed rows) cells starts lengths r (omega arith) h z q v p)
  going (started_numbers {M} count bytes width rows cells starts lengths r h z q v p) =
      let plan = plan_of (stages_from count bytes) in
      going_first rows (begun plan width Fixed rows rows (begins_fixed rows) cells starts lengths r (rw length-append (omega arith))
      (numbers_start count bytes kind width rows cells (first_state_of plan kind width rows) starts lengths M.starts M.lengths r h z) z q v p)
  going (offered {S} {S'} {M} {M'} {read} {said} {came} pixels out out' answer r n h) = going_row S M read said came (going r) out M' out' answer S' pixels n (h.accepted n)
  going (drained {S} {S'} {M} {M'} {read} {said} {came} out out' answer r n h) = going_drain S M read said came (going r) out M' out' answer S' n (h.accepted n)
  going (row_refused {S} {S'} {M} {M'} {read} {said} {came} pixels out out' answer r n h) =
      let u = h.refusal n in going_same S M read said came (going r) out M' out' answer S' u.state u.memory
  going (drain_refused {S} {S'} {M} {M'} {read} {said} {came} out out' answer r n h) =
      let u = h.refusal n in going_same S M read said came (going r) out M' out' answer S' u.state u.memory

  module _ (S : State) (M : Memory A) (read : Picture A) (said : List RowSaid) (came : List (Option (List A))) (r : R S M read said came) where
    -- THE THEOREM. After a start that is taken and any calls, refused ones among them: over every whole picture that begins with the rows that were accepted, the answers, the rows, their
    -- numbers, the comparisons and the queues are document 01's.
    pub run_told : (p : Picture A) → Whole K S.width S.rows p → take (length read) p ≡ read → PictureRan K kind first p S M said came
    run_told p whole e =
        let g = going r in
        let u = g.told p whole e in
        let b : S.step ≤ S.rows + plan_ahead S.plan = rw g.fixed at (judged_fit kind S M g.lent).run.within in
        let f = told_follows p S M said came u whole.wide (rw whole.high b) (rw (g.fixed, whole.high)) g.lent in
        record {
          kept = g.kept;
          counted = f.counted;
          bounded = b;
          says = u.says;
          comes = u.comes;
          filtered = f.filtered;
          costs = f.costs;
          few = rw whole.high at f.few;
          held = u.held;
          shows = f.shows;
        }

    -- ---- the rows that were accepted

    -- as many as there were steps, up to the picture's last
    pub run_read : length read ≡ min S.step S.rows
    run_read = (going r).reads

    -- once all are read they are a whole picture, and the theorem speaks of that one
    pub run_whole : S.rows ≤ S.step → Whole K S.width S.rows read
    run_whole h = let g = going r in record { wide = g.wide; high = g.reads ∙ omega arith; good = g.good }

    -- after the last step every row of the plan applied to them has come
    pub run_filtered : S.step ≡ S.rows + plan_ahead S.plan → rows_of came ≡ apply_plan (stages_of K.order S.plan) read
    run_filtered h =
        let w = run_whole (omega arith) in
        let Ss = stages_of K.order S.plan in
        let n : S.step - plan_ahead S.plan ≡ length (apply_plan Ss read) = omega (arith, plan_length Ss read, w.high) in
        (run_told read w (take-length read)).filtered ∙ ap (λ k. take k (apply_plan Ss read)) n ∙ take-length (apply_plan Ss read)

    -- before that, once there is one, they begin some whole picture
    pub run_begins : 0 < S.step → (0 < length read) × Whole K S.width S.rows (filled S.rows read) × (take (length read) (filled S.rows read) ≡ read)
    run_begins h =
        let g = going r in
        let c : 0 < S.rows = rw g.fixed at (judged_fit kind S M g.lent).run.high in
        let a : 0 < length read = omega (arith, g.reads) in
        let b : length read ≤ S.rows = omega (arith, g.reads) in (
          a,
          record { wide = filled_each _ S.rows read a g.wide; high = filled_long S.rows read b; good = filled_each _ S.rows read a g.good },
          take-append_seam read (replicate (S.rows - length read) (get_or read 0 [])),
        )

    pub run_answers : length came ≡ S.step
    run_answers = (going r).answers

    -- ---- the calls of a run are accepted

    -- a row in turn, of the picture's width and of accepted pixels
    pub run_takes : (pixels out : List A) → S.step < S.rows → length pixels ≡ S.width → length out ≡ S.width → all K.good pixels ≡ true → row_number K kind S M pixels out ≡ 0
    run_takes pixels out l a b g =
        let (c, d) = fixed_reads S.ending S.rows S.step (going r).fixed l in
        row_zero K kind S M pixels out (sym (offer_all kind S (length M.values) (length M.positions) M.starts M.lengths (length pixels) (length out) (going r).lent c d a b)) g

    -- a drain in turn
    pub run_drains : (out : List A) → S.rows ≤ S.step → S.step < S.rows + plan_ahead S.plan → length out ≡ S.width → drain_judged kind S M out ≡ 0
    run_drains out l h b =
        let d = closed_drains S.ending S.rows (plan_ahead S.plan) S.step (rw (going r).fixed) l h in
        sym (drain_all kind S (length M.values) (length M.positions) M.starts M.lengths (length out) (going r).lent d b)

-- ---- floats

module _ (first : State) where
  -- the pixels of the rows as they are read: finite, and no negative zero
  read_accepted : {S : State} {M : Memory Float} {read : Picture Float} {said : List RowSaid} {came : List (Option (List Float))} → PictureRun rates 1 first S M read said came
      → Each (Each (λ a. accepted a ≡ true)) read
  read_accepted (started plan width rows cells starts lengths r l h z q v p) = tt
  read_accepted (started_numbers count bytes width rows cells starts lengths r h z q v p) = tt
  read_accepted (offered {S} {S'} {M} {M'} {read} pixels out out' answer r n h) =
      each_append _ read (map rates.taken pixels ∷ []) (read_accepted r) (each_map _ rates.taken pixels (each_weaken _ _ pixels accepted_plus (row_offered rates 1 S M pixels out n).given), tt)
  read_accepted (drained out out' answer r n h) = read_accepted r
  read_accepted (row_refused pixels out out' answer r n h) = read_accepted r
  read_accepted (drain_refused out out' answer r n h) = read_accepted r

  -- "A negative zero is read as positive zero, so output never holds a negative zero."
  pub rate_output : (S : State) (M : Memory Float) (read : Picture Float) (said : List RowSaid) (came : List (Option (List Float))) → PictureRun rates 1 first S M read said came
      → Each (Each (λ a. accepted a ≡ true)) (rows_of came)
  rate_output S M read said came r = go S.step refl
    where
      go : (n : ℕ) → S.step ≡ n → Each (Each (λ a. accepted a ≡ true)) (rows_of came)
      go zero e = rw (no_rows came (run_answers rates 1 first S M read said came r ∙ e)) tt
      go (suc n) e =
          let (l, w, b) = run_begins rates 1 first S M read said came r (omega arith) in
          let p = filled S.rows read in
          let Ss = stages_of rates.order S.plan in
          rw (run_told rates 1 first S M read said came r p w b).filtered
          (each_take _ (S.step - plan_ahead S.plan) (apply_plan Ss p) (plan_each Ss S.width p w.wide (λ a. accepted a ≡ true) (filled_each _ S.rows read l (read_accepted r))))
