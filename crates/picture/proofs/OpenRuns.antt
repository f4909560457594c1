-- Whole open runs, from the promises alone. By which idea: the rows read are an index of the run, and what the steps so far told rests on them, so that it stays when a row comes; the step on that
-- row speaks of the picture with it, and the stop changes neither picture nor memory.
use mathlib.Core.Path.{◌≡◌, refl, sym, ap, ◌∙◌, subst}
use mathlib.Core.Bool.{true, false, false≢true}
use mathlib.Core.List.{List, [], ◌∷◌, ◌++◌, map}
use mathlib.Core.Logic.{◌⊎◌, inl, inr, ⊎_elim}
use mathlib.Core.Option.{Option}
use Prim.Native.Nat.{ℕ, suc, ◌+◌, ◌-◌, ◌≤◌, ◌<◌, min}
use native.Mathlib.Omega.{arith}
use borrow.Author.Tests.{lt-leb}
use lib.Dec.{leb}
use lib.ListN.{length, get_or, take, length-append}
use lib.Seq.{take_all, take-length, take-append_seam, get_or-append_seam}
use lib.Ieee.{Float}
use Rattle.morph.specs.Lists.{all, Each}
use Rattle.morph.specs.Picture.{Picture, Wide, Stage as Filter, apply_plan, row_at}
use Rattle.morph.specs.Plan.{plan_cost}
use Rattle.morph.proofs.Lists.{tabulate_ext, each_append, each_take, each_map, each_weaken}
use Rattle.morph.proofs.Picture.{plan_length, plan_each}
use Rattle.morph.proofs.Rests.{plan_cost_rests, row_rests}
use Rattle.sample.specs.Samples.{Samples, rates}
use Rattle.sample.specs.Rate.{accepted}
use Rattle.sample.proofs.Floats.{accepted_plus}
use Rattle.plan_record.specs.Plan.{used, stages_of, plan_of, stages_from, plan_ahead}
use Rattle.memory.specs.Memory.{Memory, Whole}
use Rattle.chain.proofs.Rests.{holds_prefix}
use Rattle.picture_state.specs.declared.State.{State}
use Rattle.picture_state.specs.declared.Ending.{Ending}
use Rattle.picture_state.specs.declared.Ending.TheVariants.{Open, Stopped}
use Rattle.picture_state.specs.declared.Answer.{Answer}
use Rattle.picture_state.specs.Numbers.{height_in, height_of, is_all_read, is_past_last, is_not_open, memory_judged, row_number, drain_judged}
use Rattle.picture_state.specs.Step.{RowSaid, row_said_of, row_said_at, next_state, Advanced, RowStep, DrainStep}
use Rattle.picture_state.specs.ReadOut.{Shows}
use Rattle.morph.specs.Line.{Shown}
use Rattle.picture_state.proofs.Numbers.{shared_accepted, closed_drains, offer_all, drain_accepted, drain_all}
use Rattle.picture_state.proofs.Step.{judged_fit}
use Rattle.picture_start.specs.declared.Stopping.{Stopping}
use Rattle.picture_start.specs.Start.{open_state}
use Rattle.picture_start.specs.Stop.{stop_number, stopped_state, PictureStop}
use Rattle.picture_start.proofs.Starting.{begins_open, start_fits, numbers_start}
use Rattle.picture_start.proofs.Stops.{stop_all, stop_accepted, stop_sound}
use Rattle.picture.specs.Runs.{came_with, rows_of, PictureRun, shown_over}
use Rattle.picture.specs.OpenRuns.{state_in, rows_read, OpenRun, opened, opened_numbers, offered, drained, stopped, row_refused, drain_refused, stop_refused, OpenRan}
use Rattle.picture.specs.Same.{SameQueues, SameStep, SamePast}
use Rattle.picture.proofs.Unique.{row_offered, held_same, row_unique, drain_unique}
use Rattle.picture.proofs.Runs.{long_more, state_zero, lent_zero, lent_next, row_zero, Told, told_follows, told_next, Begun, begun, run_told, run_whole}

-- ---- how a run ends

abbrev Ends : Ending → Type 0
Ends e = (e ≡ Open) ⊎ (e ≡ Stopped)

ends_open : (e : Ending) → Ends e → is_not_open e ≡ false → e ≡ Open
ends_open e h o = ⊎_elim (λ p. p) (λ p. absurd (false≢true (sym o ∙ ap is_not_open p))) h

ends_stopped : (e : Ending) → Ends e → is_not_open e ≡ true → e ≡ Stopped
ends_stopped e h o = ⊎_elim (λ p. absurd (false≢true (sym (ap is_not_open p) ∙ o))) (λ p. p) h

-- there is a number for each row read
ends_few : (e : Ending) (rows step L : ℕ) → Ends e → L ≡ rows_read e rows step → height_in e rows step ≤ 4294967297 → (is_not_open e ≡ true → rows ≤ 4294967296) → L ≤ 4294967296
ends_few e rows step L h r l c =
    ⊎_elim
    (λ p. let a : L ≡ step = rw p at r in let b : step + 1 ≤ 4294967297 = rw p at l in omega arith)
    (λ p. let a : L ≡ rows = rw p at r in let b = c (rw p) in omega arith)
    h

-- a row is left to read only while the run is open
ends_reading : (e : Ending) (rows step L : ℕ) → Ends e → L ≡ rows_read e rows step → L ≤ step → step < height_in e rows step → e ≡ Open
ends_reading e rows step L h r l w = ⊎_elim (λ p. p) (λ p. let a : L ≡ rows = rw p at r in let b : step < rows = rw p at w in absurd (omega arith)) h

-- the rows read are those that the steps know of, as far as the steps go
ends_known : (e : Ending) (rows D step L : ℕ) → Ends e → L ≡ rows_read e rows step → step ≤ height_in e rows step + D → (step ≤ L + D) × (min step (height_in e rows step) ≡ min step L)
ends_known e rows D step L h r w =
    ⊎_elim
    (λ p. let a : L ≡ step = rw p at r in rw p (omega arith, omega arith))
    (λ p. let a : L ≡ rows = rw p at r in let b : step ≤ rows + D = rw p at w in rw p (omega arith, omega arith))
    h

-- ---- a run

module _ {A : Type 0} (K : Samples A) (kind : ℕ) (first : State) where
  -- one row more, whatever it is: the steps so far tell the same of the picture with it
  module _ (read : Picture A) (new : List A) (S : State) (e : length read ≡ S.step) where
    abbrev more : Picture A
    more = read ++ (new ∷ [])

    abbrev Ss : List (Filter A)
    Ss = stages_of K.order S.plan

    back : take S.step more ≡ read
    back = ap (λ n. take n more) (sym e) ∙ take-append_seam read (new ∷ [])

    told_more : (M : Memory A) (said : List RowSaid) (came : List (Option (List A))) → Told K kind first read S M said came → Told K kind first more S M said came
    told_more M said came u =
        let l : length more ≡ suc S.step = long_more read new ∙ ap suc e in
        let D = plan_ahead S.plan in
        record {
          held = holds_prefix K S.width (used S.plan) read more S.step M (omega arith) (omega arith) (take_all S.step read (omega arith) ∙ sym back) u.held;
          says = u.says ∙ tabulate_ext S.step _ _ (λ k h.
              ap (row_said_at (leb D k) (k - D)) (ap (λ p. plan_cost Ss S.width p k) (sym back) ∙ sym (plan_cost_rests Ss S.width more k S.step h)));
          comes = u.comes ∙ tabulate_ext S.step _ _ (λ k h. ap (λ p. row_at Ss p k) (sym back) ∙ sym (row_rests Ss more k S.step h (omega arith)));
        }

  -- what holds after each call
  record Rolls (S : State) (M : Memory A) (read : Picture A) (said : List RowSaid) (came : List (Option (List A))) : Type 0 where
    kept : S ≡ state_in first S.ending S.rows S.step
    ends : Ends S.ending
    lent : memory_judged kind S M ≡ 0
    reads : length read ≡ rows_read S.ending S.rows S.step
    uncounted : S.ending ≡ Open → S.rows ≡ 0
    steps : length read ≤ S.step
    wide : Wide S.width read
    good : Each (Each (λ a. K.good a ≡ true)) read
    told : Told K kind first read S M said came

  module _ (S : State) (M : Memory A) (read : Picture A) (said : List RowSaid) (came : List (Option (List A))) (r : Rolls S M read said came) where
    -- the picture that an accepted row makes, and the one of an accepted drain: as many rows as the step knows of, and what the memory holds is of them
    record Reads (new : List A) : Type 0 where
      still : S.ending ≡ Open
      long : length read ≡ S.step
      whole : Whole K S.width (height_of S) (read ++ (new ∷ []))
      here : new ≡ get_or (read ++ (new ∷ [])) S.step []
      told_here : Told K kind first (read ++ (new ∷ [])) S M said came

    rolls_reads : (pixels out : List A) → row_number K kind S M pixels out ≡ 0 → Reads (map K.taken pixels)
    rolls_reads pixels out n =
        let o = row_offered K kind S M pixels out n in
        let new = map K.taken pixels in
        let e = ends_reading S.ending S.rows S.step (length read) r.ends r.reads r.steps o.within in
        let l : length read ≡ S.step = rw e at r.reads in
        record {
          still = e;
          long = l;
          whole = record {
            wide = each_append _ read (new ∷ []) r.wide (o.wide, tt);
            high = long_more read new ∙ rw e (omega arith);
            good = each_append _ read (new ∷ []) r.good (o.good, tt);
          };
          here = sym (get_or-append_seam read new [] []) ∙ ap (λ i. get_or (read ++ (new ∷ [])) i []) l;
          told_here = told_more read new S l M said came r.told;
        }

    rolls_whole : S.ending ≡ Stopped → Whole K S.width (height_of S) read
    rolls_whole e = record { wide = r.wide; high = r.reads ∙ rw e; good = r.good }

    module _ (out : List A) (M' : Memory A) (out' : List A) (answer : Answer) (S' : State) where
      rolls_row : (pixels : List A) → row_number K kind S M pixels out ≡ 0 → Advanced K S M (map K.taken pixels) out M' out' answer S'
          → Rolls S' M' (read ++ (map K.taken pixels ∷ [])) (said ++ (row_said_of answer ∷ [])) (came ++ (came_with (row_said_of answer) out' ∷ []))
      rolls_row pixels n h =
          let o = row_offered K kind S M pixels out n in
          let new = map K.taken pixels in
          let p = read ++ (new ∷ []) in
          let x = rolls_reads pixels out n in
          let w : S.step < height_of S + plan_ahead S.plan = omega (arith, o.within) in
          let l : length p ≡ S.step + 1 = long_more read new ∙ omega (arith, x.long) in
          let u = x.told_here in
          let t = told_next K kind first p S M x.whole new out M' out' answer S' h (λ _. x.here) w u.held said came u in
          let m = lent_next K kind S M new out M' out' answer S' r.lent w o.low h in
          subst (λ T. Rolls T M' p (said ++ (row_said_of answer ∷ [])) (came ++ (came_with (row_said_of answer) out' ∷ []))) (sym h.state)
          (record {
            kept = ap next_state r.kept;
            ends = r.ends;
            lent = subst (λ T. memory_judged kind T M' ≡ 0) h.state m;
            reads = rw x.still l;
            uncounted = r.uncounted;
            steps = omega arith;
            wide = x.whole.wide;
            good = x.whole.good;
            told = subst (λ T. Told K kind first p T M' (said ++ (row_said_of answer ∷ [])) (came ++ (came_with (row_said_of answer) out' ∷ []))) h.state t;
          })

      rolls_drain : drain_judged kind S M out ≡ 0 → Advanced K S M [] out M' out' answer S'
          → Rolls S' M' read (said ++ (row_said_of answer ∷ [])) (came ++ (came_with (row_said_of answer) out' ∷ []))
      rolls_drain n h =
          let d = drain_accepted kind S (length M.values) (length M.positions) M.starts M.lengths (length out) n in
          let e = ends_stopped S.ending r.ends d.closed in
          let l : length read ≡ S.rows = rw e at r.reads in
          let t = told_next K kind first read S M (rolls_whole e) [] out M' out' answer S' h (λ (b : S.step < height_of S). absurd (omega (arith, d.read))) d.within r.told.held said came r.told in
          let m = lent_next K kind S M [] out M' out' answer S' r.lent d.within d.low h in
          subst (λ T. Rolls T M' read (said ++ (row_said_of answer ∷ [])) (came ++ (came_with (row_said_of answer) out' ∷ []))) (sym h.state)
          (record {
            kept = ap next_state r.kept;
            ends = r.ends;
            lent = subst (λ T. memory_judged kind T M' ≡ 0) h.state m;
            reads = rw e l;
            uncounted = r.uncounted;
            steps = omega (arith, r.steps);
            wide = r.wide;
            good = r.good;
            told = subst (λ T. Told K kind first read T M' (said ++ (row_said_of answer ∷ [])) (came ++ (came_with (row_said_of answer) out' ∷ []))) h.state t;
          })

      -- a refused call changes nothing
      rolls_same : S' ≡ S → M' ≡ M → Rolls S' M' read said came
      rolls_same e f = subst (λ T. Rolls T M' read said came) (sym e) (subst (λ N. Rolls S N read said came) (sym f) r)

    -- the stop: the same rows, steps and memory
    rolls_stop : stop_number S ≡ 0 → Rolls (stopped_state S) M read said came
    rolls_stop n =
        let (_, o, _) = stop_accepted S n in
        let e = ends_open S.ending r.ends o in
        let l : length read ≡ S.step = rw e at r.reads in
        let f = judged_fit kind S M r.lent in
        let g = shared_accepted kind S (min (length M.values) (length M.positions)) (min (length M.starts) (length M.lengths)) M.starts M.lengths r.lent in
        record {
          kept = ap stopped_state r.kept;
          ends = inr refl;
          lent = lent_zero kind (stopped_state S) M (stop_sound S n) g.sample f.values_lent f.positions_lent f.starts_lent f.lengths_lent f.sound;
          reads = l;
          uncounted = λ z. absurd (false≢true (sym (ap is_not_open z)));
          steps = r.steps;
          wide = r.wide;
          good = r.good;
          told = record { held = r.told.held; says = r.told.says; comes = r.told.comes };
        }

  -- the start
  rolls_first : {M : Memory A} → Begun K kind first Open 0 M → Rolls first M [] [] []
  rolls_first b = record {
    kept = refl;
    ends = inl b.ends;
    lent = b.lent;
    reads = rw b.ends (sym b.none);
    uncounted = λ _. b.counts;
    steps = omega arith;
    wide = tt;
    good = tt;
    told = b.told [];
  }

  abbrev R : State → Memory A → Picture A → List RowSaid → List (Option (List A)) → Type 0
  R = OpenRun K kind first

  rolls : {S : State} {M : Memory A} {read : Picture A} {said : List RowSaid} {came : List (Option (List A))} → R S M read said came → Rolls S M read said came
  rolls (opened plan width cells starts lengths r l h z q v p) =
      let f = (start_fits plan kind width 1 cells (min (length starts) (length lengths)) (sym h.told ∙ z)).0 in
      rolls_first (begun K kind first plan width Open 0 1 begins_open cells starts lengths r (omega arith) h z q v p)
  rolls (opened_numbers {M} count bytes width cells starts lengths r h z q v p) =
      let plan = plan_of (stages_from count bytes) in
      rolls_first (begun K kind first plan width Open 0 1 begins_open cells starts lengths r (rw length-append (omega arith))
      (numbers_start count bytes kind width 1 cells (open_state plan kind width) starts lengths M.starts M.lengths r h z) z q v p)
  rolls (offered {S} {S'} {M} {M'} {read} {said} {came} pixels out out' answer r n h) = rolls_row S M read said came (rolls r) out M' out' answer S' pixels n (h.accepted n)
  rolls (drained {S} {S'} {M} {M'} {read} {said} {came} out out' answer r n h) = rolls_drain S M read said came (rolls r) out M' out' answer S' n (h.accepted n)
  rolls (stopped {S} {M} {read} {said} {came} q r n h) = subst (λ T. Rolls T M read said came) (sym (h.accepted n)) (rolls_stop S M read said came (rolls r) n)
  rolls (row_refused {S} {S'} {M} {M'} {read} {said} {came} pixels out out' answer r n h) =
      let u = h.refusal n in rolls_same S M read said came (rolls r) out M' out' answer S' u.state u.memory
  rolls (drain_refused {S} {S'} {M} {M'} {read} {said} {came} out out' answer r n h) =
      let u = h.refusal n in rolls_same S M read said came (rolls r) out M' out' answer S' u.state u.memory
  rolls (stop_refused {S} {M} {read} {said} {came} q r n h) = subst (λ T. Rolls T M read said came) (sym (h.refusal n)) (rolls r)

  module _ (S : State) (M : Memory A) (read : Picture A) (said : List RowSaid) (came : List (Option (List A))) (r : R S M read said came) where
    -- THE THEOREM OF OPEN RUNS. After an open start that is taken and any calls, refused ones and the stop among them: over the rows that were accepted, as many as there are so far, the answers, the rows,
    -- their numbers, the comparisons and the queues are document 01's.
    pub open_told : OpenRan K kind first read S M said came
    open_told =
        let g = rolls r in
        let u = g.told in
        let (b, k) = ends_known S.ending S.rows (plan_ahead S.plan) S.step (length read) g.ends g.reads (judged_fit kind S M g.lent).run.within in
        let f = told_follows K kind first read S M said came u g.wide b k g.lent in
        record {
          kept = g.kept;
          ends = g.ends;
          reads = g.reads;
          uncounted = g.uncounted;
          numbered = let f = (judged_fit kind S M g.lent).run in ends_few S.ending S.rows S.step (length read) g.ends g.reads f.low f.closed;
          counted = f.counted;
          bounded = (g.steps, b);
          says = u.says;
          comes = u.comes;
          filtered = f.filtered;
          costs = f.costs;
          few = f.few;
          held = u.held;
          shows = f.shows;
        }

    -- after the last step every row of the plan applied to the rows read has come
    pub open_filtered : S.ending ≡ Stopped → S.step ≡ S.rows + plan_ahead S.plan → rows_of came ≡ apply_plan (stages_of K.order S.plan) read
    open_filtered e h =
        let Ss = stages_of K.order S.plan in
        let l : length read ≡ S.rows = rw e at (rolls r).reads in
        let n : S.step - plan_ahead S.plan ≡ length (apply_plan Ss read) = omega (arith, plan_length Ss read) in
        open_told.filtered ∙ ap (λ k. take k (apply_plan Ss read)) n ∙ take-length (apply_plan Ss read)

    -- ---- the calls of an open run are accepted

    -- a row while the run is open and there is a number for it, of the width and of accepted pixels
    pub open_takes : (pixels out : List A) → S.ending ≡ Open → S.step < 4294967296 → length pixels ≡ S.width → length out ≡ S.width → all K.good pixels ≡ true → row_number K kind S M pixels out ≡ 0
    open_takes pixels out e l a b g =
        let c : is_all_read S.ending S.rows S.step ≡ false = rw e in
        let d : is_past_last S.ending S.step ≡ false = rw e (lt-leb 4294967296 S.step l) in
        row_zero K kind S M pixels out (sym (offer_all kind S (length M.values) (length M.positions) M.starts M.lengths (length pixels) (length out) (rolls r).lent c d a b)) g

    -- the stop, once a row is read
    pub open_stops : S.ending ≡ Open → 0 < S.step → stop_number S ≡ 0
    open_stops e l = sym (stop_all S (state_zero kind S M (rolls r).lent) (rw e) (λ (z : S.step ≡ 0). omega arith))

    -- a drain after it, until the last output
    pub open_drains : (out : List A) → S.ending ≡ Stopped → S.step < S.rows + plan_ahead S.plan → length out ≡ S.width → drain_judged kind S M out ≡ 0
    open_drains out e l b =
        let n : length read ≡ S.rows = rw e at (rolls r).reads in
        let d = closed_drains S.ending S.rows (plan_ahead S.plan) S.step (rw e) (omega (arith, (rolls r).steps)) l in
        sym (drain_all kind S (length M.values) (length M.positions) M.starts M.lengths (length out) (rolls r).lent d b)

    -- ---- a call's outcome is one, with no picture as a premise: the picture is the rows read, and the one offered

    module _ (M₁ M₂ : Memory A) (out out₁ out₂ : List A) (a₁ a₂ : Answer) (S₁ S₂ : State) where
      pub open_row_unique : (pixels : List A) → RowStep K kind S M pixels out M₁ out₁ a₁ S₁ → RowStep K kind S M pixels out M₂ out₂ a₂ S₂ → row_number K kind S M pixels out ≡ 0
          → SameStep K S M₁ M₂ out₁ out₂ a₁ a₂ S₁ S₂ × SamePast K S M₁ M₂
      open_row_unique pixels h k n =
          let x = rolls_reads S M read said came (rolls r) pixels out n in
          row_unique K S kind M M₁ M₂ out out₁ out₂ a₁ a₂ S₁ S₂ pixels h k n (read ++ (map K.taken pixels ∷ [])) x.whole x.told_here.held

      pub open_drain_unique : DrainStep K kind S M out M₁ out₁ a₁ S₁ → DrainStep K kind S M out M₂ out₂ a₂ S₂ → drain_judged kind S M out ≡ 0
          → SameStep K S M₁ M₂ out₁ out₂ a₁ a₂ S₁ S₂ × SamePast K S M₁ M₂
      open_drain_unique h k n =
          let d = drain_accepted kind S (length M.values) (length M.positions) M.starts M.lengths (length out) n in
          let e = ends_stopped S.ending (rolls r).ends d.closed in
          drain_unique K S kind M M₁ M₂ out out₁ out₂ a₁ a₂ S₁ S₂ h k n read (rolls_whole S M read said came (rolls r) e) (rolls r).told.held

  module _ (S : State) (M : Memory A) (read : Picture A) (said : List RowSaid) (came : List (Option (List A))) (r : R S M read said came) where
    -- A stop that is taken loses nothing: H is the rows read, the run goes on over the same picture with the same memory, every queue is document 01's before it and after it, and a read-out shows the same.
    pub stop_loses_nothing : (q : Stopping) → stop_number S ≡ 0 → PictureStop S q
        → (q.state.ending ≡ Stopped) × (q.state.rows ≡ length read) × OpenRan K kind first read S M said came × OpenRan K kind first read q.state M said came
        × ((stage column place : ℕ) (a b : Shown A) → Shows K kind S M stage column place a → Shows K kind q.state M stage column place b → a ≡ b)
    stop_loses_nothing q n h =
        let s = h.accepted n in
        let (_, o, _) = stop_accepted S n in
        let l : length read ≡ S.step = rw (ends_open S.ending (rolls r).ends o) at (rolls r).reads in (
          ap (λ (T : State). T.ending) s,
          ap (λ (T : State). T.rows) s ∙ sym l,
          open_told S M read said came r,
          open_told q.state M read said came (stopped q r n h),
          λ stage column place a b x y.
              (open_told S M read said came r).shows stage column place a x ∙ ap (λ (T : State). shown_over K kind first T read stage column place) (sym s)
              ∙ sym ((open_told q.state M read said came (stopped q r n h)).shows stage column place b y),
        )

    -- An open run that has stopped beside a fixed run of the rows read (which are then at most 65,535), of the same plan and width and after as many steps: the answers, the rows that came and the queues,
    -- cell by cell, are the same.
    pub open_fixed : (first' S' : State) (M' : Memory A) (said' : List RowSaid) (came' : List (Option (List A))) → PictureRun K kind first' S' M' read said' came' → S.ending ≡ Stopped
        → S'.plan ≡ S.plan → S'.width ≡ S.width → S'.rows ≡ S.rows → S'.step ≡ S.step → (said' ≡ said) × (came' ≡ came) × SameQueues K S M' M
    open_fixed first' S' M' said' came' q e plan width rows step =
        let o = open_told S M read said came r in
        let l : length read ≡ S.rows = rw e at o.reads in
        let w = run_whole K kind first' S' M' read said' came' q (omega (arith, o.bounded.0)) in
        let t = run_told K kind first' S' M' read said' came' q read w (take-length read) in (
          t.says ∙ rw (plan, width, step) (sym o.says),
          t.comes ∙ rw (plan, step) (sym o.comes),
          held_same K S read S.step M' M (rw (plan, width, step) at t.held) o.held,
        )

-- ---- floats

module _ (first : State) where
  -- the pixels of the rows as they are read: finite, and no negative zero
  read_accepted : {S : State} {M : Memory Float} {read : Picture Float} {said : List RowSaid} {came : List (Option (List Float))} → OpenRun rates 1 first S M read said came
      → Each (Each (λ a. accepted a ≡ true)) read
  read_accepted (opened plan width cells starts lengths r l h z q v p) = tt
  read_accepted (opened_numbers count bytes width cells starts lengths r h z q v p) = tt
  read_accepted (offered {S} {S'} {M} {M'} {read} pixels out out' answer r n h) =
      each_append _ read (map rates.taken pixels ∷ []) (read_accepted r) (each_map _ rates.taken pixels (each_weaken _ _ pixels accepted_plus (row_offered rates 1 S M pixels out n).given), tt)
  read_accepted (drained out out' answer r n h) = read_accepted r
  read_accepted (stopped q r n h) = read_accepted r
  read_accepted (row_refused pixels out out' answer r n h) = read_accepted r
  read_accepted (drain_refused out out' answer r n h) = read_accepted r
  read_accepted (stop_refused q r n h) = read_accepted r

  -- "A negative zero is read as positive zero, so output never holds a negative zero."
  pub open_rate_output : (S : State) (M : Memory Float) (read : Picture Float) (said : List RowSaid) (came : List (Option (List Float))) → OpenRun rates 1 first S M read said came
      → Each (Each (λ a. accepted a ≡ true)) (rows_of came)
  open_rate_output S M read said came r =
      let Ss = stages_of rates.order S.plan in
      rw (open_told rates 1 first S M read said came r).filtered
      (each_take _ (S.step - plan_ahead S.plan) (apply_plan Ss read) (plan_each Ss S.width read (rolls rates 1 first r).wide (λ a. accepted a ≡ true) (read_accepted r)))
