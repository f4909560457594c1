-- What holds after each call of a run that asks. By which idea: such a run is a run that does not ask, on the same cells. An accepted step keeps the columns and tells the origins, both rest on the rows read when
-- a row comes in an open run, and a refused call changes nothing.
use mathlib.Core.Path.{◌≡◌, refl, sym, ap, ◌∙◌, subst}
use mathlib.Core.Bool.{true, false, false≢true}
use mathlib.Core.List.{List, [], ◌∷◌, ◌++◌, map}
use mathlib.Core.Logic.{◌⊎◌, inl, inr, ⊎_elim}
use mathlib.Core.Option.{Option, some}
use Prim.Native.Nat.{ℕ, ◌+◌, ◌-◌, ◌≤◌, ◌<◌, min}
use native.Mathlib.Omega.{arith}
use borrow.Author.Tests.{leb-true, lt-ltb}
use lib.Dec.{leb}
use lib.ListN.{length, get_or, take, length-append, length-take}
use lib.Seq.{take_all, take-length, get_or-take}
use Rattle.morph.specs.Lists.{tabulate, Each}
use Rattle.morph.specs.Line.{output_at}
use Rattle.morph.specs.Picture.{Picture, Wide}
use Rattle.morph.specs.Origin.{positions_line}
use Rattle.morph.proofs.Lists.{split, tabulate_ext, each_append}
use Rattle.sample.specs.Samples.{Samples}
use Rattle.plan_record.specs.declared.Plan.{Plan}
use Rattle.plan_record.specs.Plan.{used, plan_of, stages_from, cells_needed, records_needed, plan_ahead}
use Rattle.memory.specs.Memory.{Whole}
use Rattle.chain.proofs.Rests.{holds_prefix}
use Rattle.picture_state.specs.declared.State.{State}
use Rattle.picture_state.specs.declared.Ending.{Ending}
use Rattle.picture_state.specs.declared.Ending.TheVariants.{Fixed, Open, Stopped}
use Rattle.picture_state.specs.declared.Answer.{Answer}
use Rattle.picture_state.specs.Numbers.{height_in, height_of, is_not_open, memory_judged}
use Rattle.picture_state.specs.Step.{RowSaid, row, is_not_yet, row_said_of, next_state, RowStep, DrainStep}
use Rattle.picture_state.proofs.Numbers.{shared_accepted, drain_accepted}
use Rattle.picture_state.proofs.Step.{judged_fit}
use Rattle.picture_start.specs.declared.Started.{Started}
use Rattle.picture_start.specs.declared.Stopping.{Stopping}
use Rattle.picture_start.specs.Start.{start_number, state_from, first_state_of, open_state, PictureStart}
use Rattle.picture_start.specs.Stop.{stop_number, stopped_state, PictureStop}
use Rattle.picture_start.proofs.Starting.{Begins, begins_fixed, begins_open}
use Rattle.picture_start.proofs.Stops.{stop_accepted, stop_sound}
use Rattle.picture_origin.specs.Numbers.{OriginMemory, OriginRows, origin_row_number, origin_drain_number}
use Rattle.picture_origin.specs.Step.{only_filter, OriginsHold, OriginsAdvanced}
use Rattle.picture_origin.proofs.Numbers.{origin_row_plain, origin_drain_plain}
use Rattle.picture.specs.Runs.{came_with, PictureRun, started as fixed-started, started_numbers as fixed-started-numbers, offered as fixed-offered, drained as fixed-drained}
use Rattle.picture.specs.OpenRuns.{OpenRun, opened as open-opened, opened_numbers as open-opened-numbers, offered as open-offered, drained as open-drained, stopped as open-stopped}
use Rattle.picture.proofs.Unique.{row_offered}
use Rattle.picture.proofs.Runs.{begins_more, table_more, lent_zero, lent_next, begun, run_read}
use Rattle.picture.proofs.OpenRuns.{open_told}
use Rattle.origin_runs.specs.OriginRuns.{origins_with, pixels_came, OriginsLent, origins_of, origins_at, OriginRun, started, started_numbers, opened, opened_numbers, offered, drained, stopped, row_refused, drain_refused, stop_refused}
use Rattle.origin_runs.proofs.Rests.{rows_same, origins_rest}
use Rattle.origin_runs.proofs.Asked.{memory_same, pixels_more, One, one_ahead, one_row_law, asked_start, asked_numbers}

-- ---- the picture that a run is over: the rows that are counted, and in an open run those read

abbrev pub over : Ending → ℕ → ℕ → ℕ
over Fixed rows step = rows
over Open rows step = step
over Stopped rows step = rows

over_next : (e : Ending) (rows step : ℕ) → over e rows (step + 1) ≡ height_in e rows step
over_next Fixed rows step = refl
over_next Open rows step = refl
over_next Stopped rows step = refl

over_closed : (e : Ending) (rows step : ℕ) → is_not_open e ≡ true → height_in e rows step ≡ over e rows step
over_closed Fixed rows step h = refl
over_closed Open rows step h = absurd (false≢true h)
over_closed Stopped rows step h = refl

module _ {A : Type 0} (K : Samples A) (kind : ℕ) (first : State) where
  -- what the memory holds over a picture, and the rows that came
  pub record Now (p : Picture A) (S : State) (M : OriginMemory A) (came : List (Option (OriginRows A))) : Type 0 where
    pub held : OriginsHold K S p S.step M
    pub comes : came ≡ tabulate S.step (origins_at K S p)

  -- one step more
  module _ (p : Picture A) (S : State) (o : One S.plan) (M : OriginMemory A) (whole : Whole K S.width (height_of S) p) (pixels : List A) (out : OriginRows A) (M' : OriginMemory A) (out' : OriginRows A)
      (answer : Answer) (h : OriginsAdvanced K S M pixels out M' out' answer (next_state S)) (given : S.step < height_of S → pixels ≡ get_or p S.step []) (within : S.step < height_of S + plan_ahead S.plan)
      (held : OriginsHold K S p S.step M) where
    abbrev t : ℕ
    t = S.step

    abbrev D : ℕ
    D = plan_ahead S.plan

    came_due : D ≤ t → out' ≡ origins_of K S p (t - D)
    came_due d =
        rows_same out' (origins_of K S p (t - D)) ((h.plain.told p whole held.0 given).2 d ∙ one_row_law K S o p (t - D)) (h.rows_told p whole held.0 given d) ((h.told p whole held given).1 d)

    said_row : leb D t ≡ true → row_said_of answer ≡ row (t - D) h.plain.comparisons
    said_row d = h.plain.said ∙ rw d

    said_wait : leb D t ≡ false → row_said_of answer ≡ is_not_yet h.plain.comparisons
    said_wait d = h.plain.said ∙ rw d

    came_here : origins_with (row_said_of answer) out' ≡ origins_at K S p t
    unfolding output_at
    came_here =
        split (leb D t)
        (λ d. ap (λ s. origins_with s out') (said_row d) ∙ ap some (came_due (leb-true D t d)) ∙ rw (d, lt-ltb (t - D) (length p) (omega (arith, whole.high, leb-true D t d))))
        (λ d. ap (λ s. origins_with s out') (said_wait d) ∙ rw d)

    now_next : (came : List (Option (OriginRows A))) → came ≡ tabulate t (origins_at K S p) → Now p (next_state S) M' (came ++ (origins_with (row_said_of answer) out' ∷ []))
    now_next came e = record { held = (h.told p whole held given).0; comes = table_more t (origins_at K S p) came (origins_with (row_said_of answer) out') e came_here }

  -- ---- what holds after each call

  -- the run that does not ask
  abbrev pub Runs : State → OriginMemory A → Picture A → List RowSaid → List (Option (OriginRows A)) → Type 0
  Runs S M read said came =
      ((first.ending ≡ Fixed) × (S.ending ≡ Fixed) × PictureRun K kind first S M.cells read said (pixels_came came))
      ⊎ ((first.ending ≡ Open) × OpenRun K kind first S M.cells read said (pixels_came came))

  pub record Going (S : State) (M : OriginMemory A) (read : Picture A) (said : List RowSaid) (came : List (Option (OriginRows A))) : Type 0 where
    pub runs : Runs S M read said came
    pub one : One S.plan
    pub lent : memory_judged kind S M.cells ≡ 0
    pub columns_lent : cells_needed S.plan S.width ≤ length M.columns
    pub wide : Wide S.width read
    pub good : Each (Each (λ a. K.good a ≡ true)) read
    pub now : (p : Picture A) → Whole K S.width (over S.ending S.rows S.step) p → take (length read) p ≡ read → Now p S M came

  module _ (S : State) (M : OriginMemory A) (read : Picture A) (said : List RowSaid) (came : List (Option (OriginRows A))) (g : Going S M read said came) where
    -- while a row is left to read each step has read one
    pub reads_on : S.step < height_of S → (length read ≡ S.step) × ((S.ending ≡ Fixed) ⊎ (S.ending ≡ Open))
    reads_on w =
        ⊎_elim
        (λ (_, e, q). let a = run_read K kind first S M.cells read said (pixels_came came) q in let b : S.step < S.rows = rw e at w in (omega arith, inl e))
        (λ (_, q).
        let o = open_told K kind first S M.cells read said (pixels_came came) q in
        ⊎_elim (λ e. (rw e at o.reads, inr e))
        (λ e. let a : length read ≡ S.rows = rw e at o.reads in let b : S.step < S.rows = rw e at w in absurd (omega (arith, o.bounded.0)))
        o.ends)
        g.runs

    -- and once none is left, they are the picture
    pub all_read : is_not_open S.ending ≡ true → height_of S ≤ S.step → Whole K S.width (height_of S) read
    all_read c l =
        let n : length read ≡ height_of S =
        ⊎_elim
        (λ (_, e, q). let a = run_read K kind first S M.cells read said (pixels_came came) q in let b : S.rows ≤ S.step = rw e at l in a ∙ rw e (omega arith))
        (λ (_, q).
        let o = open_told K kind first S M.cells read said (pixels_came came) q in
        o.reads ∙ ⊎_elim (λ e. absurd (false≢true (sym (ap is_not_open e) ∙ c))) (λ e. rw e) o.ends)
        g.runs in
        record { wide = g.wide; high = n; good = g.good }

    -- one row more in an open run: the steps so far tell the same of the picture with it
    now_open : S.ending ≡ Open → length read ≡ S.step → (p : Picture A) → S.step < length p → take S.step p ≡ read → Now p S M came
    now_open e l p w back =
        let n = g.now read (record { wide = g.wide; high = l ∙ rw e; good = g.good }) (take-length read) in
        let (q, c) = n.held in
        let F = only_filter K S in
        record {
          held = (
            holds_prefix K S.width (used S.plan) read p S.step M.cells (omega arith) (omega arith) (take_all S.step read (omega arith) ∙ sym back) q,
            λ r a b d. c r a (omega arith) d ∙ ap (positions_line F.order F.back F.ahead) (ap (λ m. get_or m r []) (sym back) ∙ get_or-take S.step p r [] a),
          );
          comes = n.comes ∙ tabulate_ext S.step _ _ (λ t h. ap (λ m. origins_at K S m t) (sym back) ∙ sym (origins_rest K S (one_ahead K S g.one) p S.step t h (omega arith)));
        }

    -- over a picture that goes on with a row, and over one whose rows are all read
    pub now_row : (new : List A) → S.step < height_of S → (p : Picture A) → Whole K S.width (height_of S) p → take (length (read ++ (new ∷ []))) p ≡ read ++ (new ∷ [])
        → Now p S M came × (new ≡ get_or p S.step [])
    now_row new w p whole e =
        let (a, b) = begins_more read new p [] e in
        let (l, f) = reads_on w in (
          ⊎_elim (λ k. g.now p (rw k (rw k at whole)) a) (λ k. now_open k l p (omega (arith, whole.high)) (ap (λ n. take n p) (sym l) ∙ a)) f,
          b ∙ ap (λ i. get_or p i []) l,
        )

    pub now_drain : is_not_open S.ending ≡ true → (p : Picture A) → Whole K S.width (height_of S) p → take (length read) p ≡ read → Now p S M came
    now_drain c p whole e = g.now p (subst (λ n. Whole K S.width n p) (over_closed S.ending S.rows S.step c) whole) e

    module _ (out : OriginRows A) (M' : OriginMemory A) (out' : OriginRows A) (answer : Answer) where
      abbrev said' : List RowSaid
      said' = said ++ (row_said_of answer ∷ [])

      abbrev came' : List (Option (OriginRows A))
      came' = came ++ (origins_with (row_said_of answer) out' ∷ [])

      same_pixels : pixels_came came ++ (came_with (row_said_of answer) out'.pixels ∷ []) ≡ pixels_came came'
      same_pixels = pixels_more came (row_said_of answer) out'

      -- an accepted step
      going_next : (pixels : List A) (read' : Picture A) → OriginsAdvanced K S M pixels out M' out' answer (next_state S) → S.step < height_of S + plan_ahead S.plan → height_of S ≤ 4294967296
          → Runs (next_state S) M' read' said' came' → Wide S.width read' → Each (Each (λ a. K.good a ≡ true)) read'
          → ((p : Picture A) → Whole K S.width (height_of S) p → take (length read') p ≡ read' → Now p S M came × (S.step < height_of S → pixels ≡ get_or p S.step []))
          → Going (next_state S) M' read' said' came'
      going_next pixels read' h w low runs wide good now = record {
        runs = runs;
        one = g.one;
        lent = lent_next K kind S M.cells pixels out.pixels M'.cells out'.pixels answer (next_state S) g.lent w low h.plain;
        columns_lent = rw h.columns_long g.columns_lent;
        wide = wide;
        good = good;
        now = λ p whole e.
            let whole₀ = subst (λ n. Whole K S.width n p) (over_next S.ending S.rows S.step) whole in
            let (u, b) = now p whole₀ e in
            now_next p S g.one M whole₀ pixels out M' out' answer h b w u.held came u.comes;
      }

      going_row : (pixels : List A) → origin_row_number K kind S M pixels out ≡ 0 → OriginsAdvanced K S M (map K.taken pixels) out M' out' answer (next_state S)
          → Going (next_state S) M' (read ++ (map K.taken pixels ∷ [])) said' came'
      going_row pixels n h =
          let m = origin_row_plain K kind S M pixels out n in
          let o = row_offered K kind S M.cells pixels out.pixels m in
          let new = map K.taken pixels in
          let more = read ++ (new ∷ []) in
          let s : RowStep K kind S M.cells pixels out.pixels M'.cells out'.pixels answer (next_state S) = record { refusal = λ k. absurd (k m); accepted = λ _. h.plain } in
          going_next new more h (omega (arith, o.within)) o.low
          (⊎_elim
          (λ (a, e, q). inl (a, e, subst (PictureRun K kind first (next_state S) M'.cells more said') same_pixels (fixed-offered pixels out.pixels out'.pixels answer q m s)))
          (λ (a, q). inr (a, subst (OpenRun K kind first (next_state S) M'.cells more said') same_pixels (open-offered pixels out.pixels out'.pixels answer q m s))) g.runs)
          (each_append _ read (new ∷ []) g.wide (o.wide, tt)) (each_append _ read (new ∷ []) g.good (o.good, tt)) (λ p whole e. let (u, b) = now_row new o.within p whole e in (u, λ _. b))

      going_drain : origin_drain_number kind S M out ≡ 0 → OriginsAdvanced K S M [] out M' out' answer (next_state S) → Going (next_state S) M' read said' came'
      going_drain n h =
          let m = origin_drain_plain kind S M out n in
          let d = drain_accepted kind S (length M.cells.values) (length M.cells.positions) M.cells.starts M.cells.lengths (length out.pixels) m in
          let s : DrainStep K kind S M.cells out.pixels M'.cells out'.pixels answer (next_state S) = record { refusal = λ k. absurd (k m); accepted = λ _. h.plain } in
          going_next [] read h d.within d.low
          (⊎_elim
          (λ (a, e, q). inl (a, e, subst (PictureRun K kind first (next_state S) M'.cells read said') same_pixels (fixed-drained out.pixels out'.pixels answer q m s)))
          (λ (a, q). inr (a, subst (OpenRun K kind first (next_state S) M'.cells read said') same_pixels (open-drained out.pixels out'.pixels answer q m s))) g.runs)
          g.wide g.good (λ p whole e. (now_drain d.closed p whole e, λ (b : S.step < height_of S). absurd (omega (arith, d.read))))

    -- a refused call changes nothing
    going_same : (M' : OriginMemory A) (S' : State) → S' ≡ S → M'.cells ≡ M.cells → M'.columns ≡ M.columns → Going S' M' read said came
    going_same M' S' e a b = subst (λ T. Going T M' read said came) (sym e) (subst (λ N. Going S N read said came) (sym (memory_same M' M a b)) g)

    -- the stop: the same rows, steps and memory
    going_stop : (q : Stopping) → stop_number S ≡ 0 → PictureStop S q → Going q.state M read said came
    going_stop q n h =
        let (_, o, _) = stop_accepted S n in
        let f = judged_fit kind S M.cells g.lent in
        let k = shared_accepted kind S (min (length M.cells.values) (length M.cells.positions)) (min (length M.cells.starts) (length M.cells.lengths)) M.cells.starts M.cells.lengths g.lent in
        let closed : is_not_open S.ending ≡ true → ⊥ = λ e. false≢true (sym o ∙ e) in
        let still : (S.ending ≡ Open) × (first.ending ≡ Open) × OpenRun K kind first S M.cells read said (pixels_came came) =
        ⊎_elim (λ (_, e, _). absurd (closed (ap is_not_open e)))
        (λ (a, r). (⊎_elim (λ e. e) (λ e. absurd (closed (ap is_not_open e))) (open_told K kind first S M.cells read said (pixels_came came) r).ends, a, r))
        g.runs in
        subst (λ T. Going T M read said came) (sym (h.accepted n))
        (record {
          runs = inr (still.1, subst (λ T. OpenRun K kind first T M.cells read said (pixels_came came)) (h.accepted n) (open-stopped q still.2 n h));
          one = g.one;
          lent = lent_zero kind (stopped_state S) M.cells (stop_sound S n) k.sample f.values_lent f.positions_lent f.starts_lent f.lengths_lent f.sound;
          columns_lent = g.columns_lent;
          wide = g.wide;
          good = g.good;
          now = λ p whole e. let u = g.now p (rw still.0 whole) e in record { held = u.held; comes = u.comes };
        })

  -- the start, of any ending
  module _ {M : OriginMemory A} (plan : Plan) (width : ℕ) (ending : Ending) (rows judged : ℕ) (begins : Begins ending rows judged) (cells : ℕ) (starts lengths : List ℕ) (r : Started)
      (long : plan.count ≤ length plan.stages)
      (h : PictureStart (start_number plan kind width judged cells (min (length starts) (length lengths))) (state_from plan kind width ending rows) (records_needed plan width) starts lengths M.cells.starts M.cells.lengths r)
      (one : plan.count ≡ 1) (z : r.number ≡ 0) (q : r.state ≡ first) (l : OriginsLent first M) where
    going_first : (first.ending ≡ ending → Runs first M [] [] []) → Going first M [] [] []
    going_first runs =
        let b = begun K kind first {M = M.cells} plan width ending rows judged begins cells starts lengths r long h z q l.0 l.1 in
        let e : first.plan ≡ plan_of (used plan) = ap (λ (T : State). T.plan) (sym q ∙ (h.accepted (sym h.told ∙ z)).0) in
        let u : length (used plan) ≡ 1 = length-take plan.count plan.stages ∙ omega arith in
        record {
          runs = runs b.ends;
          one = rw e (record { count = u; some = rw length-append (omega arith) });
          lent = b.lent;
          columns_lent = l.2;
          wide = tt;
          good = tt;
          now = λ p _ _. record { held = ((b.told p).held, λ k a _ _. absurd (omega (arith, b.none))); comes = rw b.none };
        }

  pub going : {S : State} {M : OriginMemory A} {read : Picture A} {said : List RowSaid} {came : List (Option (OriginRows A))} → OriginRun K kind first S M read said came → Going S M read said came
  going (started {M} plan width rows cells starts lengths r long h z q l) =
      let (k, one) = asked_start kind width rows cells (first_state_of plan kind width rows) starts lengths M.cells.starts M.cells.lengths r z plan h in
      going_first plan width Fixed rows rows (begins_fixed rows) cells starts lengths r (omega arith) k one z q l (λ e. inl (e, e, fixed-started plan width rows cells starts lengths r long k z q l.0 l.1))
  going (started_numbers {M} count bytes width rows cells starts lengths r h z q l) =
      let plan = plan_of (stages_from count bytes) in
      let (k, s, one) = asked_numbers kind width rows cells (first_state_of plan kind width rows) starts lengths M.cells.starts M.cells.lengths r z count bytes h in
      going_first plan width Fixed rows rows (begins_fixed rows) cells starts lengths r (rw length-append (omega arith)) s one z q l
      (λ e. inl (e, e, fixed-started-numbers count bytes width rows cells starts lengths r k z q l.0 l.1))
  going (opened {M} plan width cells starts lengths r long h z q l) =
      let (k, one) = asked_start kind width 1 cells (open_state plan kind width) starts lengths M.cells.starts M.cells.lengths r z plan h in
      going_first plan width Open 0 1 begins_open cells starts lengths r (omega arith) k one z q l (λ e. inr (e, open-opened plan width cells starts lengths r long k z q l.0 l.1))
  going (opened_numbers {M} count bytes width cells starts lengths r h z q l) =
      let plan = plan_of (stages_from count bytes) in
      let (k, s, one) = asked_numbers kind width 1 cells (open_state plan kind width) starts lengths M.cells.starts M.cells.lengths r z count bytes h in
      going_first plan width Open 0 1 begins_open cells starts lengths r (rw length-append (omega arith)) s one z q l (λ e. inr (e, open-opened-numbers count bytes width cells starts lengths r k z q l.0 l.1))
  going (offered {S} {S'} {M} {M'} {read} {said} {came} pixels out out' answer r n h) =
      let a = h.accepted n in
      subst (λ T. Going T M' (read ++ (map K.taken pixels ∷ [])) (said ++ (row_said_of answer ∷ [])) (came ++ (origins_with (row_said_of answer) out' ∷ []))) (sym a.plain.state)
      (going_row S M read said came (going r) out M' out' answer pixels n (subst (OriginsAdvanced K S M (map K.taken pixels) out M' out' answer) a.plain.state a))
  going (drained {S} {S'} {M} {M'} {read} {said} {came} out out' answer r n h) =
      let a = h.accepted n in
      subst (λ T. Going T M' read (said ++ (row_said_of answer ∷ [])) (came ++ (origins_with (row_said_of answer) out' ∷ []))) (sym a.plain.state)
      (going_drain S M read said came (going r) out M' out' answer n (subst (OriginsAdvanced K S M [] out M' out' answer) a.plain.state a))
  going (stopped {S} {M} {read} {said} {came} q r n h) = going_stop S M read said came (going r) q n h
  going (row_refused {S} {S'} {M} {M'} {read} {said} {came} pixels out out' answer r n h) =
      let u = h.refusal n in going_same S M read said came (going r) M' S' u.plain.state u.plain.memory u.columns
  going (drain_refused {S} {S'} {M} {M'} {read} {said} {came} out out' answer r n h) =
      let u = h.refusal n in going_same S M read said came (going r) M' S' u.plain.state u.plain.memory u.columns
  going (stop_refused {S} {M} {read} {said} {came} q r n h) = subst (λ T. Going T M read said came) (sym (h.refusal n)) (going r)
