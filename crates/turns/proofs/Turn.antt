-- A turn at the rows, of either kind of samples. By which idea: a step's answer says what the turn puts, and the rest of the answer after the step is what the next machine means.
use mathlib.Core.Path.{◌≡◌, refl, sym, ap, ◌∙◌, subst}
use mathlib.Core.Logic.{inl, inr, ⊎_elim}
use mathlib.Core.List.{List, [], ◌++◌, append-nil}
use Prim.Native.Nat.{ℕ, zero, suc, ◌+◌, ◌-◌, ◌*◌, ◌≤◌, ◌<◌}
use native.Mathlib.Omega.{arith}
use borrow.Author.Tests.{ltb-true, ltb-false, eqb-true, eqb-false}
use lib.Dec.{eqb, ltb}
use lib.ListN.{length, take}
use Rattle.morph.proofs.Lists.{split}
use Rattle.morph.specs.Numbers.{given}
use Rattle.plan_record.specs.Plan.{plan_ahead}
use Rattle.memory.specs.Memory.{Memory}
use Rattle.picture_state.specs.Inner.{StateSound}
use Rattle.picture_state.specs.declared.State.{State}
use Rattle.picture_state.specs.declared.Ending.TheVariants.{Fixed}
use Rattle.picture_state.specs.declared.Answer.{Answer}
use Rattle.picture_state.specs.Numbers.{memory_judged, row_number, drain_judged}
use Rattle.picture_state.specs.Step.{RowSaid, row, is_not_yet, refused, row_said_of, next_state}
use Rattle.picture_state.proofs.Step.{judged_fit}
use Rattle.job_read.specs.Layout.{sample_bytes_of}
use Rattle.answer.specs.Answer.{Coding, grey_rows, rate_rows, ending}
use Rattle.answer.proofs.Codes.{Codes, grey_codes, rate_codes}
use Rattle.turns.specs.declared.Phase.TheVariants.{Rows}
use Rattle.turns.specs.declared.Machine.{Machine}
use Rattle.turns.specs.declared.Turned.{Turned}
use Rattle.turns.specs.Inner.{RowsMean, Framed, FramedBoth, MachineMemory, grey_memory, rate_memory, row_size_of, wants_of, MeansAt, Means, Stands, left_at, left_of, at_rows_of, Goes, Turns, EndsWith, ComesOf}
use Rattle.turns.proofs.Phases.{size_few, wants_row, wants_drain, wants_tail}
use Rattle.turns.proofs.Step.{lent_parts}
use Rattle.turns.proofs.Rows.{On, Comes, short_row, tail_end, comes_row, comes_drain}

-- ---- a machine at the rows

-- what stands of its state, whatever it means
pub record AtRows (m : Machine) : Type 0 where
  pub wants : m.wants ≡ wants_of m.state
  pub sound : StateSound m.state
  pub fixed : m.state.ending ≡ Fixed
  pub few : m.state.rows ≤ 4294967296
  pub sample : m.state.sample ≤ 1

pub rows_means : (m : Machine) (L : MachineMemory) (f : List ℕ → List ℕ) → m.phase ≡ Rows → Means m L f → MeansAt Rows m.wants m.state L f
rows_means m L f e h = subst (λ p. MeansAt p m.wants m.state L f) e h

pub stands_rows : (m : Machine) (L : MachineMemory) → m.phase ≡ Rows → Stands m L → AtRows m
stands_rows m L e s =
    let (w, k) = rows_means m L s.f e s.means in
    ⊎_elim
    (λ g. record { wants = w; sound = (judged_fit 0 m.state (grey_memory L) g.1.judged).run; fixed = g.1.fixed; few = (judged_fit 0 m.state (grey_memory L) g.1.judged).run.closed (rw g.1.fixed); sample = omega (arith, g.0) })
    (λ g. record { wants = w; sound = (judged_fit 1 m.state (rate_memory L) g.1.judged).run; fixed = g.1.fixed; few = (judged_fit 1 m.state (rate_memory L) g.1.judged).run.closed (rw g.1.fixed); sample = omega (arith, g.0) })
    k

left_rows : (m : Machine) → m.phase ≡ Rows → left_of m ≡ m.state.rows + plan_ahead m.state.plan + 2 - m.state.step
left_rows m e = ap (λ p. left_at p m.wants m.state) e

-- ---- the bytes of a row, by the kind of samples

pub grey_there : (S : State) (n : ℕ) → S.sample ≡ 0 → (S.step < S.rows → row_size_of S ≤ n) → S.step < S.rows → S.width ≤ n
grey_there S n e h l = let a = h l in let b : row_size_of S ≡ S.width * 1 = ap (λ (k : ℕ). S.width * sample_bytes_of k) e in omega arith

pub rate_there : (S : State) (n : ℕ) → S.sample ≡ 1 → (S.step < S.rows → row_size_of S ≤ n) → S.step < S.rows → S.width * 4 ≤ n
rate_there S n e h l = let a = h l in let b : row_size_of S ≡ S.width * 4 = ap (λ (k : ℕ). S.width * sample_bytes_of k) e in omega arith

-- a row that is not over the bytes wanted
pub row_there : (m : Machine) (n : ℕ) → AtRows m → m.wants ≤ n → m.state.step < m.state.rows → row_size_of m.state ≤ n
row_there m n a h l = let z = wants_row m.state l in let w = a.wants in omega arith

pub is_one : (n : ℕ) → n ≤ 1 → (n ≡ 0 → ⊥) → n ≡ 1
is_one zero h k = absurd (k refl)
is_one (suc n) h k = omega arith

-- ---- the end

pub ended_goes : {m : Machine} {bytes : List ℕ} {L : MachineMemory} {f : List ℕ → List ℕ} (frame : List ℕ) {t : Turned} (n : ℕ) (S : State) → EndsWith n S frame t
    → ((rest : List ℕ) → (length bytes < m.wants → rest ≡ []) → f (bytes ++ rest) ≡ ending n) → Goes m bytes L f frame t
ended_goes {m} {bytes} {L} {f} frame {t} n S (b, e) h =
    subst (λ t. Goes m bytes L f frame t) (sym e)
    (record { next = λ b. []; means = λ b. refl; same = λ rest q. h rest q ∙ sym b ∙ sym (append-nil (take 2 frame)) })

pub ended_turns : (m : Machine) (bytes : List ℕ) (L L' : MachineMemory) (frame : List ℕ) (t : Turned) (n : ℕ) → m.phase ≡ Rows → AtRows m → 2 ≤ length frame → EndsWith n m.state frame t
    → ((f : List ℕ → List ℕ) → Means m L f → (rest : List ℕ) → (length bytes < m.wants → rest ≡ []) → f (bytes ++ rest) ≡ ending n) → Turns m bytes L L' frame t
ended_turns m bytes L L' frame t n p a l e h = record {
  used_there = rw (ap (λ t. t.used) e.1) (omega arith);
  put_there = rw (ap (λ t. t.put) e.1) l;
  fewer = λ _. let w : m.state.step ≤ m.state.rows + plan_ahead m.state.plan = rw a.fixed at a.sound.within in rw (ap (λ t. left_of t.machine) e.1, left_rows m p) (omega arith);
  goes = λ f k. ended_goes frame n m.state e (h f k);
}

-- ---- one kind of samples

module _ {A : Type 0} (C : Coding A) (codes : Codes C) (kind : ℕ) (size : sample_bytes_of kind ≡ C.size) where
  row_bytes_law : (S : State) (M : Memory A) → memory_judged kind S M ≡ 0 → row_size_of S ≡ S.width * C.size
  row_bytes_law S M e = ap (λ (k : ℕ). S.width * sample_bytes_of k) (lent_parts kind S M e).1 ∙ ap (λ (n : ℕ). S.width * n) size

  module _ (S : State) (M : Memory A) (f : List ℕ → List ℕ) (r : RowsMean C kind S M f) (wants : ℕ) (w : wants ≡ wants_of S) (bytes : List ℕ) where
    -- a row or a drain, with all its bytes at hand
    pub step_comes : (M' : Memory A) (frame : List ℕ) (answer : Answer) (S' : State) → Framed C kind S M bytes M' frame answer S' → S.step < S.rows + plan_ahead S.plan
        → wants ≤ length bytes → Comes C codes kind S M f r bytes M' frame S' wants (row_said_of answer)
    step_comes M' frame answer S' h l k =
        split (ltb S.step S.rows)
        (λ e.
        let a = ltb-true S.step S.rows e in
        let n : S.width * C.size ≡ wants = sym (w ∙ sym (wants_row S a) ∙ row_bytes_law S M r.judged) in
        subst (λ (n : ℕ). Comes C codes kind S M f r bytes M' frame S' n (row_said_of answer)) n (comes_row C codes kind S M f r bytes M' frame answer S' h a (omega arith)))
        (λ e.
        let a = ltb-false S.step S.rows e in
        subst (λ (n : ℕ). Comes C codes kind S M f r bytes M' frame S' n (row_said_of answer)) (wants_drain S a l ∙ sym w) (comes_drain C codes kind S M f r bytes M' frame answer S' h a l))

    -- a row of which bytes are missing: a drain wants none
    pub short_ends : S.step < S.rows + plan_ahead S.plan → length bytes < wants → (rest : List ℕ) → (length bytes < wants → rest ≡ []) → f (bytes ++ rest) ≡ ending 13
    short_ends l k rest q =
        split (ltb S.step S.rows)
        (λ e.
        let a = ltb-true S.step S.rows e in
        let n : wants ≡ S.width * C.size = w ∙ sym (wants_row S a) ∙ row_bytes_law S M r.judged in
        ap (λ t. f (bytes ++ t)) (q k) ∙ short_row C codes kind S M f r bytes a (omega arith))
        (λ e. let a = ltb-false S.step S.rows e in let z = wants_drain S a l in absurd (omega arith))

    -- after the last step
    pub tail_ends : S.rows + plan_ahead S.plan ≤ S.step → (rest : List ℕ) → (length bytes < wants → rest ≡ []) → f (bytes ++ rest) ≡ ending (given 14 (ltb 0 (length bytes)))
    tail_ends e rest q =
        let z = wants_tail S e in
        let b : S.step ≤ S.rows + plan_ahead S.plan = rw r.fixed at (judged_fit kind S M r.judged).run.within in
        tail_end C codes kind S M f r bytes rest (omega arith) (λ h. q (omega arith))

-- what a turn with a step has to show, of a machine that means f
record Shows (m : Machine) (bytes : List ℕ) (L' : MachineMemory) (f : List ℕ → List ℕ) (frame : List ℕ) (t : Turned) : Type 0 where
  used_there : t.used ≤ length bytes
  put_there : t.put ≤ length frame
  fewer : left_of t.machine < m.state.rows + plan_ahead m.state.plan + 2 - m.state.step
  goes : Goes m bytes L' f frame t

module _ {A : Type 0} (C : Coding A) (codes : Codes C) (kind : ℕ) (size : sample_bytes_of kind ≡ C.size) (m : Machine) (M M' : Memory A) (L' : MachineMemory) (f : List ℕ → List ℕ)
    (r : RowsMean C kind m.state M f) (bytes frame : List ℕ) (S' : State) (wide : 16385 ≤ length frame) (there : m.wants ≤ length bytes)
    (into : (g : List ℕ → List ℕ) → RowsMean C kind S' M' g → MeansAt Rows (wants_of S') S' L' g) where
  -- the machine goes on
  on_shows : (put : ℕ) (t : Turned) → On C codes kind m.state M f r bytes M' frame S' m.wants put → put ≤ 16385
      → t ≡ record { machine = at_rows_of S'; used = m.wants; put = put } → Shows m bytes L' f frame t
  on_shows put t o l e =
      subst (λ t. Shows m bytes L' f frame t) (sym e)
      (record {
        used_there = there;
        put_there = omega arith;
        fewer =
            let b : S'.step ≤ S'.rows + plan_ahead S'.plan = rw o.reads.fixed at (judged_fit kind S' M' o.reads.judged).run.within in
            let x = ap (λ S. S.rows + plan_ahead S.plan) o.moved in
            let y = ap (λ S. S.step) o.moved in
            omega arith;
        goes = record { next = o.next; means = into o.next o.reads; same = λ rest q. o.same rest };
      })

  comes_shows : (frame' : List ℕ) (t : Turned) (said : RowSaid) → length frame' ≡ length frame → Comes C codes kind m.state M f r bytes M' frame S' m.wants said
      → ComesOf said m.state S' m.wants frame frame' t → Shows m bytes L' f frame' t
  comes_shows frame' t (row n c) k o e =
      let s = (judged_fit kind S' M' o.reads.judged).run in
      let z : row_size_of S' ≡ S'.width * C.size = row_bytes_law C codes kind size S' M' o.reads.judged in
      let x : m.state.width * C.size ≡ row_size_of S' = sym (z ∙ ap (λ S. S.width * C.size) o.moved) in
      let y = size_few S' s.narrow in
      subst (λ l. Shows m bytes L' f l t) (sym e.0)
      (on_shows (1 + row_size_of S') t (subst (λ (p : ℕ). On C codes kind m.state M f r bytes M' frame S' m.wants (1 + p)) x o) (omega arith) e.1)
  comes_shows frame' t (is_not_yet c) k o e = subst (λ l. Shows m bytes L' f l t) (sym e.0) (on_shows 0 t o (omega arith) e.1)
  comes_shows frame' t (refused n c) k o e =
      let w : m.state.step ≤ m.state.rows + plan_ahead m.state.plan = rw r.fixed at (judged_fit kind m.state M r.judged).run.within in
      record {
        used_there = rw (ap (λ t. t.used) e.1) (omega arith);
        put_there = rw (ap (λ t. t.put) e.1) (omega arith);
        fewer = rw (ap (λ t. left_of t.machine) e.1) (omega arith);
        goes = ended_goes frame' n m.state e (λ rest q. o rest);
      }

-- ---- the kind of samples that the state has

-- a step leaves the plan and the width
same_size : {S S' : State} → S' ≡ S → (S'.plan ≡ S.plan) × (S'.width ≡ S.width)
same_size e = (ap (λ S. S.plan) e, ap (λ S. S.width) e)

moved_size : (S : State) {S' : State} → S' ≡ next_state S → (S'.plan ≡ S.plan) × (S'.width ≡ S.width)
moved_size S e = (ap (λ S. S.plan) e, ap (λ S. S.width) e)

framed_size : {A : Type 0} (C : Coding A) (kind : ℕ) (S : State) (M : Memory A) (bytes : List ℕ) (M' : Memory A) (frame : List ℕ) (answer : Answer) (S' : State)
    → Framed C kind S M bytes M' frame answer S' → (S'.plan ≡ S.plan) × (S'.width ≡ S.width)
framed_size C kind S M bytes M' frame answer S' h =
    split (ltb S.step S.rows)
    (λ e.
    let o = h.offered (ltb-true S.step S.rows e) in
    let n = row_number C.samples kind S M (C.read S.width bytes) h.out in
    split (eqb n 0) (λ z. moved_size S (o.accepted (eqb-true n 0 z)).state) (λ z. same_size (o.refusal (eqb-false n 0 z)).state))
    (λ e.
    let o = h.drained (ltb-false S.step S.rows e) in
    let n = drain_judged kind S M h.out in
    split (eqb n 0) (λ z. moved_size S (o.accepted (eqb-true n 0 z)).state) (λ z. same_size (o.refusal (eqb-false n 0 z)).state))

pub both_size : (S : State) (L : MachineMemory) (bytes : List ℕ) (L' : MachineMemory) (frame : List ℕ) (answer : Answer) (S' : State) → FramedBoth S L bytes L' frame answer S' → StateSound S
    → (S'.plan.count ≤ 16) × (S'.width ≤ 4096)
both_size S L bytes L' frame answer S' b s =
    let (p, w) = ⊎_elim (λ g. framed_size grey_rows 0 S (grey_memory L) bytes (grey_memory L') frame answer S' g.1)
    (λ g. framed_size rate_rows 1 S (rate_memory L) bytes (rate_memory L') frame answer S' g.1) b in
    (rw p s.plan.few, rw w s.narrow)

module _ (m : Machine) (bytes : List ℕ) (L L' : MachineMemory) (frame frame' : List ℕ) (answer : Answer) (S' : State) (t : Turned) (p : m.phase ≡ Rows) where
  both_show : (f : List ℕ → List ℕ) → Means m L f → 16385 ≤ length frame → length frame' ≡ length frame → m.wants ≤ length bytes
      → m.state.step < m.state.rows + plan_ahead m.state.plan → FramedBoth m.state L bytes L' frame answer S'
      → ComesOf (row_said_of answer) m.state S' m.wants frame frame' t → Shows m bytes L' f frame' t
  both_show f h wide same there within b e =
      let (w, k) = rows_means m L f p h in
      ⊎_elim
      (λ g.
      ⊎_elim
      (λ c.
      comes_shows grey_rows grey_codes 0 refl m (grey_memory L) (grey_memory L') L' f g.1 bytes frame S' wide there
      (λ n x. (refl, inl ((lent_parts 0 S' (grey_memory L') x.judged).1, x))) frame' t (row_said_of answer) same
      (step_comes grey_rows grey_codes 0 refl m.state (grey_memory L) f g.1 m.wants w bytes (grey_memory L') frame answer S' c.1 within there) e)
      (λ c. let x = g.0 in let y = c.0 in absurd (omega arith))
      b)
      (λ g.
      ⊎_elim
      (λ c. let x = g.0 in let y = c.0 in absurd (omega arith))
      (λ c.
      comes_shows rate_rows rate_codes 1 refl m (rate_memory L) (rate_memory L') L' f g.1 bytes frame S' wide there
      (λ n x. (refl, inr ((lent_parts 1 S' (rate_memory L') x.judged).1, x))) frame' t (row_said_of answer) same
      (step_comes rate_rows rate_codes 1 refl m.state (rate_memory L) f g.1 m.wants w bytes (rate_memory L') frame answer S' c.1 within there) e)
      b)
      k

  pub step_turns : Stands m L → 16385 ≤ length frame → length frame' ≡ length frame → m.wants ≤ length bytes → m.state.step < m.state.rows + plan_ahead m.state.plan
      → FramedBoth m.state L bytes L' frame answer S' → ComesOf (row_said_of answer) m.state S' m.wants frame frame' t → Turns m bytes L L' frame' t
  step_turns s wide same there within b e =
      let h = both_show s.f s.means wide same there within b e in
      record {
        used_there = h.used_there;
        put_there = h.put_there;
        fewer = λ _. rw (left_rows m p) h.fewer;
        goes = λ f k. (both_show f k wide same there within b e).goes;
      }

-- ---- the two ends

module _ (m : Machine) (bytes : List ℕ) (L L' : MachineMemory) (frame : List ℕ) (t : Turned) (p : m.phase ≡ Rows) (s : Stands m L) (wide : 16385 ≤ length frame) where
  -- a row of which bytes are missing
  pub short_turns : m.state.step < m.state.rows + plan_ahead m.state.plan → length bytes < m.wants → EndsWith 13 m.state frame t → Turns m bytes L L' frame t
  short_turns within l e =
      ended_turns m bytes L L' frame t 13 p (stands_rows m L p s) (omega arith) e (λ f h rest q.
      let (w, k) = rows_means m L f p h in
      ⊎_elim (λ g. short_ends grey_rows grey_codes 0 refl m.state (grey_memory L) f g.1 m.wants w bytes within l rest q)
      (λ g. short_ends rate_rows rate_codes 1 refl m.state (rate_memory L) f g.1 m.wants w bytes within l rest q) k)

  -- what comes after the last step
  pub tail_turns : (n : ℕ) → n ≡ given 14 (ltb 0 (length bytes)) → m.state.rows + plan_ahead m.state.plan ≤ m.state.step → EndsWith n m.state frame t → Turns m bytes L L' frame t
  tail_turns n z after e =
      ended_turns m bytes L L' frame t n p (stands_rows m L p s) (omega arith) e (λ f h rest q.
      let (w, k) = rows_means m L f p h in
      ⊎_elim (λ g. tail_ends grey_rows grey_codes 0 refl m.state (grey_memory L) f g.1 m.wants w bytes after rest q)
      (λ g. tail_ends rate_rows rate_codes 1 refl m.state (rate_memory L) f g.1 m.wants w bytes after rest q) k
      ∙ ap ending (sym z))
