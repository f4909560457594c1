-- A step keeps what the machine means. By which idea: the step's promise is told over every picture that begins with the rows read, and one such picture is those rows with
-- the last repeated.
use mathlib.Core.Path.{◌≡◌, refl, sym, ap, ◌∙◌, subst}
use mathlib.Core.Bool.{true, cond}
use mathlib.Core.List.{List, [], ◌∷◌, ◌++◌}
use Prim.Native.Nat.{ℕ, ◌+◌, ◌-◌, ◌≤◌, ◌<◌, min}
use native.Mathlib.Omega.{arith}
use borrow.Author.Tests.{leb-true, ltb-true, ltb-false}
use lib.Dec.{ltb, leb}
use lib.ListN.{length, get_or, take}
use lib.Seq.{take_all}
use Rattle.morph.specs.Plan.{plan_cost}
use Rattle.morph.specs.Picture.{Picture, Stage as Filter, apply_plan}
use Rattle.morph.proofs.Lists.{split}
use Rattle.morph.proofs.Picture.{plan_row}
use Rattle.sample.specs.Samples.{Samples}
use Rattle.plan_record.specs.Plan.{used, stages_of, plan_ahead}
use Rattle.morph.proofs.Numbers.{first_zero}
use Rattle.plan_record.proofs.Named.{look_ahead_plan}
use Rattle.memory.specs.Memory.{Memory, Whole, Holds}
use Rattle.picture_state.specs.declared.State.{State}
use Rattle.picture_state.specs.declared.Answer.{Answer}
use Rattle.picture_state.specs.Numbers.{state_number, state_kind_number, memory_number, records_number, memory_judged, shared_number}
use Rattle.picture_state.specs.Step.{next_state, Advanced}
use Rattle.picture_state.proofs.Numbers.{shared_accepted, shared_records}
use Rattle.picture_state.proofs.Step.{judged_fit, state_next}
use Rattle.answer.specs.Answer.{Coding}
use Rattle.answer.specs.Inner.{rest_answer}
use Rattle.answer.proofs.Rest.{Carries, rest_step}
use Rattle.turns.specs.Inner.{RowsMean}

-- ---- the memory after a step

pub lent_parts : {A : Type 0} (kind : ℕ) (S : State) (M : Memory A) → memory_judged kind S M ≡ 0
    → (state_number S ≡ 0) × (S.sample ≡ kind) × (memory_number S.plan S.width (min (length M.values) (length M.positions)) (min (length M.starts) (length M.lengths)) ≡ 0)
unfolding shared_number
lent_parts kind S M e =
    let cells = min (length M.values) (length M.positions) in
    let records = min (length M.starts) (length M.lengths) in
    let m = memory_number S.plan S.width cells records in
    let n = records_number S M.starts M.lengths in
    let (a, b) = first_zero (state_number S) (state_kind_number kind S ∷ m ∷ n ∷ []) e in
    let (_, c) = first_zero (state_kind_number kind S) (m ∷ n ∷ []) b in
    (a, (shared_accepted kind S cells records M.starts M.lengths e).sample, (first_zero m (n ∷ []) c).0)

-- ---- the rows after a step

module _ {A : Type 0} (C : Coding A) (kind : ℕ) (S : State) (M : Memory A) (f : List ℕ → List ℕ) (r : RowsMean C kind S M f) where
  abbrev K : Samples A
  K = C.samples

  abbrev t : ℕ
  t = S.step

  abbrev H : ℕ
  H = S.rows

  abbrev W : ℕ
  W = S.width

  abbrev D : ℕ
  D = plan_ahead S.plan

  abbrev Ss : List (Filter A)
  Ss = stages_of K.order S.plan

  -- the rows after the step: they go on from the rows before, some whole picture begins with them, and each such picture has the pixels given in row t
  pub record After (pixels : List A) (after : Picture A) : Type 0 where
    pub whole : Whole K W (min (t + 1) H) after
    pub some : Picture A
    pub some_whole : Whole K W H some
    pub some_begins : take (length after) some ≡ after
    pub back : (p : Picture A) → take (length after) p ≡ after → take (length r.before) p ≡ r.before
    pub row : (p : Picture A) → take (length after) p ≡ after → t < H → pixels ≡ get_or p t []

  module _ (pixels out : List A) (M' : Memory A) (out' : List A) (answer : Answer) (S' : State) (h : Advanced K S M pixels out M' out' answer S') (within : t < H + D)
      (after : Picture A) (a : After pixels after) where
    -- the memory is still as much as needed
    lent_next : memory_judged kind (next_state S) M' ≡ 0
    lent_next =
        let (_, s, m) = lent_parts kind S M r.judged in
        let few = (judged_fit kind S M r.judged).run.closed (rw r.fixed) in
        let v : min (length M'.values) (length M'.positions) ≡ min (length M.values) (length M.positions) = cc (h.values_long, h.positions_long) in
        let n : min (length M'.starts) (length M'.lengths) ≡ min (length M.starts) (length M.lengths) = cc (h.starts_long, h.lengths_long) in
        sym (shared_records kind (next_state S) (min (length M'.values) (length M'.positions)) (min (length M'.starts) (length M'.lengths)) M'.starts M'.lengths
        (state_next S (lent_parts kind S M r.judged).0 (rw r.fixed within) (rw r.fixed few)) s true (rw (v, n) m) (sym h.sound))

    -- what the step tells of a picture with the rows before it, and row t where there is one
    told : (p : Picture A) → Whole K W H p → take (length r.before) p ≡ r.before → (t < H → pixels ≡ get_or p t [])
        → Holds K (used S.plan) W p (t + 1) M' × (h.comparisons ≡ plan_cost Ss W p t) × (D ≤ t → out' ≡ get_or (apply_plan Ss p) (t - D) [])
    told p w b g = h.told p (rw r.fixed w) (r.held p w b) (rw r.fixed g)

    -- every picture that begins with the rows after the step
    held_next : (p : Picture A) → Whole K W H p → take (length after) p ≡ after → Holds K (used S.plan) W p (t + 1) M'
    held_next p w e = (told p w (a.back p e) (a.row p e)).0

    -- the row that came out
    came_next : D ≤ t → out' ≡ get_or (apply_plan Ss after) (t - D) []
    came_next d =
        let q = a.some in
        let o = (told q a.some_whole (a.back q a.some_begins) (a.row q a.some_begins)).2 d in
        let l = look_ahead_plan K.order S.plan in
        let n = a.whole.high in
        split (ltb t H)
        (λ e.
        let b = ltb-true t H e in
        o ∙ plan_row Ss (t - D) (length after) q (omega arith) ∙ ap (λ p. get_or (apply_plan Ss p) (t - D) []) a.some_begins)
        (λ e.
        let b = ltb-false t H e in
        let m = a.some_whole.high in
        o ∙ ap (λ p. get_or (apply_plan Ss p) (t - D) []) (sym (take_all (length after) q (omega arith)) ∙ a.some_begins))

    -- what the machine means after the step
    abbrev pub next : List ℕ → List ℕ
    next bytes = rest_answer C S.plan W H (t + 1) after bytes

    pub reads_next : RowsMean C kind S' M' next
    reads_next =
        subst (λ T. RowsMean C kind T M' next) (sym h.state)
        (record { judged = lent_next; fixed = r.fixed; before = after; whole = a.whole; held = held_next; tells = λ bytes. refl })

    -- and what was to be written is the row that came out, where one did, and then that
    pub same_next : (bytes bytes' : List ℕ) → Carries C S.plan W H t r.before bytes after bytes'
        → f bytes ≡ cond (leb D t) (1 ∷ C.write out') [] ++ next bytes'
    same_next bytes bytes' c =
        r.tells bytes ∙ rest_step C S.plan W H t r.before bytes after bytes' c within a.whole.high
        ∙ ap (λ l. l ++ next bytes')
        (split (leb D t)
        (λ e. ap (λ b. cond b (1 ∷ C.write (get_or (apply_plan Ss after) (t - D) [])) []) e ∙ ap (λ o. 1 ∷ C.write o) (sym (came_next (leb-true D t e))) ∙ ap (λ b. cond b (1 ∷ C.write out') []) (sym e))
        (λ e. rw e))
