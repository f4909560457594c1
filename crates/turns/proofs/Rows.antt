-- A step on a row's bytes, of either kind of samples, by what its answer has the machine do: write the row, go on without, or end with the number.
-- By which idea: nothing but 8 can be wrong with a row that is all there, and nothing with a drain.
use mathlib.Core.Path.{◌≡◌, sym, ap, ◌∙◌, subst}
use mathlib.Core.Bool.{Bool, true, false, cond, not}
use mathlib.Core.List.{List, [], ◌∷◌, ◌++◌, map, append-nil}
use Prim.Native.Nat.{ℕ, zero, suc, ◌+◌, ◌-◌, ◌*◌, ◌≤◌, ◌<◌, min}
use native.Mathlib.Omega.{arith}
use borrow.Author.Tests.{lt-ltb, le-ltb}
use lib.Dec.{ltb, leb}
use lib.ListN.{length, get_or, take, drop, replicate, length-append, length-replicate, length-map}
use lib.Seq.{take-append_seam, take-take, get_or-take, drop-append-le, take_all, get_or-append_seam}
use Rattle.morph.specs.Lists.{all, Each}
use Rattle.morph.specs.Picture.{Picture}
use Rattle.morph.proofs.Lists.{split, both, each_append}
use Rattle.sample.specs.Samples.{Samples}
use Rattle.morph.specs.Numbers.{given, first_of}
use Rattle.plan_record.specs.Plan.{plan_ahead}
use Rattle.morph.proofs.Numbers.{first_skip, first_found, first_one}
use Rattle.memory.specs.Memory.{Memory, Whole}
use Rattle.picture_state.specs.declared.State.{State}
use Rattle.picture_state.specs.declared.Answer.{Answer}
use Rattle.picture_state.specs.Numbers.{offer_number, row_number}
use Rattle.picture_state.specs.Step.{RowSaid, row, is_not_yet, refused, row_said_of, next_state, Advanced, column_of}
use Rattle.picture_state.proofs.Numbers.{fixed_reads, closed_drains, offer_all, drain_all}
use Rattle.job_read.specs.Job.{missing}
use Rattle.answer.specs.Answer.{Coding, row_group_number, ending}
use Rattle.answer.proofs.Codes.{Codes}
use Rattle.answer.proofs.Rest.{Carries, carries_row, carries_drain, rest_refused, rest_tail}
use Rattle.turns.specs.Inner.{RowsMean, Framed}
use Rattle.turns.proofs.Step.{After, reads_next, same_next}
use Rattle.turns.proofs.Step as step

-- ---- lists

module _ {A : Type 0} where
  all_good : (good : A → Bool) (l : List A) → all good l ≡ true → Each (λ a. good a ≡ true) l
  all_good good [] h = tt
  all_good good (a ∷ l) h = ((both (good a) (all good l) h).0, all_good good l (both (good a) (all good l) h).1)

  repeated : (P : A → Type 0) (n : ℕ) (a : A) → P a → Each P (replicate n a)
  repeated P zero a h = tt
  repeated P (suc n) a h = (h, repeated P n a h)

taken_good : {A : Type 0} (K : Samples A) (l : List A) → Each (λ a. K.good a ≡ true) l → Each (λ a. K.good a ≡ true) (map K.taken l)
taken_good K [] h = tt
taken_good K (a ∷ l) h = (K.keeps a h.0, taken_good K l h.1)

first_found_as : (a : ℕ) (l : List ℕ) (n : ℕ) → a ≡ n → (n ≡ 0 → ⊥) → first_of (a ∷ l) ≡ n
first_found_as a l n e h = first_found a l (λ z. h (sym e ∙ z)) ∙ e

some_come : (bytes rest : List ℕ) → (length bytes < 1 → rest ≡ []) → ltb 0 (length (bytes ++ rest)) ≡ ltb 0 (length bytes)
some_come [] rest h = ap (λ l. ltb 0 (length l)) (h (omega arith))
some_come (a ∷ bytes) rest h = lt-ltb 0 (length (a ∷ (bytes ++ rest))) (omega arith) ∙ sym (lt-ltb 0 (length (a ∷ bytes)) (omega arith))

module _ {A : Type 0} (C : Coding A) (codes : Codes C) (kind : ℕ) (S : State) (M : Memory A) (f : List ℕ → List ℕ) (r : RowsMean C kind S M f) where
  abbrev K : Samples A
  K = C.samples

  abbrev t : ℕ
  t = S.step

  abbrev H : ℕ
  H = S.rows

  abbrev W : ℕ
  W = S.width

  abbrev D : ℕ
  D = plan_ahead S.plan

  abbrev before : Picture A
  before = r.before

  -- ---- the rows after the step

  module _ (pixels : List A) (here : t < H) (long : length pixels ≡ W) (good : all K.good pixels ≡ true) where
    abbrev taken : List A
    taken = map K.taken pixels

    abbrev after : Picture A
    after = before ++ (taken ∷ [])

    many : length after ≡ t + 1
    many = let e = r.whole.high in rw length-append (omega arith)

    taken_wide : length taken ≡ W
    taken_wide = length-map pixels K.taken ∙ long

    fine : Each (λ a. K.good a ≡ true) taken
    fine = taken_good K pixels (all_good K.good pixels good)

    abbrev more : Picture A
    more = replicate (H - (t + 1)) taken

    begins_before : (p : Picture A) → take (length after) p ≡ after → take (length before) p ≡ before
    begins_before p e =
        let n = many in
        let m = r.whole.high in
        sym (take-take (length before) (length after) p (omega arith)) ∙ ap (take (length before)) e ∙ take-append_seam before (taken ∷ [])

    row_here : (p : Picture A) → take (length after) p ≡ after → t < H → taken ≡ get_or p t []
    row_here p e l =
        let n = many in
        let m : length before ≡ t = r.whole.high ∙ omega arith in
        sym (get_or-append_seam before taken [] []) ∙ ap (λ q. get_or q (length before) []) (sym e) ∙ get_or-take (length after) p (length before) [] (omega arith)
        ∙ ap (λ (k : ℕ). get_or p k []) m

    pub after_row : After C kind S M f r taken after
    after_row = record {
      whole = record {
        wide = each_append _ before (taken ∷ []) r.whole.wide (taken_wide, tt);
        high = many ∙ omega arith;
        good = each_append _ before (taken ∷ []) r.whole.good (fine, tt);
      };
      some = after ++ more;
      some_whole = record {
        wide = each_append _ after more (each_append _ before (taken ∷ []) r.whole.wide (taken_wide, tt)) (repeated _ (H - (t + 1)) taken taken_wide);
        high = let n = many in let m = length-replicate (H - (t + 1)) taken in rw length-append (omega arith);
        good = each_append _ after more (each_append _ before (taken ∷ []) r.whole.good (fine, tt)) (repeated _ (H - (t + 1)) taken fine);
      };
      some_begins = take-append_seam after more;
      back = begins_before;
      row = row_here;
    }

  pub after_drain : (pixels : List A) → H ≤ t → After C kind S M f r pixels before
  after_drain pixels l =
      let e : min t H ≡ min (t + 1) H = omega arith in
      let h : min t H ≡ H = omega arith in
      record {
        whole = subst (λ n. Whole K W n before) e r.whole;
        some = before;
        some_whole = subst (λ n. Whole K W n before) h r.whole;
        some_begins = take_all (length before) before (omega arith);
        back = λ p q. q;
        row = λ p q k. absurd (omega arith);
      }

  -- ---- what the answer has the machine do

  -- the machine goes on: so many bytes of the frame are written, and so many of the bytes at hand are used
  pub record On (bytes : List ℕ) (M' : Memory A) (frame : List ℕ) (S' : State) (taken put : ℕ) : Type 0 where
    pub next : List ℕ → List ℕ
    pub reads : RowsMean C kind S' M' next
    pub moved : S' ≡ next_state S
    pub same : (rest : List ℕ) → f (bytes ++ rest) ≡ take put frame ++ next (drop taken bytes ++ rest)

  abbrev pub Comes : List ℕ → Memory A → List ℕ → State → ℕ → RowSaid → Type 0
  Comes bytes M' frame S' taken (row n c) = On bytes M' frame S' taken (1 + W * C.size)
  Comes bytes M' frame S' taken (is_not_yet c) = On bytes M' frame S' taken 0
  Comes bytes M' frame S' taken (refused n c) = (rest : List ℕ) → f (bytes ++ rest) ≡ ending n

  -- the number of a row's group, of the bytes at hand and any after them
  module _ (bytes : List ℕ) (there : W * C.size ≤ length bytes) where
    group_number : (rest : List ℕ) → row_group_number C W (bytes ++ rest) ≡ given 8 (not (all K.good (C.read W bytes)))
    group_number rest =
        let e = length-append bytes rest in
        let z : missing (W * C.size) (bytes ++ rest) ≡ 0 = simp (le-ltb (length (bytes ++ rest)) (W * C.size) (omega arith)) in
        first_skip (missing (W * C.size) (bytes ++ rest)) (given 8 (not (all K.good (C.read W (bytes ++ rest)))) ∷ []) z
        ∙ first_one (given 8 (not (all K.good (C.read W (bytes ++ rest))))) ∙ ap (λ l. given 8 (not (all K.good l))) (codes.near W bytes rest there)

    carried : (rest : List ℕ) → t < H → all K.good (C.read W bytes) ≡ true
        → Carries C S.plan W H t before (bytes ++ rest) (before ++ (map K.taken (C.read W bytes) ∷ [])) (drop (W * C.size) bytes ++ rest)
    carried rest here e =
        let c = carries_row C S.plan W H t before (bytes ++ rest) here (group_number rest ∙ rw e) in
        subst (λ b. Carries C S.plan W H t before (bytes ++ rest) (before ++ (map K.taken (C.read W bytes) ∷ [])) b) (drop-append-le (W * C.size) bytes rest there)
        (subst (λ l. Carries C S.plan W H t before (bytes ++ rest) (before ++ (map K.taken l ∷ [])) (drop (W * C.size) (bytes ++ rest))) (codes.near W bytes rest there) c)

  -- nothing but 8 is wrong with a row that is all there
  row_judged : (pixels out : List A) → 0 ≡ offer_number kind S (length pixels) (length out) (length M.values) (length M.positions) M.starts M.lengths
      → row_number K kind S M pixels out ≡ given 8 (not (all K.good pixels))
  unfolding row_number
  row_judged pixels out e =
      first_skip (offer_number kind S (length pixels) (length out) (length M.values) (length M.positions) M.starts M.lengths) (given 8 (not (all K.good pixels)) ∷ []) (sym e)
      ∙ first_one (given 8 (not (all K.good pixels)))

  module _ (bytes : List ℕ) (M' : Memory A) (frame : List ℕ) (answer : Answer) (S' : State) (h : Framed C kind S M bytes M' frame answer S') where
    -- an accepted step
    module _ (pixels : List A) (a : Advanced K S M pixels h.out M' h.out' answer S') (within : t < H + D) (after : Picture A) (b : After C kind S M f r pixels after) (taken : ℕ)
        (same : (rest : List ℕ) → f (bytes ++ rest) ≡ cond (leb D t) (1 ∷ C.write h.out') [] ++ step.next C kind S M f r pixels h.out M' h.out' answer S' a within after b (drop taken bytes ++ rest)) where
      reads : RowsMean C kind S' M' (step.next C kind S M f r pixels h.out M' h.out' answer S' a within after b)
      reads = reads_next C kind S M f r pixels h.out M' h.out' answer S' a within after b

      on_due : leb D t ≡ true → On bytes M' frame S' taken (1 + W * C.size)
      on_due e = record {
        next = step.next C kind S M f r pixels h.out M' h.out' answer S' a within after b;
        reads = reads;
        moved = a.state;
        same = λ rest. same rest ∙ ap (λ c. cond c (1 ∷ C.write h.out') [] ++ step.next C kind S M f r pixels h.out M' h.out' answer S' a within after b (drop taken bytes ++ rest)) e
            ∙ ap (λ l. l ++ step.next C kind S M f r pixels h.out M' h.out' answer S' a within after b (drop taken bytes ++ rest)) (sym (h.stands (t - D) a.comparisons (a.said ∙ rw e)));
      }

      on_early : leb D t ≡ false → On bytes M' frame S' taken 0
      on_early e = record {
        next = step.next C kind S M f r pixels h.out M' h.out' answer S' a within after b;
        reads = reads;
        moved = a.state;
        same = λ rest. same rest ∙ ap (λ c. cond c (1 ∷ C.write h.out') [] ++ step.next C kind S M f r pixels h.out M' h.out' answer S' a within after b (drop taken bytes ++ rest)) e;
      }

      said_due : leb D t ≡ true → row_said_of answer ≡ row (t - D) a.comparisons
      said_due e = a.said ∙ rw e

      said_early : leb D t ≡ false → row_said_of answer ≡ is_not_yet a.comparisons
      said_early e = a.said ∙ rw e

      comes_on : Comes bytes M' frame S' taken (row_said_of answer)
      comes_on =
          split (leb D t)
          (λ e. subst (Comes bytes M' frame S' taken) (sym (said_due e)) (on_due e))
          (λ e. subst (Comes bytes M' frame S' taken) (sym (said_early e)) (on_early e))

    -- a step with a row that is all there
    pub comes_row : t < H → W * C.size ≤ length bytes → Comes bytes M' frame S' (W * C.size) (row_said_of answer)
    comes_row here there =
        let pixels = C.read W bytes in
        let long = codes.long W bytes there in
        let (unread, few) = fixed_reads S.ending H t r.fixed here in
        let offer = offer_all kind S (length M.values) (length M.positions) M.starts M.lengths (length pixels) (length h.out) r.judged unread few long h.long in
        let number = row_judged pixels h.out offer in
        split (all K.good pixels)
        (λ e.
        let z : row_number K kind S M pixels h.out ≡ 0 = number ∙ rw e in
        let b = after_row pixels here long e in
        let a = (h.offered here).accepted z in
        let w : t < H + D = omega arith in
        comes_on (map K.taken pixels) a w (before ++ (map K.taken pixels ∷ [])) b (W * C.size) (λ rest.
        same_next C kind S M f r (map K.taken pixels) h.out M' h.out' answer S' a w (before ++ (map K.taken pixels ∷ [])) b (bytes ++ rest) (drop (W * C.size) bytes ++ rest)
        (carried bytes there rest here e)))
        (λ e.
        let z : row_number K kind S M pixels h.out ≡ 8 = number ∙ rw e in
        let u = (h.offered here).refusal (λ y. omega arith) in
        subst (Comes bytes M' frame S' (W * C.size)) (sym (u.said ∙ ap (λ (n : ℕ). refused n (column_of K kind S M pixels h.out)) z)) (λ rest.
        r.tells (bytes ++ rest) ∙ rest_refused C S.plan W H t before (bytes ++ rest) 8 (r.whole.high ∙ omega arith) here (group_number bytes there rest ∙ rw e) (λ y. omega arith)))

    -- a step without a row
    pub comes_drain : H ≤ t → t < H + D → Comes bytes M' frame S' 0 (row_said_of answer)
    comes_drain l w =
        let z = drain_all kind S (length M.values) (length M.positions) M.starts M.lengths (length h.out) r.judged (closed_drains S.ending H D t (rw r.fixed) l w) h.long in
        let a = (h.drained l).accepted (sym z) in
        let b = after_drain [] l in
        comes_on [] a w before b 0 (λ rest.
        same_next C kind S M f r [] h.out M' h.out' answer S' a w before b (bytes ++ rest) (bytes ++ rest) (carries_drain C S.plan W H t before (bytes ++ rest) l))

  -- ---- no step: a row of which bytes are missing, and what comes after the last step

  pub short_row : (bytes : List ℕ) → t < H → length bytes < W * C.size → f (bytes ++ []) ≡ ending 13
  short_row bytes here l =
      let e : missing (W * C.size) (bytes ++ []) ≡ 13 = simp (append-nil bytes, lt-ltb (length bytes) (W * C.size) l) in
      r.tells (bytes ++ []) ∙ rest_refused C S.plan W H t before (bytes ++ []) 13 (r.whole.high ∙ omega arith) here (first_found_as (missing (W * C.size) (bytes ++ [])) (given 8 (not (all K.good (C.read W (bytes ++ [])))) ∷ []) 13 e (λ y. omega arith)) (λ y. omega arith)

  pub tail_end : (bytes rest : List ℕ) → t ≡ H + D → (length bytes < 1 → rest ≡ []) → f (bytes ++ rest) ≡ ending (given 14 (ltb 0 (length bytes)))
  tail_end bytes rest e h =
      r.tells (bytes ++ rest) ∙ rest_tail C S.plan W H t before (bytes ++ rest) e (r.whole.high ∙ omega arith)
      ∙ ap (λ b. ending (given 14 b)) (some_come bytes rest h)
