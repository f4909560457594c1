-- Whole runs that ask for origins, from the promises alone: what they tell, and that their calls are accepted.
use mathlib.Core.Path.{◌≡◌, sym, ap, ◌∙◌, subst}
use mathlib.Core.Bool.{true, false, false≢true}
use mathlib.Core.List.{List}
use mathlib.Core.Logic.{◌⊎◌, inl, inr, ⊎_elim}
use mathlib.Core.Option.{Option, none, some, some-injective, none-ne-some}
use Prim.Native.Nat.{ℕ, ◌+◌, ◌-◌, ◌<◌}
use native.Mathlib.Omega.{arith}
use borrow.Author.Tests.{ltb-true, ltb-false, le-leb}
use lib.Dec.{ltb}
use lib.ListN.{length, get_or, take, get_or-eq_default}
use lib.Seq.{take-length}
use Rattle.morph.specs.Lists.{tabulate, all}
use Rattle.morph.specs.Line.{output_at}
use Rattle.morph.specs.Picture.{Picture, Wide}
use Rattle.morph.specs.Origin.{origin_row_of, origin_column, LastPixel}
use Rattle.morph.proofs.Lists.{split, length_tabulate, get_d_tabulate}
use Rattle.morph.proofs.Origin.{origin_last, last_only}
use Rattle.sample.specs.Samples.{Samples}
use Rattle.plan_record.specs.Plan.{plan_ahead}
use Rattle.memory.specs.Memory.{Whole}
use Rattle.picture_state.specs.declared.State.{State}
use Rattle.picture_state.specs.declared.Ending.TheVariants.{Fixed, Open}
use Rattle.picture_state.specs.Numbers.{is_all_read, is_past_last, has_no_drain, is_not_open}
use Rattle.picture_state.specs.Step.{RowSaid}
use Rattle.picture_state.proofs.Numbers.{offer_all, drain_all}
use Rattle.picture_origin.specs.Numbers.{OriginMemory, OriginRows, origin_row_number, origin_drain_number}
use Rattle.picture_origin.specs.Step.{only_filter}
use Rattle.picture_origin.proofs.Numbers.{origin_row_asked, origin_drain_asked}
use Rattle.picture.specs.OpenRuns.{rows_read}
use Rattle.picture.proofs.Runs.{row_zero, run_told}
use Rattle.picture.proofs.OpenRuns.{open_told}
use Rattle.origin_runs.specs.OriginRuns.{pixels_came, origins_of, origins_at, OriginsTold, OriginRun, OriginRan, OriginOpenRan}
use Rattle.origin_runs.proofs.Asked.{One, one_stage}
use Rattle.origin_runs.proofs.Going.{over, Now, going}

-- what came at step k + D is output k
output_some : {B : Type 0} (n : ℕ) (f : ℕ → B) (D N k : ℕ) (b : B) → get_or (tabulate N (output_at n f D)) (k + D) none ≡ some b → (k < n) × (f k ≡ b)
unfolding output_at
output_some n f D N k b e =
    split (ltb (k + D) N)
    (λ a.
    let d : k + D - D ≡ k = omega arith in
    let g = sym (get_d_tabulate N (output_at n f D) (k + D) none (ltb-true (k + D) N a)) ∙ e in
    split (ltb k n)
    (λ c. let h : some (f k) ≡ some b = rw (le-leb D (k + D) (omega arith), d, c) at g in (ltb-true k n c, some-injective (f k) b h))
    (λ c. let h : none ≡ some b = rw (le-leb D (k + D) (omega arith), d, c) at g in absurd (none-ne-some b h)))
    (λ a.
    let l = ltb-false (k + D) N a in
    absurd (none-ne-some b (sym (get_or-eq_default (tabulate N (output_at n f D)) none {n = k + D} (omega (arith, length_tabulate N (output_at n f D)))) ∙ e)))

-- ---- each origin that is told is the last pixel under the rectangle that has the value, and no other pixel is

module _ {A : Type 0} (K : Samples A) (p : Picture A) (S : State) (came : List (Option (OriginRows A))) (wide : Wide S.width p) (comes : came ≡ tabulate S.step (origins_at K S p)) where
  pub origins_last : (k x : ℕ) (out : OriginRows A) → get_or came (k + plan_ahead S.plan) none ≡ some out → x < S.width
      → LastPixel (only_filter K S) p k x (get_or out.rows x 0) (get_or out.columns x 0)
      × ((r c : ℕ) → LastPixel (only_filter K S) p k x r c → (get_or out.rows x 0 ≡ r) × (get_or out.columns x 0 ≡ c))
  origins_last k x out e l =
      let F = only_filter K S in
      let D = plan_ahead S.plan in
      let (a, b) = output_some (length p) (origins_of K S p) D S.step k out (ap (λ c. get_or c (k + D) none) (sym comes) ∙ e) in
      let u : origin_row_of F p k x ≡ get_or out.rows x 0 = sym (get_d_tabulate S.width (origin_row_of F p k) x 0 l) ∙ ap (λ (o : OriginRows A). get_or o.rows x 0) b in
      let v : origin_column F p k x ≡ get_or out.columns x 0 = sym (get_d_tabulate S.width (origin_column F p k) x 0 l) ∙ ap (λ (o : OriginRows A). get_or o.columns x 0) b in
      let t = subst (λ r. LastPixel F p k x r (get_or out.columns x 0)) u (subst (LastPixel F p k x (origin_row_of F p k x)) v (origin_last F S.width p wide k x a l)) in
      (t, λ r c h. last_only F S.width p wide k x a l (get_or out.rows x 0) (get_or out.columns x 0) r c t h)

module _ {A : Type 0} (K : Samples A) (kind : ℕ) (first : State) where
  now_told : (p : Picture A) (S : State) (M : OriginMemory A) (came : List (Option (OriginRows A))) → One S.plan → Wide S.width p → Now K kind first p S M came → OriginsTold K S p M came
  now_told p S M came o wide n = record {
    one = one_stage K S o;
    comes = n.comes;
    last = λ k x out e l. (origins_last K p S came wide n.comes k x out e l).0;
    only = λ k x out e l. (origins_last K p S came wide n.comes k x out e l).1;
    held = n.held;
  }

  module _ (S : State) (M : OriginMemory A) (read : Picture A) (said : List RowSaid) (came : List (Option (OriginRows A))) (r : OriginRun K kind first S M read said came) where
    -- a run is of a picture whose rows are counted, or open
    pub origins_either : (first.ending ≡ Fixed) ⊎ (first.ending ≡ Open)
    origins_either = ⊎_elim (λ (a, _, _). inl a) (λ (a, _). inr a) (going K kind first r).runs

    -- THE THEOREM OF RUNS THAT ASK. After a start that asks and is taken and any calls that ask, refused ones among them: over every whole picture that begins with the rows that were accepted, all is told
    -- that a run tells that does not ask, and for each pixel that came the last pixel under the rectangle that has its value.
    pub origins_told : first.ending ≡ Fixed → (p : Picture A) → Whole K S.width S.rows p → take (length read) p ≡ read → OriginRan K kind first p S M said came
    origins_told f p whole e =
        let g = going K kind first r in
        ⊎_elim
        (λ (_, k, q). record {
          plain = run_told K kind first S M.cells read said (pixels_came came) q p whole e;
          origins = now_told p S M came g.one whole.wide (g.now p (rw k whole) e);
        })
        (λ (o, _). absurd (false≢true (ap is_not_open (sym o ∙ f))))
        g.runs

    -- The same of an open run, stopped or not: over the rows that were accepted, as many as there are so far.
    pub open_origins_told : first.ending ≡ Open → OriginOpenRan K kind first read S M said came
    open_origins_told f =
        let g = going K kind first r in
        ⊎_elim
        (λ (o, _, _). absurd (false≢true (ap is_not_open (sym f ∙ o))))
        (λ (_, q).
        let o = open_told K kind first S M.cells read said (pixels_came came) q in
        let k : rows_read S.ending S.rows S.step ≡ over S.ending S.rows S.step = ⊎_elim (λ e. rw e) (λ e. rw e) o.ends in
        record {
          plain = o;
          origins = now_told read S M came g.one g.wide (g.now read (record { wide = g.wide; high = o.reads ∙ k; good = g.good }) (take-length read));
        })
        g.runs

    -- ---- the calls of a run are accepted: nothing is judged in it but 9, 28, 7 and 8 of a row, and 10 and 7 of a drain

    pub origins_take : (pixels : List A) (out : OriginRows A) → is_all_read S.ending S.rows S.step ≡ false → is_past_last S.ending S.step ≡ false → length pixels ≡ S.width
        → length out.pixels ≡ S.width → length out.rows ≡ S.width → length out.columns ≡ S.width → all K.good pixels ≡ true → origin_row_number K kind S M pixels out ≡ 0
    origins_take pixels out a b w o c d good =
        let g = going K kind first r in
        origin_row_asked K kind S M pixels out g.one.count g.columns_lent c d
        (row_zero K kind S M.cells pixels out.pixels
        (sym (offer_all kind S (length M.cells.values) (length M.cells.positions) M.cells.starts M.cells.lengths (length pixels) (length out.pixels) g.lent a b w o)) good)

    pub origins_drain : (out : OriginRows A) → has_no_drain S.ending S.rows (plan_ahead S.plan) S.step ≡ false → length out.pixels ≡ S.width → length out.rows ≡ S.width
        → length out.columns ≡ S.width → origin_drain_number kind S M out ≡ 0
    origins_drain out a o c d =
        let g = going K kind first r in
        origin_drain_asked kind S M out g.one.count g.columns_lent c d
        (sym (drain_all kind S (length M.cells.values) (length M.cells.positions) M.cells.starts M.cells.lengths (length out.pixels) g.lent a o))
