-- The laws of a plan's step on the memory lent. By which idea: a stage's row t - F is row t - F of the picture that the stages behind it see, one look-ahead later.
use mathlib.Core.Path.{◌≡◌, refl, sym, ap, ◌∙◌, subst}
use mathlib.Core.Bool.{Bool, true, false}
use mathlib.Core.List.{List, [], ◌∷◌, map}
use Prim.Native.Nat.{ℕ, ◌+◌, ◌-◌, ◌≤◌, ◌<◌}
use native.Mathlib.Nat.{sub-zero, add-zero}
use native.Mathlib.Omega.{arith}
use borrow.Author.Tests.{le-leb, lt-leb, leb-true, leb-false}
use lib.Dec.{leb}
use lib.ListN.{length, get_or, take, drop, length-append, length-take, length-drop}
use lib.Seq.{length-take-le}
use Rattle.morph.specs.Picture.{Picture, apply_stage, apply_plan}
use Rattle.morph.specs.Plan.{plan_cost}
use Rattle.morph.proofs.Lists.{split, both}
use Rattle.morph.proofs.Picture.{stage_wide, stage_length, stage_each}
use Rattle.sample.specs.Samples.{Samples}
use Rattle.columns.specs.Inner.{Lent}
use Rattle.memory.specs.Memory.{Memory, front_in, behind, sound_records, all_sound, Whole, StageHolds, Holds}
use Rattle.memory.proofs.Records.{test_sound, sound_test}
use Rattle.plan_record.specs.declared.Stage.{Stage}
use Rattle.plan_record.specs.Plan.{filter_of, size_of, below_of, cells_of, total}
use Rattle.plan_record.proofs.Laws.{mul_most}
use Rattle.stage.specs.Inner.{StageStep}
use Rattle.chain.specs.Inner.{Ready, Begins, Leaves, Fronted, PlanStep}
use Rattle.chain.proofs.Memory.{Sized, AtLeast, append, append_front, append_behind, lent_rest, rest_behind, rest_back, back_front, back_behind}

-- two parts as long as each other
parts_long : {A B : Type 0} (n : ℕ) (l : List A) (m : List B) → n ≤ length l → n ≤ length m → length (take n l) ≡ length (take n m)
parts_long n l m h k = length-take-le n l h ∙ sym (length-take-le n m k)

module _ {A : Type 0} where
  -- ---- the memory of a plan begins with its first stage's

  module _ (s : Stage) (ss : List Stage) (W : ℕ) (M : Memory A) (h : Ready (s ∷ ss) W M) where
    sounds : (sound_records (size_of s) (take W M.starts) (take W M.lengths) ≡ true) × (all_sound W ss (drop W M.starts) (drop W M.lengths) ≡ true)
    unfolding all_sound
    sounds = both _ _ h.sound

    pub ready_begins : Begins s W M
    ready_begins = record {
      narrow = h.narrow;
      small = h.small.0;
      values_long = omega (arith, h.values_long);
      positions_long = omega (arith, h.positions_long);
      starts_long = omega (arith, h.starts_long);
      lengths_long = omega (arith, h.lengths_long);
      sound = sounds.0;
    }

    pub ready_rest : Ready ss W (behind (cells_of W s) W M)
    ready_rest = record {
      narrow = h.narrow;
      short = omega (arith, h.short);
      small = h.small.1;
      values_long = rw length-drop (omega (arith, h.values_long));
      positions_long = rw length-drop (omega (arith, h.positions_long));
      starts_long = rw length-drop (omega (arith, h.starts_long));
      lengths_long = rw length-drop (omega (arith, h.lengths_long));
      sound = sounds.1;
    }

  -- what a stage's own step asks of the front
  begins_lent : (s : Stage) (W : ℕ) (M : Memory A) → Begins s W M → Lent (size_of s) W (take (cells_of W s) M.positions) (take W M.starts) (take W M.lengths)
  begins_lent s W M h =
      let a : length (take W M.starts) ≡ W = rw length-take (omega (arith, h.starts_long)) in
      let b : length (take W M.lengths) ≡ W = rw length-take (omega (arith, h.lengths_long)) in
      record {
        places = omega (arith, h.small.up, h.small.down);
        width = h.narrow;
        positions_long = rw length-take (omega (arith, h.positions_long));
        starts_long = a;
        lengths_long = b;
        sound = test_sound (size_of s) W (take W M.starts) (take W M.lengths) a b h.sound;
      }

-- ---- the front comes back

module _ {A : Type 0} (K : Samples A) (s : Stage) (H t : ℕ) (M : Memory A) (row : List A) (h : Begins s (length row) M) where
  abbrev W : ℕ
  W = length row

  -- the front F before what was behind
  abbrev joined : Memory A → Memory A
  joined F = append F (behind (cells_of W s) W M)

  module _ (F : Memory A) (row' : List A) (c : ℕ) (g : StageStep K s H t (front_in (cells_of W s) W M) row F row' c) where
    front_sized : Sized (cells_of W s) W F
    front_sized = record {
      values_long = g.moved.values_long ∙ rw length-take (omega (arith, h.values_long));
      positions_long = g.moved.lent.positions_long;
      starts_long = g.moved.lent.starts_long;
      lengths_long = g.moved.lent.lengths_long;
    }

    front_leaves : Leaves W (cells_of W s) c (length (joined F).values) (length (joined F).positions) (length (joined F).starts) (length (joined F).lengths)
    front_leaves = record {
      few = g.moved.few;
      cells_few = mul_most W (size_of s) 4096 63 h.narrow (omega (arith, h.small.up, h.small.down));
      values_long = rw length-append (omega (arith, front_sized.values_long));
      positions_long = rw length-append (omega (arith, front_sized.positions_long));
      starts_long = rw length-append (omega (arith, front_sized.starts_long));
      lengths_long = rw length-append (omega (arith, front_sized.lengths_long));
    }

    front_joined : Fronted K s H t M row (joined F) row' c
    front_joined = record {
      stepped = rw (append_front (cells_of W s) W F (behind (cells_of W s) W M) front_sized) g;
      rest = append_behind (cells_of W s) W F (behind (cells_of W s) W M) front_sized;
    }

  -- the same of the cells as the code has counted them
  module _ (cells : ℕ) (e : cells ≡ cells_of W s) where
    pub front_lent : Lent (size_of s) W (take cells M.positions) (take W M.starts) (take W M.lengths) × (length (take cells M.values) ≡ length (take cells M.positions))
    front_lent =
        (rw e (begins_lent s W M h), parts_long cells M.values M.positions (omega (arith, h.values_long)) (omega (arith, h.positions_long)))

    pub front_back : (F : Memory A) (row' : List A) (c : ℕ) → StageStep K s H t (front_in cells W M) row F row' c
        → Fronted K s H t M row (append F (behind cells W M)) row' c
        × Leaves W cells c (length (append F (behind cells W M)).values) (length (append F (behind cells W M)).positions) (length (append F (behind cells W M)).starts) (length (append F (behind cells W M)).lengths)
    front_back F row' c g = let k = rw e at g in (rw e (front_joined F row' c k), rw e (front_leaves F row' c k))

-- a look-ahead that is done
leb_later : (a b t : ℕ) → b ≤ t → leb a (t - b) ≡ leb (b + a) t
leb_later a b t h =
    split (leb a (t - b)) (λ p. rw p (sym (le-leb (b + a) t (omega (arith, leb-true a (t - b) p))))) (λ p. rw p (sym (lt-leb (b + a) t (omega (arith, leb-false a (t - b) p)))))

-- ---- the stages of a plan, one after another

module _ {A : Type 0} (K : Samples A) where
  -- no stage: the row is the plan's row as it comes
  pub plan_none : (H t : ℕ) (M : Memory A) (row : List A) → Ready [] (length row) M → PlanStep K [] H t M row M row 0 true
  unfolding Holds plan_cost apply_plan
  plan_none H t M row h = record {
    ready = h;
    row_long = refl;
    few = omega arith;
    when = sym (le-leb 0 t (omega arith));
    told = λ p whole holds e. (tt, refl, λ a b. e (omega arith) ∙ ap (λ k. get_or p k []) (sym (sub-zero t)));
  }

  -- what a stage makes of a whole picture is one too
  pub whole_stage : (s : Stage) (W H : ℕ) (p : Picture A) → Whole K W H p → Whole K W H (apply_stage (filter_of K.order s) p)
  whole_stage s W H p h = record {
    wide = stage_wide (filter_of K.order s) W p h.wide;
    high = stage_length (filter_of K.order s) p ∙ h.high;
    good = stage_each (filter_of K.order s) W p h.wide (λ a. K.good a ≡ true) h.good;
  }

  module _ (s : Stage) (ss : List Stage) (H t : ℕ) (M : Memory A) (row : List A) (ready : Ready (s ∷ ss) (length row) M) where
    ready_joined : (M' : Memory A) → Lent (size_of s) (length row) (take (cells_of (length row) s) M'.positions) (take (length row) M'.starts) (take (length row) M'.lengths)
        → length (take (cells_of (length row) s) M'.values) ≡ cells_of (length row) s → Ready ss (length row) (behind (cells_of (length row) s) (length row) M') → Ready (s ∷ ss) (length row) M'
    unfolding all_sound
    ready_joined M' l v r =
        let S = sound_test (size_of s) (length row) (take (length row) M'.starts) (take (length row) M'.lengths) l.starts_long l.lengths_long l.sound in
        record {
          narrow = ready.narrow;
          short = ready.short;
          small = ready.small;
          values_long = omega (arith, rw length-take at v, rw length-drop at r.values_long);
          positions_long = omega (arith, rw length-take at l.positions_long, rw length-drop at r.positions_long);
          starts_long = omega (arith, rw length-take at l.starts_long, rw length-drop at r.starts_long);
          lengths_long = omega (arith, rw length-take at l.lengths_long, rw length-drop at r.lengths_long);
          sound = cc r.sound;
        }

    module _ (M' : Memory A) (row' : List A) (c : ℕ) (f : Fronted K s H t M row M' row' c) where
      front_long : length (take (cells_of (length row) s) M'.values) ≡ cells_of (length row) s
      front_long = f.stepped.moved.values_long ∙ rw length-take (omega (arith, ready.values_long))

      -- the stages behind have not begun
      pub plan_early : t < below_of s → PlanStep K (s ∷ ss) H t M row M' row' c false
      unfolding Holds plan_cost
      plan_early l = record {
        ready = ready_joined M' f.stepped.moved.lent front_long (rw f.rest (ready_rest s ss (length row) M ready));
        row_long = f.stepped.moved.row_long;
        few = omega (arith, f.stepped.moved.few);
        when = sym (lt-leb (total below_of (s ∷ ss)) t (omega arith));
        told = λ p whole holds e.
            let (a, b) = f.stepped.moved.told p whole holds.0 e in
            let z : t - below_of s ≡ t + 1 - below_of s = omega arith in
            ((a, rw (f.rest, ← z) holds.1), rw (lt-leb (below_of s) t l) (b ∙ sym (add-zero _)), λ u v. absurd (omega arith));
      }

      -- they go on, on what came of the stage
      pub plan_later : below_of s ≤ t → (R : Memory A) (row'' : List A) (d : ℕ) (due : Bool) → PlanStep K ss H (t - below_of s) (behind (cells_of (length row) s) (length row) M') row' R row'' d due
          → (M'' : Memory A) → front_in (cells_of (length row) s) (length row) M'' ≡ front_in (cells_of (length row) s) (length row) M' → behind (cells_of (length row) s) (length row) M'' ≡ R
          → PlanStep K (s ∷ ss) H t M row M'' row'' (c + d) due
      unfolding Holds plan_cost apply_plan
      plan_later l R row'' d due g M'' i j =
          let w = f.stepped.moved.row_long in
          record {
            ready =
                ready_joined M'' (subst (λ (m : Memory A). Lent (size_of s) (length row) m.positions m.starts m.lengths) (sym i) f.stepped.moved.lent) (ap (λ (m : Memory A). length m.values) i ∙ front_long)
                (subst (Ready ss (length row)) (sym j) (rw w at g.ready));
            row_long = g.row_long ∙ w;
            few = omega (arith, f.stepped.moved.few, g.few);
            when = g.when ∙ leb_later (total below_of ss) (below_of s) t l;
            told = λ p whole holds e.
                let S = filter_of K.order s in
                let D = total below_of ss in
                let (a, b) = f.stepped.moved.told p whole holds.0 e in
                let o : t - below_of s < H → row' ≡ get_or (apply_stage S p) (t - below_of s) [] = λ q. f.stepped.comes p whole holds.0 e l (omega arith) in
                let (x, y, z) = g.told (apply_stage S p) (rw w (whole_stage s (length row) H p whole)) (rw w (rw f.rest holds.1)) o in
                let n : t - below_of s + 1 ≡ t + 1 - below_of s = omega arith in
                let k : t - below_of s - D ≡ t - (below_of s + D) = omega arith in (
                  (subst (StageHolds K s (length row) p (t + 1)) (sym i) a, rw (j, ← n) (rw w at x)),
                  rw (le-leb (below_of s) t l, b, rw w at y),
                  λ u v. z (omega arith) (omega arith) ∙ ap (λ m. get_or (apply_plan (map (filter_of K.order) ss) (apply_stage S p)) m []) k,
                );
          }

-- ---- the rest of the memory is lent to the stages behind, and comes back

module _ {A : Type 0} (K : Samples A) (s : Stage) (ss : List Stage) (H t : ℕ) (M : Memory A) (row : List A) (ready : Ready (s ∷ ss) (length row) M)
    (M' : Memory A) (row' : List A) (c : ℕ) (f : Fronted K s H t M row M' row' c) (cells : ℕ) (e : cells ≡ cells_of (length row) s) where
  -- the stages behind are given what they need
  pub rest_ready : Ready ss (length row') (lent_rest cells (length row) M')
  rest_ready = rw (f.stepped.moved.row_long, rest_behind cells (length row) M', e, f.rest) (ready_rest s ss (length row) M ready)

  pub plan_back : (ahead : ℕ) → ahead ≡ below_of s → ahead ≤ t → Leaves (length row) cells c (length M'.values) (length M'.positions) (length M'.starts) (length M'.lengths)
      → (R : Memory A) (row'' : List A) (d : ℕ) (due : Bool) → PlanStep K ss H (t - ahead) (lent_rest cells (length row) M') row' R row'' d due
      → PlanStep K (s ∷ ss) H t M row (rest_back cells (length row) M' R) row'' (c + d) due
  plan_back ahead a l g R row'' d due h =
      let m : AtLeast cells (length row) M' = record { values_long = g.values_long; positions_long = g.positions_long; starts_long = g.starts_long; lengths_long = g.lengths_long } in
      plan_later K s ss H t M row ready M' row' c f (omega arith) R row'' d due (rw (← a, ← e) (rw (rest_behind cells (length row) M') at h)) (rest_back cells (length row) M' R)
      (rw (← e) (back_front cells (length row) M' R m)) (rw (← e) (back_behind cells (length row) M' R m))
