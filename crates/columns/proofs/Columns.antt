-- The columns one after another: what has been done to the columns before x, and to none after it, grows by one. Over any kind of samples.
use Rattle.std.proofs.Common.{◌≡◌, refl, sym, ap, ◌∙◌, cond, List, [], ◌≢◌, ℕ, suc, ◌+◌, ◌*◌, ◌≤◌, ◌<◌, zero-mul, add-one, arith, ltb-true, ltb-false, lt-ltb, le-ltb, eqb-true, eq-eqb, ltb, eqb, length, get_or, set, length-set}
use Rattle.std.proofs.lemmas.Bool.{eqb-false}
use Rattle.morph.specs.declared.Kind.{Kind}
use Rattle.morph.specs.Lists.{tabulate, sum_to}
use Rattle.morph.specs.Line.{Entry}
use Rattle.morph.specs.Inner.{cells_roomed, step_cost}
use Rattle.morph.proofs.Lists.{split, length_tabulate, get_d_tabulate}
use Rattle.sample.specs.Samples.{Samples}
use Rattle.sample.proofs.Rows.{Filling, fill_start, fill_next}
use Rattle.columns.specs.Inner.{Lent, only, Moved, RecordsMoved, reads, front_at}
use Rattle.memory.specs.Memory.{column_at}
use Rattle.columns.proofs.Cells.{next_cells}

-- the columns before x have gone on by `next`
abbrev pub until : {B : Type 0} → ℕ → (ℕ → B → B) → ℕ → B → B
until x next j b = cond (ltb j x) (next j b) b

until_next : {B : Type 0} (x : ℕ) (next : ℕ → B → B) (j : ℕ) (b : B) → only x (next x) j (until x next j b) ≡ until (suc x) next j b
until_next x next j b =
    split (eqb j x)
    (λ e. rw (eqb-true j x e, eq-eqb x x refl, le-ltb x x (omega arith), lt-ltb x (suc x) (omega arith)))
    (λ e. split (ltb j x)
    (λ l. rw (e, l, lt-ltb j (suc x) (omega (arith, ltb-true j x l))))
    (λ l. rw (e, l, le-ltb j (suc x) (let m = ltb-false j x l in let n : j ≢ x = eqb-false j x e in omega arith))))

module _ {A : Type 0} (K : Samples A) (P W : ℕ) (next : ℕ → List (Entry A) → List (Entry A)) (vs : List A) (ps ss ls : List ℕ) where
  pub moved_first : Lent P W ps ss ls → Moved K P W (until 0 next) vs ps ss ls vs ps ss ls
  moved_first l = record { values_long = refl; lent = l; each = λ j m. rw (le-ltb j 0 (omega arith)) }

  module _ (x : ℕ) (vs' : List A) (ps' ss' ls' : List ℕ) (m : Moved K P W (until x next) vs ps ss ls vs' ps' ss' ls') where
    -- column x is still as it was
    pub moved_here : x < W → column_at K P vs' ps' ss' ls' x ≡ column_at K P vs ps ss ls x
    moved_here h = m.each x h ∙ rw (le-ltb x x (omega arith))

    pub moved_next : (vs'' : List A) (ps'' ss'' ls'' : List ℕ) → Moved K P W (only x (next x)) vs' ps' ss' ls' vs'' ps'' ss'' ls'' → Moved K P W (until (x + 1) next) vs ps ss ls vs'' ps'' ss'' ls''
    moved_next vs'' ps'' ss'' ls'' n = record {
      values_long = n.values_long ∙ m.values_long;
      lent = n.lent;
      each = λ j h. n.each j h ∙ ap (only x (next x) j) (m.each j h) ∙ rw add-one (until_next x next j (column_at K P vs ps ss ls j));
    }

    pub moved_last : W ≤ x → Moved K P W next vs ps ss ls vs' ps' ss' ls'
    moved_last h = record { values_long = m.values_long; lent = m.lent; each = λ j l. m.each j l ∙ rw (lt-ltb j x (omega arith)) }

-- ---- the row is read

module _ {A : Type 0} (K : Samples A) (kind : Kind) (P t : ℕ) (row vs : List A) (ps ss ls : List ℕ) where
  abbrev value_at : ℕ → A
  value_at x = get_or row x K.order.blank

  abbrev reads_at : ℕ → List (Entry A) → List (Entry A)
  reads_at x = reads K kind P t (value_at x)

  abbrev cost_at : ℕ → ℕ
  cost_at x = step_cost (K.passes kind (value_at x)) (column_at K P vs ps ss ls x)

  -- the columns before x, whose cells begin at lo, have read, in r comparisons
  pub record Reading (vs' : List A) (ps' ss' ls' : List ℕ) (r lo x : ℕ) : Type 0 where
    pub within : x ≤ length row
    pub at : lo ≡ x * P
    pub moved : Moved K P (length row) (until x reads_at) vs ps ss ls vs' ps' ss' ls'
    pub counted : r ≡ sum_to x cost_at
    pub few : r ≤ x * 63

  module _ (vs' : List A) (ps' ss' ls' : List ℕ) (r lo x : ℕ) (g : Reading vs' ps' ss' ls' r lo x) where
    pub reading_next : (v : A) (vs'' : List A) (ps'' ss'' ls'' : List ℕ) (more : ℕ) → x < length row → v ≡ value_at x
        → Moved K P (length ss') (only x (reads K kind P t v)) vs' ps' ss' ls' vs'' ps'' ss'' ls''
        → more ≡ step_cost (K.passes kind v) (column_at K P vs' ps' ss' ls' x) → more ≤ 63 → Reading vs'' ps'' ss'' ls'' (r + more) (lo + P) (x + 1)
    reading_next v vs'' ps'' ss'' ls'' more h e m c b = record {
      within = omega arith;
      at = next_cells P x lo g.at;
      moved = moved_next K P (length row) reads_at vs ps ss ls x vs' ps' ss' ls' g.moved vs'' ps'' ss'' ls'' (rw (e, g.moved.lent.starts_long) at m);
      counted = rw (add-one, ← g.counted, c, e, moved_here K P (length row) reads_at vs ps ss ls x vs' ps' ss' ls' g.moved h);
      few = omega (arith, g.few);
    }

-- ---- the columns age

module _ {A : Type 0} (K : Samples A) (P t : ℕ) (ps ss ls : List ℕ) where
  -- the columns before x, whose cells begin at lo, have aged, whatever the values are
  pub record Aging (ss' ls' : List ℕ) (lo x : ℕ) : Type 0 where
    pub within : x ≤ length ss
    pub at : lo ≡ x * P
    pub lent : Lent P (length ss) ps ss' ls'
    pub moved : RecordsMoved K P (length ss) (until x (λ _. cells_roomed P t)) ps ss ls ss' ls'

  module _ (ss' ls' : List ℕ) (lo x : ℕ) (g : Aging ss' ls' lo x) where
    pub aging_next : (ss'' ls'' : List ℕ) → x < length ss → RecordsMoved K P (length ss') (only x (cells_roomed P t)) ps ss' ls' ss'' ls'' → Aging ss'' ls'' (lo + P) (x + 1)
    aging_next ss'' ls'' h m =
        let a = rw g.lent.starts_long at m in
        record {
          within = omega arith;
          at = next_cells P x lo g.at;
          lent = (a []).lent;
          moved = λ vs. moved_next K P (length ss) (λ _. cells_roomed P t) vs ps ss ls x vs ps ss' ls' (g.moved vs) vs ps ss'' ls'' (a vs);
        }

    pub aging_last : length ss ≤ x → RecordsMoved K P (length ss) (λ _. cells_roomed P t) ps ss ls ss' ls'
    aging_last h vs = moved_last K P (length ss) (λ _. cells_roomed P t) vs ps ss ls x vs ps ss' ls' (g.moved vs) h

-- ---- the fronts go into a row

module _ {A : Type 0} (K : Samples A) (P : ℕ) (vs : List A) (ss : List ℕ) (row : List A) where
  abbrev fronted : List A
  fronted = tabulate (length row) (front_at K P vs ss)

  -- the fronts of the columns before x, whose cells begin at lo, stand in the row
  pub record Fronting (row' : List A) (lo x : ℕ) : Type 0 where
    pub within : x ≤ length row
    pub long : length row' ≡ length row
    pub at : lo ≡ x * P
    pub filled : Filling fronted row row' x

  pub fronting_first : Fronting row 0 0
  fronting_first = record { within = omega arith; long = refl; at = sym (zero-mul P); filled = fill_start fronted row (sym (length_tabulate (length row) (front_at K P vs ss))) }

  module _ (row' : List A) (lo x : ℕ) (g : Fronting row' lo x) where
    front_next : (v : A) → x < length row → v ≡ get_or vs (lo + get_or ss x 0) K.order.blank → v ≡ get_or fronted x K.order.blank
    unfolding front_at
    front_next v h e = e ∙ rw (g.at, get_d_tabulate (length row) (front_at K P vs ss) x K.order.blank h)

    pub fronting_next : (v : A) → x < length row → v ≡ get_or vs (lo + get_or ss x 0) K.order.blank → Fronting (set row' x v) (lo + P) (x + 1)
    fronting_next v h e = record {
      within = omega arith;
      long = simp length-set g.long;
      at = next_cells P x lo g.at;
      filled = fill_next fronted row row' x g.filled K.order.blank (rw length_tabulate h) v (front_next v h e);
    }
