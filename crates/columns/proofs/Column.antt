-- A step of one column, beside which the others stay, and what stands in a column; over any kind of samples.
use Rattle.std.proofs.Common.{◌≡◌, refl, sym, ap, ◌∙◌, List, ◌≢◌, ℕ, ◌+◌, ◌-◌, ◌*◌, ◌≤◌, ◌<◌, arith, eqb-true, eqb, length, drop, get_or, set, length-set, length-drop, length-take-le, get_or-set_same, get_or-set_other}
use Rattle.std.proofs.lemmas.Bool.{eqb-false}
use Rattle.std.proofs.lemmas.List.{get_or-map}
use borrow.Rule.Slice.PartMut.{put_mid, mid_of, same_len_mid}
use Rattle.morph.specs.declared.Kind.{Kind}
use Rattle.morph.specs.Order.{Order}
use Rattle.morph.specs.Line.{Entry, front}
use Rattle.morph.specs.Cell.{row_of, read_at}
use Rattle.morph.specs.Ring.{wrap, entries}
use Rattle.morph.specs.Inner.{cells_roomed, step_cost}
use Rattle.morph.proofs.Lists.{split}
use Rattle.sample.specs.Samples.{Samples}
use Rattle.queue.specs.Queue.{listed}
use Rattle.queue.specs.Inner.{cell_goes_of, CellPushed}
use Rattle.queue.specs.declared.Ends.{Ends}
use Rattle.queue.proofs.Laws.{listed_length, listed_at, listed_front}
use Rattle.queue.proofs.Cells.{listed_go}
use Rattle.columns.specs.Inner.{Lent, only, Moved, reads, front_at, EntryAt}
use Rattle.memory.specs.Memory.{cells_at, column_at}
use Rattle.columns.proofs.Cells.{column_in, cells_part, cells_place, Beside, put_here, put_beside}

-- ---- what stands in a column

module _ {A : Type 0} (K : Samples A) (P x : ℕ) (vs : List A) (ps ss ls : List ℕ) where
  pub column_length : length (column_at K P vs ps ss ls x) ≡ get_or ls x 0
  unfolding column_at
  column_length = listed_length K.order.blank P (cells_at P x vs) (cells_at P x ps) (get_or ss x 0) (get_or ls x 0)

  -- the cell of a column's start holds the front of its queue, in any order, where the queue is not empty
  pub front_column : (O : Order A) → get_or ss x 0 < P → 0 < length (column_at K P vs ps ss ls x) → front_at K P vs ss x ≡ front O (column_at K P vs ps ss ls x)
  unfolding front_at column_at
  front_column O h k =
      sym
      (listed_front K.order.blank P (cells_at P x vs) (cells_at P x ps) O (get_or ss x 0) (get_or ls x 0) h (rw column_length at k)
      ∙ cells_place P x (get_or ss x 0) vs K.order.blank h)

-- place k of a queue is a place of the ring
pub entry_column : {A : Type 0} (K : Samples A) (P x : ℕ) (vs : List A) (ps ss : List ℕ) (start k at s : ℕ) (v : A) (p : ℕ)
    → start ≡ get_or ss x 0 → at ≡ wrap P (start + k) → at < P → v ≡ get_or vs (x * P + at) K.order.blank → p ≡ row_of s (get_or ps (x * P + at) 0)
    → EntryAt K P vs ps ss x k s v p
unfolding column_at
entry_column K P x vs ps ss start k at s v p e w h a b ls none i =
    let q = entries K.order.blank P (get_or ss x 0) (get_or ls x 0) (cells_at P x vs) (cells_at P x ps) in
    let d : Entry _ = record { value = K.order.blank; position = 0 } in
    get_or-map (read_at s) q k d none (rw listed_length i)
    ∙ ap (read_at s) (listed_at K.order.blank P (cells_at P x vs) (cells_at P x ps) (get_or ss x 0) (get_or ls x 0) k at d i (rw (← e, w)))
    ∙ rw (cells_place P x at vs K.order.blank h, cells_place P x at ps 0 h, a, b)

-- ---- new cells and a new record for column x

module _ (P W x : ℕ) (ps ss ls : List ℕ) (lent : Lent P W ps ss ls) (h : x < W) (s n : ℕ) where
  start_here : get_or (set ss x s) x 0 ≡ s
  start_here = get_or-set_same ss x s 0 (omega (arith, lent.starts_long))

  length_here : get_or (set ls x n) x 0 ≡ n
  length_here = get_or-set_same ls x n 0 (omega (arith, lent.lengths_long))

  lent_set : (ps' : List ℕ) → length ps' ≡ length ps → s < P → n ≤ P → Lent P W ps' (set ss x s) (set ls x n)
  lent_set ps' l below fits = record {
    places = lent.places;
    width = lent.width;
    positions_long = l ∙ lent.positions_long;
    starts_long = simp length-set lent.starts_long;
    lengths_long = simp length-set lent.lengths_long;
    sound = record {
      below = λ j m. split (eqb j x) (λ e. rw (eqb-true j x e, start_here) below) (λ e. rw (get_or-set_other ss x j s 0 (eqb-false j x e)) (lent.sound.below j m));
      fits = λ j m. split (eqb j x) (λ e. rw (eqb-true j x e, length_here) fits) (λ e. rw (get_or-set_other ls x j n 0 (eqb-false j x e)) (lent.sound.fits j m));
    };
  }

  module _ {A : Type 0} (K : Samples A) (vs vs' : List A) (ps' : List ℕ) where
    column_here : column_at K P vs' ps' (set ss x s) (set ls x n) x ≡ entries K.order.blank P s n (cells_at P x vs') (cells_at P x ps')
    unfolding column_at
    column_here = rw (start_here, length_here)

    column_beside : (j : ℕ) → j ≢ x → Beside P x vs vs' → Beside P x ps ps' → column_at K P vs' ps' (set ss x s) (set ls x n) j ≡ column_at K P vs ps ss ls j
    unfolding column_at
    column_beside j e a b = rw (a j e, b j e, get_or-set_other ss x j s 0 e, get_or-set_other ls x j n 0 e)

    one_moved : (next : List (Entry A) → List (Entry A)) → length vs' ≡ length vs → length ps' ≡ length ps → Beside P x vs vs' → Beside P x ps ps' → s < P → n ≤ P
        → entries K.order.blank P s n (cells_at P x vs') (cells_at P x ps') ≡ next (column_at K P vs ps ss ls x)
        → Moved K P W (only x next) vs ps ss ls vs' ps' (set ss x s) (set ls x n)
    one_moved next a b c d below fits here = record {
      values_long = a;
      lent = lent_set ps' b below fits;
      each = λ j m. split (eqb j x) (λ e. rw (e, eqb-true j x e) (column_here ∙ here)) (λ e. rw e (column_beside j (eqb-false j x e) c d));
    }

-- ---- it ages, and it reads; lo is where its cells begin, and the part that is lent has k of them, as the code has it

module _ {A : Type 0} (K : Samples A) (P W t x lo k : ℕ) (vs : List A) (ps ss ls : List ℕ) (start count : ℕ)
    (lent : Lent P W ps ss ls) (at : lo ≡ x * P) (h : x < W) (all : k ≡ P) (e : start ≡ get_or ss x 0) (f : count ≡ get_or ls x 0) where
  part_cells : {B : Type 0} (xs : List B) → mid_of lo k xs ≡ cells_at P x xs
  part_cells xs = rw (at, all) (cells_part P x xs)

  -- what goes is dropped, and no cell changes
  module _ (gone s n : ℕ) (g : gone ≡ cell_goes_of P t count (get_or (mid_of lo k ps) start 0)) (u : s ≡ wrap P (start + gone)) (v : n ≡ count - gone) where
    aged_here : entries K.order.blank P s n (cells_at P x vs) (cells_at P x ps) ≡ cells_roomed P t (column_at K P vs ps ss ls x)
    unfolding column_at
    aged_here =
        let b = lent.sound.below x h in
        let d = lent.sound.fits x h in
        rw (← e, ← f, u, v) (listed_go K.order.blank P (cells_at P x vs) (cells_at P x ps) t start count gone (omega arith) (omega arith) (rw (← part_cells ps) g))

    pub column_aged : s < P → n ≤ P → Moved K P W (only x (cells_roomed P t)) vs ps ss ls vs ps (set ss x s) (set ls x n)
    column_aged below fits = one_moved P W x ps ss ls lent h s n K vs vs ps (cells_roomed P t) refl refl (λ j m. refl) (λ j m. refl) below fits aged_here

  -- the cells are lent to the push and come back as ys and zs
  module _ (kind : Kind) (v : A) (ys : List A) (zs : List ℕ) (r : Ends) (same : length vs ≡ length ps)
      (p : CellPushed K kind t v (mid_of lo k vs) (mid_of lo k ps) start count ys zs r) where
    inside : x * P + P ≤ length ps
    inside = (column_in P W x (x * P) ps ss ls lent refl h).0

    part_long : length (mid_of lo k vs) ≡ P
    part_long = rw (at, all) (length-take-le P (drop (x * P) vs) (rw length-drop (omega (arith, inside))))

    column_listed : listed K (mid_of lo k vs) (mid_of lo k ps) start count ≡ column_at K P vs ps ss ls x
    unfolding column_at
    column_listed = rw (part_long, part_cells vs, part_cells ps, e, f)

    ys_long : length ys ≡ P
    ys_long = p.values_long ∙ part_long

    zs_long : length zs ≡ P
    zs_long = p.positions_long ∙ rw (at, all) (length-take-le P (drop (x * P) ps) (rw length-drop (omega (arith, inside))))

    pushed_here : entries K.order.blank P r.start r.count ys zs ≡ reads K kind P t v (column_at K P vs ps ss ls x)
    pushed_here = rw (ys_long, column_listed, part_long) at p.next

    pub column_read : Moved K P W (only x (reads K kind P t v)) vs ps ss ls (put_mid lo k vs ys) (put_mid lo k ps zs) (set ss x r.start) (set ls x r.count)
        × (r.comparisons ≡ step_cost (K.passes kind v) (column_at K P vs ps ss ls x)) × (r.comparisons ≤ 63)
    column_read = (
      one_moved P W x ps ss ls lent h r.start r.count K vs (put_mid lo k vs ys) (put_mid lo k ps zs) (reads K kind P t v)
          (same_len_mid lo k vs ys p.values_long)
          (same_len_mid lo k ps zs p.positions_long)
          (rw (at, all) (put_beside P x vs ys (omega (arith, inside)) ys_long))
          (rw (at, all) (put_beside P x ps zs inside zs_long))
          (omega (arith, p.below, part_long))
          (omega (arith, p.fits, part_long))
          (rw (at, all, put_here P x vs ys (omega (arith, inside)) ys_long, put_here P x ps zs inside zs_long) pushed_here),
      rw column_listed at p.counted,
      omega (arith, p.few, part_long, lent.places),
    )
