-- The queue's step in lent cells, which keep remainders, from what the code finds on the way.
use Rattle.std.proofs.Common.{◌≡◌, refl, sym, ap, ◌∙◌, List, [], ◌∷◌, ◌++◌, ◌≢◌, ℕ, suc, ◌+◌, ◌-◌, ◌%◌, ◌≤◌, ◌<◌, min, arith, leb-true, leb-false, eqb-true, ne_eqb, leb, eqb, length, drop, get_or, set, length-set}
use Rattle.std.proofs.lemmas.Bool.{eqb-false}
use Rattle.morph.specs.Line.{Entry}
use Rattle.morph.specs.Inner.{popped, step_cost, cells_go, cells_roomed, cells_stepped}
use Rattle.morph.specs.Ring.{wrap, entries}
use Rattle.morph.proofs.Lists.{split}
use Rattle.morph.proofs.Ring.{wrap_low, wrap_lt, wrap_add}
use Rattle.morph.specs.declared.Kind.{Kind}
use Rattle.sample.specs.Samples.{Samples}
use Rattle.queue.specs.Queue.{listed}
use Rattle.queue.specs.Inner.{cell_goes_of, CellPushed}
use Rattle.queue.proofs.Laws.{listed_length, listed_push, listed_drop, listed_take, first_position}

ruleset tests = (arith, leb-true, leb-false, eqb-true, eqb-false)

pub cell_goes_few : (w t count r : ℕ) → 0 < w → count ≤ w → (cell_goes_of w t count r ≤ 1) × (cell_goes_of w t count r ≤ count) × (count - cell_goes_of w t count r < w)
unfolding cell_goes_of
cell_goes_few w t count r h k =
    split (eqb count 0)
    (λ a. rw a (omega tests, omega tests, omega tests))
    (λ a. split (leb w count)
    (λ b. rw (a, b) (omega tests, omega tests, omega tests))
    (λ b. split (eqb r ((t + 128 - w) % 128)) (λ d. rw (a, b, d) (omega tests, omega tests, omega tests)) (λ d. rw (a, b, d) (omega tests, omega tests, omega tests))))

module _ {A : Type 0} where
  go_cells : (w t : ℕ) (q : List (Entry A)) (d : Entry A) → cell_goes_of w t (length q) (get_or q 0 d).position ≡ cells_go w t q
  unfolding cell_goes_of cells_go
  go_cells w t [] d = refl
  go_cells w t (e ∷ q) d = rw (ne_eqb (suc (length q)) 0 (λ h. omega arith))

  -- the oldest goes if it is too old
  pub listed_go : (blank : A) (n : ℕ) (vs : List A) (ps : List ℕ) (t start count gone : ℕ) → start < n → count ≤ n → gone ≡ cell_goes_of n t count (get_or ps start 0)
      → entries blank n (wrap n (start + gone)) (count - gone) vs ps ≡ cells_roomed n t (entries blank n start count vs ps)
  unfolding cells_roomed
  listed_go blank n vs ps t start count gone a b g =
      let q = entries blank n start count vs ps in
      let d : Entry A = record { value = blank; position = get_or ps start 0 } in
      let (one, some, few) = cell_goes_few n t count (get_or ps start 0) (omega arith) b in
      let f : gone ≡ cell_goes_of n t (length q) (get_or q 0 d).position = rw (listed_length, first_position blank n vs ps start count a) g in
      let c : gone ≡ cells_go n t q = f ∙ go_cells n t q d in
      listed_drop blank n vs ps start count gone a b (omega arith) (omega arith) ∙ ap (λ j. drop j q) c

  module _ (K : Samples A) (kind : Kind) (t : ℕ) (v : A) (vs : List A) (ps : List ℕ) (start count left gone behind more : ℕ) (a : start < length vs) (b : count ≤ length vs)
      (e : count - left ≡ popped (K.passes kind v) (listed K vs ps start count)) (h : left ≤ count) (g : gone ≡ cell_goes_of (length vs) t left (get_or ps start 0))
      (k : behind ≡ wrap (length vs) (start + left)) (o : more ≡ min 1 left) (l : length ps ≡ length vs) where
    -- what is passed is popped, then `gone` of the oldest go, and the new one is stored behind
    cell_pushed : (first : ℕ) → first ≡ wrap (length vs) (start + gone)
        → CellPushed K kind t v vs ps start count (set vs behind v) (set ps behind (t % 128)) (record { start = first; count = left - gone + 1; comparisons = count - left + more })
    unfolding step_cost cells_stepped
    cell_pushed first f =
        let n = length vs in
        let blank = K.order.blank in
        let s : count - (count - left) ≡ left = omega arith in
        let (one, some, few) = cell_goes_few (length vs) t left (get_or ps start 0) (omega arith) (omega arith) in
        let m : start + gone + (left - gone) ≡ start + left = omega arith in
        let at : behind ≡ wrap (length vs) (first + (left - gone)) =
        k ∙ ap (wrap (length vs)) (sym m) ∙ sym (wrap_add (length vs) (start + gone) (left - gone) (omega arith)) ∙ ap (λ j. wrap (length vs) (j + (left - gone))) (sym f) in
        let below : first < length vs = rw f (wrap_lt (length vs) (start + gone) (omega arith)) in
        let inside : behind < length vs = rw k (wrap_lt (length vs) (start + left) (omega arith)) in
        let stays = ap (λ j. entries blank n j (left - gone) vs ps) f ∙ listed_go blank n vs ps t start left gone a (omega arith) g in
        let y : length (set vs behind v) ≡ length vs = simp length-set in
        record {
          below = below;
          fits = omega arith;
          values_long = y;
          positions_long = simp length-set;
          next = rw (y, listed_push blank n vs ps first (left - gone) behind v (t % 128) below (omega arith) (omega arith) (omega arith) at inside, listed_length, ← e, s, listed_take blank n vs ps start count left h)
              (ap (λ r. r ++ (record { value = v; position = t % 128 } ∷ [])) stays);
          counted = rw (listed_length, ← e, s, o);
          few = omega arith;
        }

    -- none of the oldest goes
    pub cell_kept : gone ≡ 0 → CellPushed K kind t v vs ps start count (set vs behind v) (set ps behind (t % 128)) (record { start = start; count = left + 1; comparisons = count - left + more })
    cell_kept y =
        let s : start + gone ≡ start = omega arith in
        let n : left - gone ≡ left = omega arith in
        rw n at (cell_pushed start (rw s (sym (wrap_low (length vs) start a))))

    -- one goes
    pub cell_aged : (first : ℕ) → gone ≢ 0 → first ≡ wrap (length vs) (start + 1)
        → CellPushed K kind t v vs ps start count (set vs behind v) (set ps behind (t % 128)) (record { start = first; count = left; comparisons = count - left + more })
    cell_aged first y f =
        let (one, some, few) = cell_goes_few (length vs) t left (get_or ps start 0) (omega arith) (omega arith) in
        let u : gone ≡ 1 = omega arith in
        let n : left - gone + 1 ≡ left = omega arith in
        rw n at (cell_pushed first (rw u f))
