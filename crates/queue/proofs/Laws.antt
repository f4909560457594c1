-- The laws that the queue's code cites, over any element.
use Rattle.std.proofs.Common.{◌≡◌, refl, sym, ap, ◌∙◌, subst, Bool, true, false, List, [], ◌∷◌, ◌++◌, ◌≢◌, ℕ, zero, suc, ◌+◌, ◌-◌, ◌≤◌, ◌<◌, min, add-zero, add-one, arith, leb-true, leb-false, eqb-true, lt-ltb, le-ltb, ne_eqb, leb, eqb, length, take, drop, get_or, set, length-set, get_or-set_same, get_or-set_other}
use Rattle.std.proofs.lemmas.Bool.{eqb-false}
use Rattle.std.proofs.Math.Nat.{sub-zero}
use Rattle.morph.specs.Order.{Order}
use Rattle.morph.specs.Line.{Entry, front}
use Rattle.morph.specs.Inner.{popped, roomed, stepped, step_cost}
use Rattle.morph.specs.Ring.{wrap, ring, cell_at, entries}
use Rattle.morph.proofs.Lists.{split}
use Rattle.morph.proofs.Step.{Popping, pop_start, pop_more, pop_stop, pop_end}
use Rattle.morph.proofs.Ring.{wrap_low, wrap_lt, wrap_add, ring_length, ring_at, ring_take, ring_drop, ring_push}
use Rattle.morph.specs.declared.Kind.{Kind}
use Rattle.sample.specs.Samples.{Samples}
use Rattle.queue.specs.Queue.{listed}
use Rattle.queue.specs.Inner.{goes_of, Roomed}
use Rattle.queue.specs.declared.Room.{Room}

ruleset tests = (arith, leb-true, leb-false, eqb-true, eqb-false)

-- at most one goes, there is one where one goes, and then there is room
pub goes_few : (w t count position : ℕ) → 0 < w → count ≤ w → (goes_of w t count position ≤ 1) × (goes_of w t count position ≤ count) × (count - goes_of w t count position < w)
unfolding goes_of
goes_few w t count position h k =
    split (eqb count 0)
    (λ a. rw a (omega tests, omega tests, omega tests))
    (λ a. split (leb w count)
    (λ b. rw (a, b) (omega tests, omega tests, omega tests))
    (λ b. split (leb (position + w) t) (λ d. rw (a, b, d) (omega tests, omega tests, omega tests)) (λ d. rw (a, b, d) (omega tests, omega tests, omega tests))))

module _ {A : Type 0} where
  pub goes_roomed : (w t : ℕ) (q : List (Entry A)) (d : Entry A) → drop (goes_of w t (length q) (get_or q 0 d).position) q ≡ roomed w t q
  unfolding goes_of roomed
  goes_roomed w t [] d = split (leb w 0) (λ a. rw a) (λ a. rw a)
  goes_roomed w t (e ∷ q) d =
      let z = ne_eqb (suc (length q)) 0 (λ h. omega arith) in
      split (leb w (suc (length q)))
      (λ a. rw (z, a))
      (λ a. split (leb (e.position + w) t)
      (λ b. rw (z, a, b, lt-ltb e.position (suc t - w) (omega tests)))
      (λ b. rw (z, a, b, le-ltb e.position (suc t - w) (omega tests))))

  module _ (blank : A) (n : ℕ) (vs : List A) (ps : List ℕ) where
    pub listed_length : (start count : ℕ) → length (entries blank n start count vs ps) ≡ count
    unfolding entries
    listed_length start count = ring_length n start _ count

    pub listed_at : (start count i k : ℕ) (d : Entry A) → i < count → wrap n (start + i) ≡ k → get_or (entries blank n start count vs ps) i d ≡ cell_at blank vs ps k
    unfolding entries
    listed_at start count i k d h w = ring_at n start _ count i d h ∙ ap (cell_at blank vs ps) w

    pub listed_none : (start : ℕ) → entries blank n start 0 vs ps ≡ []
    unfolding entries ring
    listed_none start = refl

    -- the oldest stands at the start
    pub listed_front : (O : Order A) (start count : ℕ) → start < n → 0 < count → front O (entries blank n start count vs ps) ≡ get_or vs start blank
    unfolding entries ring
    listed_front O start zero h k = absurd (omega arith)
    listed_front O start (suc count) h k = ap (λ j. get_or vs j blank) (ap (wrap n) (add-zero start) ∙ wrap_low n start h)

    pub listed_drop : (start count gone : ℕ) → start < n → count ≤ n → gone ≤ 1 → gone ≤ count → entries blank n (wrap n (start + gone)) (count - gone) vs ps ≡ drop gone (entries blank n start count vs ps)
    unfolding entries
    listed_drop start count zero h k g m = rw (add-zero, wrap_low n start h, sub-zero)
    listed_drop start zero (suc gone) h k g m = absurd (omega arith)
    listed_drop start (suc count) (suc gone) h k g m =
        let z : gone ≡ 0 = omega arith in let o : suc count - 1 ≡ count = omega arith in rw (z, o) (sym (ring_drop n start (cell_at blank vs ps) count h k))

    pub listed_take : (start count kept : ℕ) → kept ≤ count → take kept (entries blank n start count vs ps) ≡ entries blank n start kept vs ps
    unfolding entries
    listed_take start count kept i = ring_take n start (cell_at blank vs ps) count kept i

    pub first_position : (start count : ℕ) → start < n → (get_or (entries blank n start count vs ps) 0 (record { value = blank; position = get_or ps start 0 })).position ≡ get_or ps start 0
    unfolding entries ring
    first_position start zero h = refl
    first_position start (suc count) h = ap (λ j. get_or ps j 0) (ap (wrap n) (add-zero start) ∙ wrap_low n start h)

    -- the oldest goes if it is too old
    pub listed_ages : (w t start count gone : ℕ) → start < n → 0 < w → count ≤ w → w ≤ n → gone ≡ goes_of w t count (get_or ps start 0)
        → entries blank n (wrap n (start + gone)) (count - gone) vs ps ≡ roomed w t (entries blank n start count vs ps)
    listed_ages w t start count gone h z k l e =
        let q = entries blank n start count vs ps in
        let d : Entry A = record { value = blank; position = get_or ps start 0 } in
        let (a, b, _) = goes_few w t count (get_or ps start 0) z k in
        let f : gone ≡ goes_of w t (length q) (get_or q 0 d).position = rw (listed_length, first_position start count h) e in
        listed_drop start count gone h (omega arith) (omega arith) (omega arith) ∙ ap (λ g. drop g q) f ∙ goes_roomed w t q d

    -- what a step leaves before it pushes: p are popped, then `gone` of the oldest go
    pub listed_stays : (w t start count p gone : ℕ) → start < n → 0 < w → count ≤ w → w ≤ n → p ≤ count → gone ≡ goes_of w t (count - p) (get_or ps start 0)
        → entries blank n (wrap n (start + gone)) (count - p - gone) vs ps ≡ roomed w t (take (count - p) (entries blank n start count vs ps))
    listed_stays w t start count p gone h z k l m e =
        listed_ages w t start (count - p) gone h z (omega arith) l e ∙ ap (roomed w t) (sym (listed_take start count (count - p) (omega arith)))

    -- one more at the place behind the last
    pub listed_push : (start count at : ℕ) (v : A) (t : ℕ) → start < n → count < n → n ≤ length vs → n ≤ length ps → at ≡ wrap n (start + count) → at < n
        → entries blank n start (count + 1) (set vs at v) (set ps at t) ≡ entries blank n start count vs ps ++ (record { value = v; position = t } ∷ [])
    unfolding entries
    listed_push start count at v t h k l m e i =
        let other = cell_at blank (set vs at v) (set ps at t) in
        let p = ring_push n start (cell_at blank vs ps) other count h k (λ j a b. let b' : j ≢ at = rw e b in rw (get_or-set_other vs at j v blank b', get_or-set_other ps at j t 0 b')) in
        let f : other at ≡ record { value = v; position = t } = rw (get_or-set_same vs at v blank (omega arith), get_or-set_same ps at t 0 (omega arith)) in
        rw add-one (p ∙ ap (λ r. ring n start count (cell_at blank vs ps) ++ (r ∷ [])) (ap other (sym e) ∙ f))

  -- ---- the popping loop, which reads values alone: so many entries are left, whatever the positions are

  module _ (f : A → Bool) (blank : A) (n start count : ℕ) (vs : List A) where
    unfoldable pub Left : ℕ → Type 0
    Left left = (ps : List ℕ) → Popping f (entries blank n start count vs ps) left (count - left)

    pub left_all : Left count
    unfolding Left
    left_all ps =
        let z : count - count ≡ 0 = omega arith in
        rw z (subst (λ m. Popping f (entries blank n start count vs ps) m 0) (listed_length blank n vs ps start count) (pop_start f (entries blank n start count vs ps)))

    pub left_none : (left : ℕ) → left ≡ 0 → Left left → (ps : List ℕ) → count - left ≡ popped f (entries blank n start count vs ps)
    unfolding Left
    left_none left z g ps = sym (pop_end f (entries blank n start count vs ps) (count - left) (subst (λ m. Popping f (entries blank n start count vs ps) m (count - left)) z (g ps)))

    -- i is the place of the last that is left
    module _ (left i : ℕ) (h : 0 < left) (l : left ≤ count) (e : i ≡ wrap n (start + (left - 1))) (g : Left left) where
      last_value : (ps : List ℕ) → (get_or (entries blank n start count vs ps) (left - 1) (cell_at blank vs ps i)).value ≡ get_or vs i blank
      last_value ps = ap (λ r. r.value) (listed_at blank n vs ps start count (left - 1) i (cell_at blank vs ps i) (omega arith) (sym e))

      pub left_more : f (get_or vs i blank) ≡ true → Left (left - 1)
      unfolding Left
      left_more t ps =
          let m : count - (left - 1) ≡ count - left + 1 = omega arith in
          rw m (pop_more f (entries blank n start count vs ps) left (left - 1) (count - left) (cell_at blank vs ps i) (omega arith) (g ps) (ap f (last_value ps) ∙ t))

      pub left_stop : f (get_or vs i blank) ≡ false → (ps : List ℕ) → count - left ≡ popped f (entries blank n start count vs ps)
      unfolding Left
      left_stop t ps = sym (pop_stop f (entries blank n start count vs ps) left (left - 1) (count - left) (cell_at blank vs ps i) (omega arith) (g ps) (ap f (last_value ps) ∙ t))

-- ---- room for one more, from what the code finds on the way

module _ {A : Type 0} (K : Samples A) (kind : Kind) (w t : ℕ) (v : A) (vs : List A) (ps : List ℕ) (start count left gone behind more : ℕ) (a : start < length vs) (z : 0 < w) (b : count ≤ w)
    (c : w ≤ length vs) (e : count - left ≡ popped (K.passes kind v) (listed K vs ps start count)) (h : left ≤ count) (g : gone ≡ goes_of w t left (get_or ps start 0))
    (k : behind ≡ wrap (length vs) (start + left)) (o : more ≡ min 1 left) where
  room_found : (first : ℕ) → first ≡ wrap (length vs) (start + gone) → Roomed K kind w t v vs ps start count (record { start = first; count = left - gone; at = behind; comparisons = count - left + more })
  unfolding step_cost
  room_found first f =
      let s : count - (count - left) ≡ left = omega arith in
      let (one, some, few) = goes_few w t left (get_or ps start 0) z (omega arith) in
      let n : start + gone + (left - gone) ≡ start + left = omega arith in
      let g' : gone ≡ goes_of w t (count - (count - left)) (get_or ps start 0) = rw s g in
      record {
        below = rw f (wrap_lt (length vs) (start + gone) (omega arith));
        fits = omega arith;
        behind = k ∙ ap (wrap (length vs)) (sym n) ∙ sym (wrap_add (length vs) (start + gone) (left - gone) (omega arith)) ∙ ap (λ j. wrap (length vs) (j + (left - gone))) (sym f);
        inside = rw k (wrap_lt (length vs) (start + left) (omega arith));
        stays = rw (f, ← e, s) (rw s at (listed_stays K.order.blank (length vs) vs ps w t start count (count - left) gone a z b c (omega arith) g'));
        counted = rw (listed_length, ← e, s, o);
        few = omega arith;
      }

  -- none of the oldest goes
  pub room_kept : gone ≡ 0 → Roomed K kind w t v vs ps start count (record { start = start; count = left; at = behind; comparisons = count - left + more })
  room_kept y =
      let s : start + gone ≡ start = omega arith in
      let l : left - gone ≡ left = omega arith in
      rw l at (room_found start (rw s (sym (wrap_low (length vs) start a))))

  -- one goes
  pub room_aged : (first : ℕ) → gone ≢ 0 → gone ≤ 1 → first ≡ wrap (length vs) (start + 1) → Roomed K kind w t v vs ps start count (record { start = first; count = left - 1; at = behind; comparisons = count - left + more })
  room_aged first y m f = let u : gone ≡ 1 = omega arith in rw u at (room_found first (rw u f))

-- storing the new entry at the room's place makes the next queue
pub room_stored : {A : Type 0} (K : Samples A) (kind : Kind) (w t : ℕ) (v : A) (vs : List A) (ps : List ℕ) (start count : ℕ) (r : Room) → Roomed K kind w t v vs ps start count r
    → w ≤ length vs → length ps ≡ length vs
    → listed K (set vs r.at v) (set ps r.at t) r.start (r.count + 1) ≡ stepped (K.passes kind v) w t v (listed K vs ps start count)
unfolding stepped
room_stored K kind w t v vs ps start count r h l e =
    let z : length (set vs r.at v) ≡ length vs = simp length-set in
    rw (z, listed_push K.order.blank (length vs) vs ps r.start r.count r.at v t h.below (omega (arith, h.fits)) (omega arith) (omega arith) h.behind h.inside)
    (rw listed_length (ap (λ q. q ++ (record { value = v; position = t } ∷ [])) h.stays))
