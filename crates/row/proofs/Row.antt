-- From one step of a row to the next. By which idea: the answer of step t is the front of the queue after it (`output_front`), and it goes where a pixel was read before.
use Rattle.std.proofs.Common.{◌≡◌, refl, sym, ap, ◌∙◌, List, [], ◌∷◌, ◌++◌, append_assoc, append-nil, ℕ, suc, ◌+◌, ◌-◌, ◌≤◌, ◌<◌, add-zero, add-one, arith, leb-true, leb-false, leb, length, take, drop, get_or, set, length-take, length-set, take-suc, drop-cons, get_or-append-add, get_or-drop, take_all}
use Rattle.std.proofs.lemmas.List.{set_at}
use Rattle.std.proofs.Math.Nat.{zero-sub}
use Rattle.std.proofs.Math.Seq.{drop-length}
use Rattle.morph.specs.declared.Kind.{Kind}
use Rattle.morph.specs.Order.{Order, order_of}
use Rattle.morph.specs.Line.{filter_line, best_at, queue, front, line_cost, line_costs}
use Rattle.morph.specs.Inner.{roomed, stepped, step_cost}
use Rattle.morph.specs.Ring.{wrap}
use Rattle.morph.proofs.Lists.{split}
use Rattle.morph.proofs.Line.{queue_start, queue_some, length_line, line_at, output_front, cost_drain}
use Rattle.morph.proofs.Ring.{wrap_add}
use Rattle.morph.proofs.Step.{step_drain}
use Rattle.sample.specs.Samples.{Samples}
use Rattle.queue.specs.Queue.{listed}
use Rattle.queue.specs.Inner.{goes_of, Roomed}
use Rattle.queue.specs.declared.Room.{Room}
use Rattle.queue.proofs.Steps.{next_queue, next_cost}
use Rattle.queue.proofs.Laws.{listed_none, listed_length, listed_front, listed_ages, room_stored}
use Rattle.row.specs.Inner.{answer_put, Good, Read, Across, Drained}

-- ---- the answers in their places

module _ {A : Type 0} (F R : List A) (e : length F ≡ length R) (ahead t : ℕ) where
  -- F's first answers before what is left of R
  unfoldable pub mixed : ℕ → List A
  mixed k = take k F ++ drop k R

  mixed_next : (k : ℕ) (d v : A) → k < length R → v ≡ get_or F k d → set (mixed k) k v ≡ mixed (suc k)
  unfolding mixed
  mixed_next k d v h p =
      rw (drop-cons R k d, set_at (take k F) _ _ v k (rw length-take (omega arith)), take-suc F k d (omega arith), p) (sym (append_assoc (take k F) (get_or F k d ∷ []) (drop (suc k) R)))

  -- what is left of R is as it was
  mixed_at : (k i : ℕ) (d : A) → k ≤ i → k ≤ length R → get_or (mixed k) i d ≡ get_or R i d
  unfolding mixed
  mixed_at k i d h l =
      let z : length (take k F) ≡ k = rw length-take (omega arith) in
      let s : length (take k F) + (i - k) ≡ i = omega arith in
      let g = get_or-append-add (take k F) (drop k R) (i - k) d in
      ap (λ j. get_or (take k F ++ drop k R) j d) (sym s) ∙ g ∙ get_or-drop k R (i - k) d ∙ ap (λ j. get_or R j d) (omega arith)

  pub answered_next : (d v : A) → t < length R + ahead → (ahead ≤ t → v ≡ get_or F (t - ahead) d) → answer_put ahead t v (mixed (t - ahead)) ≡ mixed (t + 1 - ahead)
  unfolding answer_put
  answered_next d v h p =
      split (leb ahead t)
      (λ b. let l = leb-true ahead t b in let s : t + 1 - ahead ≡ suc (t - ahead) = omega arith in rw (b, s) (mixed_next (t - ahead) d v (omega arith) (p l)))
      (λ b. let l = leb-false ahead t b in let s : t + 1 - ahead ≡ t - ahead = omega arith in rw (b, s))

-- ---- the steps

module _ {A : Type 0} (K : Samples A) (kind : Kind) (back ahead : ℕ) (row : List A) where
  abbrev O : Order A
  O = order_of kind K.order

  abbrev w : ℕ
  w = back + ahead + 1

  -- a step that reads takes the queue, and its comparisons, one step on
  pub queue_next : Good K kind back ahead row → (t : ℕ) (v : A) (vs : List A) (ps : List ℕ) (start count : ℕ) (r : Room) → t < length row → v ≡ get_or row t K.order.blank
      → w ≤ length vs → length ps ≡ length vs → listed K vs ps start count ≡ queue O w row t → Roomed K kind w t v vs ps start count r
      → (listed K (set vs r.at v) (set ps r.at t) r.start (r.count + 1) ≡ queue O w row (suc t)) × (r.comparisons ≡ line_cost O w row t)
  queue_next g t v vs ps start count r l e n m q h = (
    room_stored K kind w t v vs ps start count r h n m ∙ ap (stepped (K.passes kind v) w t v) q ∙ next_queue K kind row g w t v l e (omega arith),
    h.counted ∙ ap (step_cost (K.passes kind v)) q ∙ next_cost K kind row g w t v l e,
  )

  -- and so does one that drains
  pub queue_drained : (t : ℕ) (vs : List A) (ps : List ℕ) (start count gone : ℕ) → length row ≤ t → start < length vs → count ≤ w → w ≤ length vs
      → gone ≡ goes_of w t count (get_or ps start 0) → listed K vs ps start count ≡ queue O w row t
      → listed K vs ps (wrap (length vs) (start + gone)) (count - gone) ≡ queue O w row (suc t)
  queue_drained t vs ps start count gone l s c n e q =
      listed_ages K.order.blank (length vs) vs ps w t start count gone s (omega arith) c n e ∙ ap (roomed w t) q ∙ step_drain O w row t (omega arith) l

  -- the value that the code takes from the queue's start is the answer of step t
  pub front_answer : (t start count : ℕ) (vs : List A) (ps : List ℕ) → t < length row + ahead → start < length vs → listed K vs ps start count ≡ queue O w row (suc t)
      → ahead ≤ t → get_or vs start K.order.blank ≡ best_at O back ahead row (t - ahead)
  front_answer t start count vs ps h l e a =
      let s : t - ahead + ahead + 1 ≡ suc t = omega arith in
      let c : 0 < count = omega (arith, listed_length K.order.blank (length vs) vs ps start count, ap length e, queue_some O w row (suc t) (omega arith) (omega arith) (omega arith)) in
      sym (output_front O back ahead row (t - ahead) ∙ ap (λ k. front O (queue O w row k)) s ∙ ap (front O) (sym e) ∙ listed_front K.order.blank (length vs) vs ps O start count l c)

  costs_more : (t c d : ℕ) → c ≡ line_costs O w row t → d ≡ line_cost O w row t → c + d ≡ line_costs O w row (t + 1)
  costs_more t c d p q = rw (add-one t, p, q)

  pub read_first : (vs : List A) (ps : List ℕ) → length vs ≡ 63 → length ps ≡ 63 → Read K kind back ahead row 0 row vs ps 0 0 0
  read_first vs ps a b = record {
    below = omega arith;
    fits = omega arith;
    values_long = a;
    positions_long = b;
    long = refl;
    few = omega arith;
    written = λ g. rw zero-sub;
    queued = λ g. listed_none K.order.blank (length vs) vs ps 0 ∙ sym (queue_start O w row 0 refl);
    counted = λ g. refl;
  }

  module _ (t : ℕ) (row' : List A) (vs : List A) (ps : List ℕ) (start count c : ℕ) (h : Read K kind back ahead row t row' vs ps start count c) where
    -- the row after step t, whose answer is x
    row_next : (x : A) (vs' : List A) (ps' : List ℕ) (start' count' : ℕ) → Good K kind back ahead row → t < length row + ahead → start' < length vs'
        → listed K vs' ps' start' count' ≡ queue O w row (suc t) → x ≡ get_or vs' start' K.order.blank
        → answer_put ahead t x row' ≡ take (t + 1 - ahead) (filter_line O back ahead row) ++ drop (t + 1 - ahead) row
    unfolding mixed
    row_next x vs' ps' start' count' g l s q e =
        ap (answer_put ahead t x) (h.written g)
        ∙ answered_next (filter_line O back ahead row) row (length_line O back ahead row) ahead t K.order.blank x l (λ a. e ∙ front_answer t start' count' vs' ps' l s q a ∙ sym (line_at O back ahead row (t - ahead) K.order.blank (omega arith)))

    answered_long : (x : A) → length (answer_put ahead t x row') ≡ length row
    unfolding answer_put
    answered_long x = split (leb ahead t) (λ b. rw (b, length-set) h.long) (λ b. rw b h.long)

    -- what is left of the row is as it was
    left_at : Good K kind back ahead row → t < length row → get_or row' t K.order.blank ≡ get_or row t K.order.blank
    unfolding mixed
    left_at g l =
        ap (λ r. get_or r t K.order.blank) (h.written g)
        ∙ mixed_at (filter_line O back ahead row) row (length_line O back ahead row) ahead t (t - ahead) t K.order.blank (omega arith) (omega arith)

    -- a step that reads
    pub read_next : (v x : A) (r : Room) → t < length row → back ≤ 31 → ahead ≤ 31 → v ≡ get_or row' t K.order.blank → Roomed K kind w t v vs ps start count r
        → x ≡ get_or (set vs r.at v) r.start K.order.blank
        → Read K kind back ahead row (t + 1) (answer_put ahead t x row') (set vs r.at v) (set ps r.at t) r.start (r.count + 1) (c + r.comparisons)
    read_next v x r l b a e m y =
        let z : length vs ≡ 63 = h.values_long in
        let z' : length (set vs r.at v) ≡ length vs = simp length-set in
        let next : Good K kind back ahead row → (listed K (set vs r.at v) (set ps r.at t) r.start (r.count + 1) ≡ queue O w row (suc t)) × (r.comparisons ≡ line_cost O w row t) =
        λ g. queue_next g t v vs ps start count r l (e ∙ left_at g l) (omega arith) (h.positions_long ∙ sym z) (h.queued g) m in
        record {
          below = omega (arith, m.below);
          fits = omega (arith, m.fits);
          values_long = rw length-set z;
          positions_long = rw length-set h.positions_long;
          long = answered_long x;
          few = omega (arith, m.few, h.few);
          written = λ g. row_next x (set vs r.at v) (set ps r.at t) r.start (r.count + 1) g (omega arith) (rw z' m.below) (next g).0 y;
          queued = λ g. (next g).0 ∙ ap (queue O w row) (sym (add-one t));
          counted = λ g. costs_more t c r.comparisons (h.counted g) (next g).1;
        }

    -- a step that drains
    pub drain_next : (x : A) (gone start' : ℕ) → length row ≤ t → t < length row + ahead → back ≤ 31 → ahead ≤ 31 → gone ≡ goes_of w t count (get_or ps start 0)
        → start' ≡ wrap 63 (start + gone) → start' < 63 → x ≡ get_or vs start' K.order.blank
        → Read K kind back ahead row (t + 1) (answer_put ahead t x row') vs ps start' (count - gone) c
    drain_next x gone start' l k b a e s s' y =
        let z : length vs ≡ 63 = h.values_long in
        let f = h.fits in
        let i : start' ≡ wrap (length vs) (start + gone) = rw z s in
        let next : Good K kind back ahead row → listed K vs ps start' (count - gone) ≡ queue O w row (suc t) =
        λ g. ap (λ j. listed K vs ps j (count - gone)) i ∙ queue_drained t vs ps start count gone l (omega (arith, h.below)) f (omega arith) e (h.queued g) in
        record {
          below = s';
          fits = omega arith;
          values_long = z;
          positions_long = h.positions_long;
          long = answered_long x;
          few = omega (arith, h.few);
          written = λ g. row_next x vs ps start' (count - gone) g k (omega arith) (next g) y;
          queued = λ g. next g ∙ ap (queue O w row) (sym (add-one t));
          counted = λ g. add_zero_cost (h.counted g);
        }
      where
        add_zero_cost : c ≡ line_costs O w row t → c ≡ line_costs O w row (t + 1)
        add_zero_cost q = sym (add-zero c) ∙ costs_more t c 0 q (sym (cost_drain O w row t l))

  -- the last step leaves the whole answer
  pub read_last : (n c : ℕ) (row' row'' : List A) (vs vs' : List A) (ps ps' : List ℕ) (start start' count count' c' : ℕ) → n ≡ length row
      → Read K kind back ahead row n row' vs ps start count c → Read K kind back ahead row (n + ahead) row'' vs' ps' start' count' c' → Across K kind back ahead row row'' c
  read_last n c row' row'' vs vs' ps ps' start start' count count' c' e h k = record {
    long = k.long;
    few = rw (← e) h.few;
    filtered = λ g. k.written g ∙ whole (k.written g);
    counted = λ g. rw (← e) (h.counted g);
  }
    where
      whole : row'' ≡ take (n + ahead - ahead) (filter_line O back ahead row) ++ drop (n + ahead - ahead) row → take (n + ahead - ahead) (filter_line O back ahead row) ++ drop (n + ahead - ahead) row ≡ filter_line O back ahead row
      whole _ =
          let s : n + ahead - ahead ≡ length row = omega arith in
          rw (s, drop-length, append-nil, take_all (length row) (filter_line O back ahead row) (omega (arith, length_line O back ahead row)))

-- ---- draining, whatever row was read

module _ {A : Type 0} (K : Samples A) (back ahead : ℕ) (row' : List A) (vs : List A) (ps : List ℕ) (start count : ℕ) where
  -- what holds at step t, beside what the loop needs to be safe
  pub record Draining (row'' : List A) (start' count' t : ℕ) : Type 0 where
    pub below : start' < 63
    pub fits : count' ≤ back + ahead + 1
    pub long : length row'' ≡ length row'
    pub reads : (kind : Kind) (row : List A) (c : ℕ) → Read K kind back ahead row (length row) row' vs ps start count c → Read K kind back ahead row t row'' vs ps start' count' c

  pub drain_first : start < 63 → count ≤ back + ahead + 1 → Draining row' start count (length row')
  drain_first b f = record { below = b; fits = f; long = refl; reads = λ kind row c h. rw h.long h }

  pub drain_step : (row'' : List A) (start' count' t : ℕ) → Draining row'' start' count' t → (x : A) (gone next : ℕ) → length row' ≤ t → t < length row' + ahead → back ≤ 31 → ahead ≤ 31
      → gone ≡ goes_of (back + ahead + 1) t count' (get_or ps start' 0) → gone ≤ count' → next ≡ wrap 63 (start' + gone) → next < 63 → x ≡ get_or vs next K.order.blank
      → Draining (answer_put ahead t x row'') next (count' - gone) (t + 1)
  unfolding answer_put
  drain_step row'' start' count' t h x gone next l k b a e m s s' y = record {
    below = s';
    fits = omega (arith, h.fits);
    long = split (leb ahead t) (λ p. rw (p, length-set) h.long) (λ p. rw p h.long);
    reads = λ kind row c r.
        drain_next K kind back ahead row t row'' vs ps start' count' c (h.reads kind row c r) x gone next (omega (arith, r.long)) (omega (arith, r.long)) b a e s s' y;
  }

  pub drain_last : (row'' : List A) (start' count' t : ℕ) → t ≡ length row' + ahead → Draining row'' start' count' t → Drained K back ahead row' vs ps start count row''
  drain_last row'' start' count' t e h = (
    h.long,
    λ kind row c r.
        let l : length row + ahead ≡ t = omega (arith, r.long) in
        read_last K kind back ahead row (length row) c row' row'' vs vs ps ps start start' count count' c refl r (rw l (h.reads kind row c r)),
  )

-- ---- the place behind the last, which the loop carries along

pub behind_next : (n : ℕ) (r : Room) → r.at ≡ wrap n (r.start + r.count) → r.start < n → r.count < n → wrap n (r.at + 1) ≡ wrap n (r.start + (r.count + 1))
behind_next n r e h k =
    let s : r.start + r.count + 1 ≡ r.start + (r.count + 1) = omega arith in ap (λ j. wrap n (j + 1)) e ∙ wrap_add n (r.start + r.count) 1 (omega arith) ∙ ap (wrap n) s
