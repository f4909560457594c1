-- The positions beside a row, from one step to the next. By which idea: the front of the queue after step t has the position that gave the answer of step t (`answer_front`), and positions are put
-- in their places as answers are (`answered_next`).
use Rattle.std.proofs.Common.{◌≡◌, refl, sym, ap, ◌∙◌, List, append-nil, ℕ, suc, ◌+◌, ◌-◌, ◌≤◌, ◌<◌, add-zero, add-one, arith, leb, length, get_or, length-set, take_all}
use Rattle.std.proofs.Math.Nat.{zero-sub}
use Rattle.std.proofs.Math.Seq.{drop-length}
use Rattle.morph.specs.declared.Kind.{Kind}
use Rattle.morph.specs.Order.{Order, order_of}
use Rattle.morph.specs.Line.{Entry, filter_line, queue}
use Rattle.morph.specs.Ring.{wrap, cell_at}
use Rattle.morph.specs.Origin.{by_value, answer_at, LatestEntry, positions_line}
use Rattle.morph.proofs.Lists.{split, length_tabulate, get_d_tabulate}
use Rattle.morph.proofs.Line.{queue_some, line_at}
use Rattle.morph.proofs.Ring.{wrap_low}
use Rattle.morph.proofs.Origin.{answer_front, answer_value, answer_latest}
use Rattle.sample.specs.Samples.{Samples}
use Rattle.queue.specs.Queue.{listed}
use Rattle.queue.specs.Inner.{goes_of}
use Rattle.queue.proofs.Laws.{listed_length, listed_at}
use Rattle.row.specs.Inner.{answer_put, Read, ReadOrigins, Across, AcrossOrigins, DrainedOrigins}
use Rattle.row.proofs.Row.{mixed, answered_next, Draining, drain_first, drain_step, drain_last}

-- ---- one step

pub answer_long : {A : Type 0} (ahead t : ℕ) (x : A) (row : List A) → length (answer_put ahead t x row) ≡ length row
unfolding answer_put
answer_long ahead t x row = split (leb ahead t) (λ b. rw (b, length-set)) (λ b. rw b)

module _ {A : Type 0} (K : Samples A) (kind : Kind) (back ahead : ℕ) (row : List A) where
  abbrev O : Order A
  O = order_of kind K.order

  abbrev w : ℕ
  w = back + ahead + 1

  positions_long : length (positions_line O back ahead row) ≡ length row
  unfolding positions_line
  positions_long = length_tabulate (length row) (λ x. (answer_at O back ahead row x).position)

  positions_at : (x : ℕ) → x < length row → get_or (positions_line O back ahead row) x 0 ≡ (answer_at O back ahead row x).position
  unfolding positions_line
  positions_at x h = get_d_tabulate (length row) (λ y. (answer_at O back ahead row y).position) x 0 h

  -- each answer's position is the latest in its window that gave it
  pub positions_latest : (x : ℕ) → x < length row
      → LatestEntry O back ahead row x (record { value = get_or (filter_line O back ahead row) x O.blank; position = get_or (positions_line O back ahead row) x 0 })
  positions_latest x h =
      rw (line_at O back ahead row x O.blank h, ← answer_value O back ahead row x, positions_at x h) (answer_latest O back ahead row x h)

  -- the entry that the code takes from the queue's start is the answer of step t, with the position that gave it
  pub front_entry : (t start count : ℕ) (vs : List A) (ps : List ℕ) → t < length row + ahead → start < length vs → listed K vs ps start count ≡ queue O w row (suc t)
      → ahead ≤ t → cell_at K.order.blank vs ps start ≡ answer_at O back ahead row (t - ahead)
  front_entry t start count vs ps h l e a =
      let s : t - ahead + ahead + 1 ≡ suc t = omega arith in
      let c : 0 < count = omega (arith, listed_length K.order.blank (length vs) vs ps start count, ap length e, queue_some O w row (suc t) (omega arith) (omega arith) (omega arith)) in
      sym (listed_at K.order.blank (length vs) vs ps start count 0 start (by_value O).blank c (ap (wrap (length vs)) (add-zero start) ∙ wrap_low (length vs) start l))
      ∙ ap (λ q. get_or q 0 (by_value O).blank) e
      ∙ ap (λ k. get_or (queue O w row k) 0 (by_value O).blank) (sym s)
      ∙ answer_front O back ahead row (t - ahead)

  pub front_position : (t start count : ℕ) (vs : List A) (ps : List ℕ) → t < length row + ahead → start < length vs → listed K vs ps start count ≡ queue O w row (suc t)
      → ahead ≤ t → get_or ps start 0 ≡ (answer_at O back ahead row (t - ahead)).position
  front_position t start count vs ps h l e a = ap (λ (r : Entry A). r.position) (front_entry t start count vs ps h l e a)

  pub origins_first : (columns : List ℕ) (row' vs : List A) (ps : List ℕ) (start count c : ℕ) → Read K kind back ahead row 0 row' vs ps start count c
      → ReadOrigins K kind back ahead row columns 0 row' columns vs ps start count c
  origins_first columns row' vs ps start count c h = record { read = h; columns_long = refl; given = λ g. rw zero-sub }

  -- what step t does to the row of positions, whether it reads or drains
  pub origins_next : (columns columns' : List ℕ) (t : ℕ) (row' row'' vs vs' : List A) (ps ps' : List ℕ) (start start' count count' c c' : ℕ) → length columns ≡ length row → t < length row + ahead
      → ReadOrigins K kind back ahead row columns t row' columns' vs ps start count c → Read K kind back ahead row (t + 1) row'' vs' ps' start' count' c' → (x : ℕ) → x ≡ get_or ps' start' 0
      → ReadOrigins K kind back ahead row columns (t + 1) row'' (answer_put ahead t x columns') vs' ps' start' count' c'
  unfolding mixed
  origins_next columns columns' t row' row'' vs vs' ps ps' start start' count count' c c' n l h k x e = record {
    read = k;
    columns_long = answer_long ahead t x columns' ∙ h.columns_long;
    given = λ g.
        ap (answer_put ahead t x) (h.given g)
        ∙ answered_next (positions_line O back ahead row) columns (positions_long ∙ sym n) ahead t 0 x (omega arith)
        (λ a. e ∙ front_position t start' count' vs' ps' l (omega (arith, k.below, k.values_long)) (k.queued g ∙ ap (queue O w row) (add-one t)) a
        ∙ sym (positions_at (t - ahead) (omega arith)));
  }

  -- the last step leaves all positions
  origins_last : (columns columns'' : List ℕ) (row'' vs : List A) (ps : List ℕ) (start count c c' : ℕ) → length columns ≡ length row → Across K kind back ahead row row'' c'
      → ReadOrigins K kind back ahead row columns (length row + ahead) row'' columns'' vs ps start count c → AcrossOrigins K kind back ahead row columns row'' columns'' c'
  origins_last columns columns'' row'' vs ps start count c c' n h k = record {
    across = h;
    columns_long = k.columns_long;
    given = λ g.
        let s : length row + ahead - ahead ≡ length columns = omega arith in
        k.given g ∙ rw (s, drop-length, append-nil, take_all (length columns) (positions_line O back ahead row) (omega (arith, positions_long)));
  }

-- ---- draining, whatever row was read

module _ {A : Type 0} (K : Samples A) (back ahead : ℕ) (row' : List A) (columns' : List ℕ) (vs : List A) (ps : List ℕ) (start count : ℕ) where
  -- what holds at step t, beside what the loop needs to be safe
  pub record DrainingOrigins (row'' : List A) (columns'' : List ℕ) (start' count' t : ℕ) : Type 0 where
    pub draining : Draining K back ahead row' vs ps start count row'' start' count' t
    pub columns_long : length columns'' ≡ length columns'
    pub origins : (kind : Kind) (row : List A) (columns : List ℕ) (c : ℕ) → length columns ≡ length row
        → ReadOrigins K kind back ahead row columns (length row) row' columns' vs ps start count c → ReadOrigins K kind back ahead row columns t row'' columns'' vs ps start' count' c

  pub drain_origins_step : (row'' : List A) (columns'' : List ℕ) (start' count' t : ℕ) → DrainingOrigins row'' columns'' start' count' t → (v : A) (x gone next : ℕ) → length row' ≤ t
      → t < length row' + ahead → back ≤ 31 → ahead ≤ 31 → gone ≡ goes_of (back + ahead + 1) t count' (get_or ps start' 0) → gone ≤ count' → next ≡ wrap 63 (start' + gone) → next < 63
      → v ≡ get_or vs next K.order.blank → x ≡ get_or ps next 0
      → DrainingOrigins (answer_put ahead t v row'') (answer_put ahead t x columns'') next (count' - gone) (t + 1)
  drain_origins_step row'' columns'' start' count' t h v x gone next l k b a e m s s' y z =
      let d = drain_step K back ahead row' vs ps start count row'' start' count' t h.draining v gone next l k b a e m s s' y in
      record {
        draining = d;
        columns_long = answer_long ahead t x columns'' ∙ h.columns_long;
        origins = λ kind row columns c n r.
            origins_next K kind back ahead row columns columns'' t row'' (answer_put ahead t v row'') vs vs ps ps start' next count' (count' - gone) c c n (omega (arith, r.read.long))
            (h.origins kind row columns c n r) (d.reads kind row c r.read) x z;
      }

  pub drain_origins_last : (row'' : List A) (columns'' : List ℕ) (start' count' t : ℕ) → t ≡ length row' + ahead → DrainingOrigins row'' columns'' start' count' t
      → DrainedOrigins K back ahead row' columns' vs ps start count row'' columns''
  drain_origins_last row'' columns'' start' count' t e h =
      let (long, whole) = drain_last K back ahead row' vs ps start count row'' start' count' t e h.draining in (
        long,
        h.columns_long,
        λ kind row columns c n r.
            let l : length row + ahead ≡ t = omega (arith, r.read.long) in
            origins_last K kind back ahead row columns columns'' row'' vs ps start' count' c c n (whole kind row c r.read) (rw l (h.origins kind row columns c n r)),
      )
