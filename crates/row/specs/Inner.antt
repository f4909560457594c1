-- Inner: only contracts of inner functions, and proofs, cite what stands here; no promise of a public call is made of it.
-- A row filtered in place: what stands in it and in its queue on the way, and at the end. Over a kind of samples K; a row's promise holds where its pixels are accepted ones.
use Rattle.std.specs.Prelude.{◌≡◌, true, cond, List, ◌++◌, ℕ, ◌+◌, ◌-◌, ◌*◌, ◌≤◌, ◌<◌, leb, length, take, drop, set}
use Rattle.morph.specs.declared.Kind.{Kind}
use Rattle.morph.specs.Order.{order_of}
use Rattle.morph.specs.Lists.{Each}
use Rattle.morph.specs.Line.{filter_line, queue, line_costs}
use Rattle.morph.specs.Origin.{positions_line}
use Rattle.sample.specs.Samples.{Samples}
use Rattle.queue.specs.Queue.{listed}

-- the answer v of step t in its place, if step t has one
unfoldable pub answer_put : {A : Type 0} → ℕ → ℕ → A → List A → List A
answer_put ahead t v row = cond (leb ahead t) (set row (t - ahead) v) row

module _ {A : Type 0} (K : Samples A) (kind : Kind) (back ahead : ℕ) (row : List A) where
  -- each pixel is one that is accepted
  abbrev pub Good : Type 0
  Good = Each (λ a. K.good a ≡ true) row

  -- After t steps over `row`: the answers so far stand in its place before the pixels that are left, the queue is document 01's, and the comparisons are its count.
  pub record Read (t : ℕ) (row' : List A) (vs : List A) (ps : List ℕ) (start count comparisons : ℕ) : Type 0 where
    pub below : start < 63
    pub fits : count ≤ back + ahead + 1
    pub values_long : length vs ≡ 63
    pub positions_long : length ps ≡ 63
    pub long : length row' ≡ length row
    pub few : comparisons ≤ t * 63
    pub written : Good → row' ≡ take (t - ahead) (filter_line (order_of kind K.order) back ahead row) ++ drop (t - ahead) row
    pub queued : Good → listed K vs ps start count ≡ queue (order_of kind K.order) (back + ahead + 1) row t
    pub counted : Good → comparisons ≡ line_costs (order_of kind K.order) (back + ahead + 1) row t

  -- The whole row: each pixel is the greatest, in the kind's order, under the cut window, and the comparisons are document 01's.
  pub record Across (row' : List A) (comparisons : ℕ) : Type 0 where
    pub long : length row' ≡ length row
    pub few : comparisons ≤ length row * 63
    pub filtered : Good → row' ≡ filter_line (order_of kind K.order) back ahead row
    pub counted : Good → comparisons ≡ line_costs (order_of kind K.order) (back + ahead + 1) row (length row)

  -- ---- with the position that gave each answer

  -- After t steps: beside the row, where each answer so far came from stands before what the row of positions held.
  pub record ReadOrigins (columns : List ℕ) (t : ℕ) (row' : List A) (columns' : List ℕ) (vs : List A) (ps : List ℕ) (start count comparisons : ℕ) : Type 0 where
    pub read : Read t row' vs ps start count comparisons
    pub columns_long : length columns' ≡ length columns
    pub given : Good → columns' ≡ take (t - ahead) (positions_line (order_of kind K.order) back ahead row) ++ drop (t - ahead) columns

  -- The whole row, and the latest column of each pixel's window that gave it.
  pub record AcrossOrigins (columns : List ℕ) (row' : List A) (columns' : List ℕ) (comparisons : ℕ) : Type 0 where
    pub across : Across row' comparisons
    pub columns_long : length columns' ≡ length columns
    pub given : Good → columns' ≡ positions_line (order_of kind K.order) back ahead row

-- Draining, from where reading every pixel of some row left the answers and the queue, gives that row's whole answer.
abbrev pub Drained : {A : Type 0} (K : Samples A) → ℕ → ℕ → List A → List A → List ℕ → ℕ → ℕ → List A → Type 0
Drained {A} K back ahead row' vs ps start count row'' =
    (length row'' ≡ length row')
    × ((kind : Kind) (row : List A) (comparisons : ℕ) → Read K kind back ahead row (length row) row' vs ps start count comparisons → Across K kind back ahead row row'' comparisons)

-- The same with the positions.
abbrev pub DrainedOrigins : {A : Type 0} (K : Samples A) → ℕ → ℕ → List A → List ℕ → List A → List ℕ → ℕ → ℕ → List A → List ℕ → Type 0
DrainedOrigins {A} K back ahead row' columns' vs ps start count row'' columns'' =
    (length row'' ≡ length row') × (length columns'' ≡ length columns')
    × ((kind : Kind) (row : List A) (columns : List ℕ) (comparisons : ℕ) → length columns ≡ length row → ReadOrigins K kind back ahead row columns (length row) row' columns' vs ps start count comparisons
    → AcrossOrigins K kind back ahead row columns row'' columns'' comparisons)
