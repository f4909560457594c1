-- Inner: only contracts of inner functions, and proofs, cite what stands here; no promise of a public call is made of it.
-- What the code of a queue finds and leaves, in the words of crate morph. A queue stands in `length vs` places, the values vs beside the positions ps, from `start` on.
use Rattle.std.specs.Prelude.{◌≡◌, cond, List, ℕ, ◌+◌, ◌-◌, ◌%◌, ◌≤◌, ◌<◌, leb, eqb, length, take}
use Rattle.morph.specs.declared.Kind.{Kind}
use Rattle.morph.specs.Ring.{wrap}
use Rattle.morph.specs.Inner.{popped, roomed, step_cost, cells_stepped}
use Rattle.sample.specs.Samples.{Samples}
use Rattle.queue.specs.declared.Room.{Room}
use Rattle.queue.specs.declared.Ends.{Ends}
use Rattle.queue.specs.Queue.{listed}

-- How many of `count` entries go at step t, the oldest of them standing at `position`: `goes_roomed` proves that this is what `roomed` drops.
unfoldable pub goes_of : ℕ → ℕ → ℕ → ℕ → ℕ
goes_of w t count position = cond (eqb count 0) 0 (cond (leb w count) 1 (cond (leb (position + w) t) 1 0))

-- The same where the oldest's cell keeps the remainder r: `go_cells` proves that this is `cells_go`.
unfoldable pub cell_goes_of : ℕ → ℕ → ℕ → ℕ → ℕ
cell_goes_of w t count r = cond (eqb count 0) 0 (cond (leb w count) 1 (cond (eqb r ((t + 128 - w) % 128)) 1 0))

module _ {A : Type 0} (K : Samples A) where
  -- Room for v at step t: what stays, the place behind it, and document 01's comparisons.
  pub record Roomed (kind : Kind) (w t : ℕ) (v : A) (vs : List A) (ps : List ℕ) (start count : ℕ) (r : Room) : Type 0 where
    pub below : r.start < length vs
    pub fits : r.count < w
    pub behind : r.at ≡ wrap (length vs) (r.start + r.count)
    pub inside : r.at < length vs
    pub stays :
        listed K vs ps r.start r.count ≡ roomed w t (take (count - popped (K.passes kind v) (listed K vs ps start count)) (listed K vs ps start count))
    pub counted : r.comparisons ≡ step_cost (K.passes kind v) (listed K vs ps start count)
    pub few : r.comparisons ≤ w

  -- The queue at its next step, in lent cells that are its window: the new queue, document 01's comparisons, and records that the next step takes.
  pub record CellPushed (kind : Kind) (t : ℕ) (v : A) (vs : List A) (ps : List ℕ) (start count : ℕ) (vs' : List A) (ps' : List ℕ) (r : Ends) : Type 0 where
    pub below : r.start < length vs
    pub fits : r.count ≤ length vs
    pub values_long : length vs' ≡ length vs
    pub positions_long : length ps' ≡ length ps
    pub next : listed K vs' ps' r.start r.count ≡ cells_stepped (K.passes kind v) (length vs) t v (listed K vs ps start count)
    pub counted : r.comparisons ≡ step_cost (K.passes kind v) (listed K vs ps start count)
    pub few : r.comparisons ≤ length vs
