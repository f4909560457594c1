-- Inner: only contracts of inner functions, and proofs, cite what stands here; no promise of a public call is made of it.
-- A queue's step as it is done, on any contents: the entries at the tail that the new value equals or passes go, then the oldest if it is too old, then the new value
-- comes last. On the queue of a run this is the next queue of the line, and the count is document 01's (proofs/Step.antt).
use Rattle.std.specs.Prelude.{Bool, cond, List, [], ◌∷◌, ◌++◌, ℕ, suc, ◌+◌, ◌-◌, ◌%◌, min, leb, eqb, length, take, drop}
use Rattle.morph.specs.Line.{Entry, aged}

module _ {A : Type 0} where
  -- how many entries at the tail, one after another, have a value of which the test holds
  abbrev pub popped : (A → Bool) → List (Entry A) → ℕ
  popped f [] = 0
  popped f (e ∷ q) = cond (eqb (popped f q) (length q)) (popped f q + cond (f e.value) 1 0) (popped f q)

  -- at step t the oldest goes where it is too old; and also where the queue fills its w places and nothing has grown too old, as no run leaves it
  unfoldable pub roomed : ℕ → ℕ → List (Entry A) → List (Entry A)
  roomed w t q = cond (leb w (length q)) (drop 1 q) (aged (suc t - w) q)

  -- the step that reads v at position t, the test telling which values v equals or passes
  unfoldable pub stepped : (A → Bool) → ℕ → ℕ → A → List (Entry A) → List (Entry A)
  stepped f w t v q = roomed w t (take (length q - popped f q) q) ++ (record { value = v; position = t } ∷ [])

  -- its comparisons
  unfoldable pub step_cost : (A → Bool) → List (Entry A) → ℕ
  step_cost f q = popped f q + min 1 (length q - popped f q)

  -- ---- the same in lent cells, which keep the remainders of row numbers (specs/Cell.antt)

  -- how many of the oldest go at step t: an entry leaves the window w steps after its own, so the oldest goes where it keeps the remainder of t - w
  unfoldable pub cells_go : ℕ → ℕ → List (Entry A) → ℕ
  cells_go w t [] = 0
  cells_go w t (e ∷ q) = cond (leb w (length (e ∷ q))) 1 (cond (eqb e.position ((t + 128 - w) % 128)) 1 0)

  unfoldable pub cells_roomed : ℕ → ℕ → List (Entry A) → List (Entry A)
  cells_roomed w t q = drop (cells_go w t q) q

  -- Read after the step these are `roomed` and `stepped` of the queue as it is read before it, where each entry is of the last w steps (proofs/Cell.antt).
  unfoldable pub cells_stepped : (A → Bool) → ℕ → ℕ → A → List (Entry A) → List (Entry A)
  cells_stepped f w t v q = cells_roomed w t (take (length q - popped f q) q) ++ (record { value = v; position = t % 128 } ∷ [])
