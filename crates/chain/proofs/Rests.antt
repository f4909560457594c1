-- What the memory holds after t steps rests on the first t rows. By which idea: the rows that a stage has made after t of its steps rest on the t rows that it has read.
use mathlib.Core.Path.{◌≡◌, sym, ap, ◌∙◌, subst}
use mathlib.Core.List.{List, [], ◌∷◌}
use Prim.Native.Nat.{ℕ, ◌+◌, ◌-◌, ◌≤◌, min}
use native.Mathlib.Omega.{arith}
use borrow.Author.Tests.{leb-true, leb-false}
use lib.Dec.{leb}
use lib.ListN.{length, take}
use lib.Seq.{take_all}
use Rattle.morph.specs.Picture.{Picture, apply_stage}
use Rattle.morph.specs.Plan.{column_queue}
use Rattle.morph.proofs.Lists.{split}
use Rattle.morph.proofs.Picture.{stage_prefix, stage_length}
use Rattle.morph.proofs.Plan.{column_prefix}
use Rattle.sample.specs.Samples.{Samples}
use Rattle.plan_record.specs.declared.Stage.{Stage}
use Rattle.plan_record.specs.Plan.{filter_of, below_of, cells_of}
use Rattle.memory.specs.Memory.{Memory, behind, Holds}

module _ {A : Type 0} (K : Samples A) (W : ℕ) where
  stage_rests : (s : Stage) (p q : Picture A) (t : ℕ) → take t p ≡ take t q
      → take (t - below_of s) (apply_stage (filter_of K.order s) p) ≡ take (t - below_of s) (apply_stage (filter_of K.order s) q)
  stage_rests s p q t e =
      let F = filter_of K.order s in
      let n = t - below_of s in
      split (leb (below_of s) t)
      (λ l.
      let m : t - below_of s + below_of s ≡ t = omega (arith, leb-true (below_of s) t l) in
      let i : take n (apply_stage F p) ≡ take n (apply_stage F (take t p)) = rw m at (stage_prefix F n p) in
      let j : take n (apply_stage F q) ≡ take n (apply_stage F (take t q)) = rw m at (stage_prefix F n q) in
      i ∙ ap (λ r. take n (apply_stage F r)) e ∙ sym j)
      (λ l. let z : t - below_of s ≡ 0 = omega (arith, leb-false (below_of s) t l) in rw z)

  -- while both have rows, of whatever height they are
  pub holds_prefix : (ss : List Stage) (p q : Picture A) (t : ℕ) (M : Memory A) → t ≤ length p → t ≤ length q → take t p ≡ take t q → Holds K ss W p t M → Holds K ss W q t M
  unfolding Holds
  holds_prefix [] p q t M a b e h = tt
  holds_prefix (s ∷ ss) p q t M a b e h =
      let F = filter_of K.order s in
      let m : min t (length p + below_of s) ≡ t = omega arith in
      let n : min t (length q + below_of s) ≡ t = omega arith in (
        λ x l. rw n ((rw m at (h.0 x l)) ∙ column_prefix F x p t ∙ ap (λ r. column_queue F x r t) e ∙ sym (column_prefix F x q t)),
        holds_prefix ss (apply_stage F p) (apply_stage F q) (t - below_of s) (behind (cells_of W s) W M) (rw stage_length (omega arith)) (rw stage_length (omega arith)) (stage_rests s p q t e) h.1,
      )

  -- pictures of the same height with the same first t rows
  pub holds_rests : (ss : List Stage) (p q : Picture A) (t : ℕ) (M : Memory A) → length p ≡ length q → take t p ≡ take t q → Holds K ss W p t M → Holds K ss W q t M
  holds_rests ss p q t M l e h =
      split (leb t (length p))
      (λ a. let b = leb-true t (length p) a in holds_prefix ss p q t M b (omega arith) e h)
      (λ a.
      let b = leb-false t (length p) a in
      let c : p ≡ q = sym (take_all t p (omega arith)) ∙ e ∙ take_all t q (omega arith) in
      subst (λ r. Holds K ss W r t M) c h)
