-- Laws of the view: what fits, which rows are there, and the part that they are.
use mathlib.Core.Path.{◌≡◌, refl, sym, ap, ◌∙◌}
use mathlib.Core.Bool.{Bool, true, false, not, ◌||◌, ◌&&◌, false≢true}
use mathlib.Core.List.{List, [], ◌∷◌}
use Prim.Native.Nat.{ℕ, zero, suc, ◌+◌, ◌-◌, ◌*◌, ◌≤◌, ◌<◌}
use native.Mathlib.Nat.{mul-le-mul_right, suc-sub-suc, sub-zero, zero-sub}
use native.Mathlib.Omega.{arith}
use borrow.Author.Tests.{leb-true, ltb-false, lt-ltb, ne_eqb, eq-eqb}
use lib.Dec.{leb, ltb}
use lib.ListN.{length, take, drop}
use lib.Seq.{slice, slice_empty, take-nil}
use Rattle.morph.specs.declared.refusal.Refusal.{Refusal}
use Rattle.morph.specs.Refusals.{refusal_number}
use Rattle.plan_record.proofs.Exits.{refused_some}
use Rattle.morph.proofs.Lists.{neither}
use Rattle.morph.proofs.Numbers.{given_zero}
use Rattle.job_read.specs.declared.Job.{Job}
use Rattle.job_read.specs.Layout.{row_bytes}
use Rattle.job_view.specs.View.{row_begins, is_there_to, view_number, viewed}

-- ---- the part

pub record There (bytes : List ℕ) (job : Job) (i j : ℕ) : Type 0 where
  pub order : i < j
  pub end : row_begins job j ≤ length bytes
  pub start : row_begins job i ≤ row_begins job j
  pub row : row_bytes job ≤ length bytes

known_part : (a b : Bool) → not (a && b) ≡ false → (a ≡ true) × (b ≡ true)
known_part true true e = (refl, refl)
known_part true false e = absurd (false≢true (sym e))
known_part false b e = absurd (false≢true (sym e))

pub there : (bytes : List ℕ) (job : Job) (i j : ℕ) → view_number bytes job i j ≡ 0 → (i ≡ j → ⊥) → There bytes job i j
unfolding view_number
there bytes job i j z n =
    let f = given_zero 10 (ltb j i || ltb job.rows j || (ltb i j && not (is_there_to bytes job j))) z in
    let p = neither (ltb j i || ltb job.rows j) (ltb i j && not (is_there_to bytes job j)) f in
    let q = neither (ltb j i) (ltb job.rows j) p.0 in
    let o : i < j = omega (arith, ltb-false j i q.0, n) in
    let t : not (is_there_to bytes job j) ≡ false = rw (lt-ltb i j o) at p.1 in
    let k = known_part (leb job.sample 1) (leb (row_begins job j) (length bytes)) t in
    let e = leb-true (row_begins job j) (length bytes) k.1 in
    let s = mul-le-mul_right {m = i} {n = j} (row_bytes job) (omega arith) in
    let r = mul-le-mul_right {m = 1} {n = j} (row_bytes job) (omega arith) in
    record { order = o; end = e; start = omega arith; row = omega arith }

-- the same of a row's size as the code has it
pub record Placed (len at i j size : ℕ) : Type 0 where
  pub size_in : size ≤ len
  pub start : at + i * size ≤ at + j * size
  pub end : at + j * size ≤ len

pub placed : {bytes : List ℕ} {job : Job} {i j : ℕ} (size : ℕ) → size ≡ row_bytes job → There bytes job i j → Placed (length bytes) job.at i j size
placed {bytes} {job} {i} {j} size e t =
    let p : i * size ≡ i * row_bytes job = ap (λ (k : ℕ). i * k) e in
    let q : j * size ≡ j * row_bytes job = ap (λ (k : ℕ). j * k) e in
    let a = t.end in
    let b = t.start in
    let c = t.row in
    record { size_in = omega arith; start = omega arith; end = omega arith }

pub slice_part : (a e : ℕ) (l : List ℕ) → slice a e l ≡ take (e - a) (drop a l)
slice_part zero e l = rw (sub-zero e)
slice_part (suc a) zero l = rw (zero-sub (suc a))
slice_part (suc a) (suc e) [] = rw (take-nil {A = ℕ} (suc e - suc a))
slice_part (suc a) (suc e) (x ∷ l) = rw (suc-sub-suc e a) (slice_part a e l)

module _ (bytes : List ℕ) (job : Job) (i j : ℕ) where
  pub view_refused : (why : Refusal) → refusal_number why ≡ view_number bytes job i j → [] ≡ viewed bytes job i j
  unfolding viewed
  view_refused why e = simp (ne_eqb (view_number bytes job i j) 0 (λ z. refused_some why (e ∙ z)))

  module _ (z : 0 ≡ view_number bytes job i j) where
    pub view_none : i ≡ j → [] ≡ viewed bytes job i j
    unfolding viewed
    view_none q =
        simp (eq-eqb (view_number bytes job i j) 0 (sym z))
        (sym (ap (λ (k : ℕ). slice (row_begins job k) (row_begins job j) bytes) q ∙ slice_empty (row_begins job j) bytes))

    pub view_part : {a b : ℕ} → a ≡ row_begins job i → b ≡ row_begins job j → take (b - a) (drop a bytes) ≡ viewed bytes job i j
    unfolding viewed
    view_part p q = simp (eq-eqb (view_number bytes job i j) 0 (sym z), p, q) (sym (slice_part (row_begins job i) (row_begins job j) bytes))
