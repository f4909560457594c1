-- Laws of the plan records: a stage more, the stages in use, sums over them, and what an accepted plan has.
use Rattle.std.proofs.Common.{Result, Ok, Err, ◌≡◌, refl, sym, ap, ◌∙◌, List, [], ◌∷◌, ◌++◌, append_assoc, append-nil, ℕ, zero, suc, ◌+◌, ◌-◌, ◌*◌, ◌≤◌, ◌<◌, not-suc-le-zero, mul-le-mul_right, mul-le-mul_left, add-one, arith, eq-eqb, ne_eqb, length, get_or, take, set, replicate, length-append, take-suc, length-take-le}
use Rattle.std.proofs.Math.Seq.{set-append_seam, take-append_seam}
use Rattle.std.specs.Result.{IsErrAnd}
use Rattle.morph.specs.Lists.{tabulate}
use Rattle.morph.proofs.Lists.{length_tabulate, tabulate_snoc}
use Rattle.morph.specs.declared.refusal.Refusal.{Refusal}
use Rattle.morph.specs.Refusals.{refusal_number}
use Rattle.morph.specs.Numbers.{first_of}
use Rattle.morph.proofs.Numbers.{first_one, first_zero, skip, found}
use Rattle.plan_record.specs.declared.Stage.{Stage}
use Rattle.plan_record.specs.declared.Plan.{Plan}
use Rattle.plan_record.specs.declared.Reading.{Reading}
use Rattle.plan_record.specs.Plan.{unused, plan_of, used, total, reading_of, count_number, sequence_stages, alternating_stages}
use Rattle.plan_record.specs.Inner.{added, added_all, reading_as}
use Rattle.plan_record.proofs.Exits.{refused_some}

-- ---- a stage more

pub length_alternating : (n : ℕ) → length (alternating_stages n) ≡ 4 * n
unfolding alternating_stages
length_alternating zero = refl
length_alternating (suc n) = rw length-append (omega (arith, length_alternating n))

set_place : (ss : List Stage) (s : Stage) (n : ℕ) → n ≡ suc (16 - length (ss ++ (s ∷ []))) → set (ss ++ replicate n unused) (length ss) s ≡ (ss ++ (s ∷ [])) ++ replicate (16 - length (ss ++ (s ∷ []))) unused
set_place ss s n e = rw (e, set-append_seam ss unused (replicate (16 - length (ss ++ (s ∷ []))) unused) s) (sym (append_assoc ss (s ∷ []) _))

pub added_plan : (ss : List Stage) (s : Stage) → length ss < 16 → added (plan_of ss) s ≡ plan_of (ss ++ (s ∷ []))
added_plan ss s h =
    let l : length (ss ++ (s ∷ [])) ≡ length ss + 1 = length-append ss (s ∷ []) in
    cc (set_place ss s (16 - length ss) (omega arith))

pub added_all_law : (ss ts : List Stage) → length ss + length ts ≤ 16 → added_all (plan_of ss) ts ≡ plan_of (ss ++ ts)
added_all_law ss [] h = rw append-nil
added_all_law ss (t ∷ ts) h =
    rw (added_plan ss t (omega arith), added_all_law (ss ++ (t ∷ [])) ts (rw length-append (omega arith)), append_assoc ss (t ∷ []) ts)

-- a call that adds a stage, by what its arguments are
pub added_by : {r p q : Plan} {s t : Stage} → r ≡ added p s → p ≡ q → s ≡ t → r ≡ added q t
added_by e f g = cc

module _ {r p : Plan} where
  -- of stages that f gives, one more
  pub table_more : {s : Stage} (f : ℕ → Stage) (i : ℕ) → i < 16 → r ≡ added p s → p ≡ plan_of (tabulate i f) → s ≡ f i → r ≡ plan_of (tabulate (i + 1) f)
  table_more f i h e q g =
      let l : length (tabulate i f) ≡ i = length_tabulate i f in
      let more : tabulate (i + 1) f ≡ tabulate i f ++ (f i ∷ []) = rw (add-one i) (tabulate_snoc i f) in
      added_by e q g ∙ added_plan (tabulate i f) (f i) (omega arith) ∙ ap plan_of (sym more)

  pub used_more : (ss : List Stage) (i : ℕ) (d : Stage) {s : Stage} → i < 16 → i < length ss → r ≡ added p s → p ≡ plan_of (take i ss) → s ≡ get_or ss i d → r ≡ plan_of (take (i + 1) ss)
  used_more ss i d h k e f g =
      let l : length (take i ss) ≡ i = length-take-le i ss (omega arith) in
      let more : take (i + 1) ss ≡ take i ss ++ (get_or ss i d ∷ []) = rw (add-one i) (take-suc ss i d k) in
      added_by e f g ∙ added_plan (take i ss) (get_or ss i d) (omega arith) ∙ ap plan_of (sym more)

  pub sequence_more : (i : ℕ) → i < 4 → r ≡ added_all p (sequence_stages (i + 1)) → p ≡ plan_of (alternating_stages i) → (r ≡ plan_of (alternating_stages (i + 1))) × (r.count ≡ 4 * (i + 1))
  unfolding alternating_stages
  sequence_more i h e f =
      let l = length_alternating i in
      let q : r ≡ plan_of (alternating_stages (i + 1)) = e ∙ ap (λ p. added_all p (sequence_stages (i + 1))) f ∙ added_all_law (alternating_stages i) (sequence_stages (i + 1)) (omega arith) ∙ rw (add-one i) refl in
      (q, ap (λ p. p.count) q ∙ length_alternating (i + 1))

-- ---- the stages in use

pub used_plan : (ss : List Stage) → used (plan_of ss) ≡ ss
used_plan ss = take-append_seam ss (replicate (16 - length ss) unused)

-- ---- sums

pub total_more : (f : Stage → ℕ) (ss : List Stage) (i : ℕ) (d : Stage) → i < length ss → total f (take (i + 1) ss) ≡ total f (take i ss) + f (get_or ss i d)
total_more f [] i d h = absurd (not-suc-le-zero h)
total_more f (s ∷ ss) zero d h = omega arith
total_more f (s ∷ ss) (suc i) d h = rw (add-one (suc i)) (let e = rw (add-one i) at (total_more f ss i d (omega arith)) in omega arith)

pub sum_more : (f : Stage → ℕ) (ss : List Stage) (i : ℕ) (d : Stage) {sum v : ℕ} → i < length ss → sum ≡ total f (take i ss) → v ≡ f (get_or ss i d) → sum + v ≡ total f (take (i + 1) ss)
sum_more f ss i d h e q = rw (e, q) (sym (total_more f ss i d h))

pub total_most : (f : Stage → ℕ) (b : ℕ) (ss : List Stage) → ((s : Stage) → f s ≤ b) → total f ss ≤ length ss * b
total_most f b [] h = omega arith
total_most f b (s ∷ ss) h = omega (arith, total_most f b ss h, h s)

-- ---- answers

pub refused_answer : {r : Reading} {n m : ℕ} (plan : Plan) → r ≡ record { number = n; plan = plan_of [] } → n ≡ m → (n ≡ 0 → ⊥) → r ≡ reading_of m plan
refused_answer {r} {n} {m} plan e q h = e ∙ (let f = ne_eqb n 0 h in cc)

-- the same of what is read or refused
pub reading_refused : (plan : Plan) (refusal : Refusal) (r : Result Plan Refusal) {m : ℕ} → IsErrAnd r (λ e. e ≡ refusal) → refusal_number refusal ≡ m → reading_as r ≡ reading_of m plan
reading_refused plan refusal (Ok _) h e = absurd h
reading_refused plan refusal (Err _) h e = let f = ne_eqb (refusal_number refusal) 0 (refused_some refusal) in cc

pub reading_accepted : {m : ℕ} {p : Plan} (plan : Plan) → m ≡ 0 → p ≡ plan → reading_as (Ok p) ≡ reading_of m plan
reading_accepted {m} plan z e = let f = eq-eqb m 0 z in cc

-- ---- the count's rule, and then m

pub count_refused : (count m : ℕ) {r : ℕ} → r ≡ count_number count → (r ≡ 0 → ⊥) → r ≡ first_of (count_number count ∷ m ∷ [])
count_refused count m e h = found (count_number count) (m ∷ []) e h

pub count_accepted : (count m : ℕ) {q r : ℕ} → q ≡ count_number count → q ≡ 0 → r ≡ m → r ≡ first_of (count_number count ∷ m ∷ [])
count_accepted count m e z h = skip (count_number count) (m ∷ []) (sym e ∙ z) (h ∙ sym (first_one m))

pub count_zero : (count m : ℕ) → first_of (count_number count ∷ m ∷ []) ≡ 0 → (count_number count ≡ 0) × (m ≡ 0)
count_zero count m e = let z = first_zero (count_number count) (m ∷ []) e in (z.0, sym (first_one m) ∙ z.1)

-- ---- a product of two bounded numbers

pub mul_most : (a b c d : ℕ) → a ≤ c → b ≤ d → a * b ≤ c * d
mul_most a b c d h k = let p = mul-le-mul_right b h in let q = mul-le-mul_left c k in omega arith
