-- Laws of bytes stored one after another.
use mathlib.Core.Path.{◌≡◌, refl, sym, ap, ◌∙◌}
use mathlib.Core.List.{List, [], ◌∷◌, ◌++◌, append_assoc}
use Prim.Native.Nat.{ℕ, zero, suc, ◌+◌, ◌*◌, ◌≤◌, ◌<◌}
use native.Mathlib.Nat.{add-zero, add-suc, suc-add}
use native.Mathlib.Numerals.{add-one}
use native.Mathlib.Omega.{arith}
use borrow.Author.Tests.{lt-ltb, le-ltb, eq-eqb, ne_eqb}
use lib.Dec.{ltb}
use lib.ListN.{length, get_or, take, drop, set, length-append}
use borrow.Rule.Slice.PartMut.{put_mid}
use lib.Seq.{sets, take-suc, length-take-le, sets-eq, drop-drop}
use Rattle.morph.specs.Numbers.{given, first_of}
use Rattle.morph.proofs.Numbers.{skip, found}
use Rattle.std.specs.Prelude.{Result, Ok, Err}
use Rattle.std.specs.Result.{IsErrAnd}
use Rattle.morph.specs.declared.refusal.Refusal.{Refusal}
use Rattle.morph.specs.Refusals.{refusal_number}
use Rattle.morph.proofs.Exits.{refused_some}
use Rattle.job_write.specs.Inner.{written_as}
use Rattle.plan_record.specs.declared.Stage.{Stage}
use Rattle.plan_record.specs.Numbers.{sample_number, size_number}
use Rattle.plan_record.specs.Plan.{used, record_number}
use Rattle.job_read.specs.declared.Job.{Job}
use Rattle.job_write.specs.declared.Written.TheVariants.{Bytes, Refused}
use Rattle.job_read.specs.Layout.{stage_bytes, stages_bytes, plan_bytes, head_bytes_of, encode, head_begins, pixels_begin}
use Rattle.job_write.specs.Write.{write_number, written_of, Wrote}

-- ---- stores

pub put_sets : (l part new : List ℕ) (at k : ℕ) → new ≡ part → length part ≡ k → at + k ≤ length l → put_mid at k l new ≡ sets l at part
put_sets l part new at k e n h =
    ap (λ m. take at l ++ (m ++ drop k (drop at l))) e ∙ ap (λ m. take at l ++ (part ++ m)) (drop-drop k at l ∙ ap (λ (m : ℕ). drop (at + m) l) (sym n))
    ∙ sym (sets-eq part l at (omega arith) ∙ append_assoc (take at l) part (drop (at + length part) l))

pub sets_append : (l : List ℕ) (i : ℕ) (vs ws : List ℕ) → sets (sets l i vs) (i + length vs) ws ≡ sets l i (vs ++ ws)
sets_append l i [] ws = rw (add-zero i)
sets_append l i (v ∷ vs) ws = rw (add-suc i (length vs), ← suc-add) (sets_append (set l i v) (suc i) vs ws)

-- ---- the stages' bytes

pub stages_append : (ss ts : List Stage) → stages_bytes (ss ++ ts) ≡ stages_bytes ss ++ stages_bytes ts
stages_append [] ts = refl
stages_append (s ∷ ss) ts = ap (λ l. stage_bytes s ++ l) (stages_append ss ts)

pub length_stages : (ss : List Stage) → length (stages_bytes ss) ≡ length ss * 5
length_stages [] = refl
length_stages (s ∷ ss) = omega (arith, length_stages ss)

pub stages_next : (out₀ : List ℕ) (ss : List Stage) (i at : ℕ) (d : Stage) {out out' : List ℕ} → i < length ss → at ≡ 1 + i * 5 → out ≡ sets out₀ 1 (stages_bytes (take i ss))
    → out' ≡ sets out at (stage_bytes (get_or ss i d)) → out' ≡ sets out₀ 1 (stages_bytes (take (i + 1) ss))
stages_next out₀ ss i at d {out} {out'} h p e f =
    let s = get_or ss i d in
    let m : length (stages_bytes (take i ss)) ≡ i * 5 = length_stages (take i ss) ∙ ap (λ (n : ℕ). n * 5) (length-take-le i ss (omega arith)) in
    let a : at ≡ 1 + length (stages_bytes (take i ss)) = omega arith in
    let g : stages_bytes (take (i + 1) ss) ≡ stages_bytes (take i ss) ++ stage_bytes s = ap (λ (n : ℕ). stages_bytes (take n ss)) (add-one i) ∙ ap stages_bytes (take-suc ss i d h) ∙ stages_append (take i ss) (s ∷ []) in
    f ∙ ap (λ l. sets l at (stage_bytes s)) e ∙ ap (λ (n : ℕ). sets (sets out₀ 1 (stages_bytes (take i ss))) n (stage_bytes s)) a
    ∙ sets_append out₀ 1 (stages_bytes (take i ss)) (stage_bytes s) ∙ ap (sets out₀ 1) (sym g)

-- ---- the whole output

pub length_encode : (job : Job) → job.plan.count ≤ length job.plan.stages → length (encode job) ≡ pixels_begin job.plan.count
unfolding encode
length_encode job h =
    let u : length (used job.plan) ≡ job.plan.count = length-take-le job.plan.count job.plan.stages h in
    length-append (plan_bytes job.plan) (head_bytes_of job.sample job.width job.rows) ∙ omega (arith, length_stages (used job.plan))

pub written : (job : Job) (out : List ℕ) {one two three : List ℕ} → job.plan.count ≤ length job.plan.stages → pixels_begin job.plan.count ≤ length out
    → one ≡ set out 0 job.plan.count → two ≡ sets one 1 (stages_bytes (used job.plan)) → three ≡ sets two (head_begins job.plan.count) (head_bytes_of job.sample job.width job.rows)
    → three ≡ encode job ++ drop (pixels_begin job.plan.count) out
unfolding encode
written job out h k e f g =
    let plan = job.plan in
    let head = head_bytes_of job.sample job.width job.rows in
    let u : length (used plan) ≡ plan.count = length-take-le plan.count plan.stages h in
    let p : head_begins plan.count ≡ 0 + length (plan_bytes plan) = omega (arith, length_stages (used plan)) in
    let l = length_encode job h in
    let q : 0 + length (encode job) ≡ pixels_begin plan.count = omega arith in
    g ∙ ap (λ o. sets o (head_begins plan.count) head) (f ∙ ap (λ o. sets o 1 (stages_bytes (used plan))) e)
    ∙ ap (λ (n : ℕ). sets (sets out 0 (plan_bytes plan)) n head) p ∙ sets_append out 0 (plan_bytes plan) head
    ∙ sets-eq (encode job) out 0 (omega arith) ∙ ap (λ (n : ℕ). encode job ++ drop n out) q

module _ (job : Job) (out : List ℕ) where
  abbrev room : ℕ
  room = given 6 (ltb (length out) (pixels_begin job.plan.count))

  abbrev size : ℕ
  size = size_number job.width job.rows

  abbrev sample : ℕ
  sample = sample_number job.sample

  pub write_plan : {n : ℕ} → n ≡ record_number job.plan → (n ≡ 0 → ⊥) → n ≡ write_number job out
  unfolding write_number
  write_plan e h = found (record_number job.plan) (sample ∷ size ∷ room ∷ []) e h

  module _ (plan : record_number job.plan ≡ 0) where
    pub write_sample : {n : ℕ} → n ≡ sample → (n ≡ 0 → ⊥) → n ≡ write_number job out
    unfolding write_number
    write_sample e h = skip (record_number job.plan) (sample ∷ size ∷ room ∷ []) plan (found sample (size ∷ room ∷ []) e h)

    module _ (known : sample ≡ 0) where
      after_sample : {n : ℕ} → n ≡ first_of (size ∷ room ∷ []) → n ≡ write_number job out
      unfolding write_number
      after_sample e = skip (record_number job.plan) (sample ∷ size ∷ room ∷ []) plan (skip sample (size ∷ room ∷ []) known e)

      pub write_size : {n : ℕ} → n ≡ size → (n ≡ 0 → ⊥) → n ≡ write_number job out
      write_size e h = after_sample (found size (room ∷ []) e h)

      module _ (fits : size ≡ 0) where
        pub write_short : length out < pixels_begin job.plan.count → 6 ≡ write_number job out
        write_short h = after_sample (skip size (room ∷ []) fits (found room [] (simp (lt-ltb (length out) (pixels_begin job.plan.count) h)) (λ z. omega arith)))

        pub write_fine : pixels_begin job.plan.count ≤ length out → 0 ≡ write_number job out
        write_fine h = after_sample (skip size (room ∷ []) fits (skip room [] (simp (le-ltb (length out) (pixels_begin job.plan.count) h)) refl))

  wrote_suc : (n : ℕ) → suc n ≡ write_number job out → Wrote job out out (Refused (suc n))
  wrote_suc n e =
      record {
        answer = ap (λ (k : ℕ). written_of k (pixels_begin job.plan.count)) e;
        number = e;
        output = simp (ne_eqb (write_number job out) 0 (λ z. omega arith));
      }

  wrote_number : (n : ℕ) → n ≡ write_number job out → (n ≡ 0 → ⊥) → Wrote job out out (Refused n)
  wrote_number zero e h = absurd (h refl)
  wrote_number (suc n) e h = wrote_suc n e

  pub wrote_refused : {n : ℕ} → n ≡ write_number job out → (n ≡ 0 → ⊥) → Wrote job out out (Refused n)
  wrote_refused {n} e h = wrote_number n e h

  pub wrote_up : (why : Refusal) (r : Result ℕ Refusal) → IsErrAnd r (λ e. e ≡ why) → refusal_number why ≡ write_number job out → Wrote job out out (written_as r)
  wrote_up why (Ok _) h e = absurd h
  wrote_up why (Err x) h e = wrote_refused (ap refusal_number h ∙ e) (refused_some x)

  pub wrote : {out' : List ℕ} → 0 ≡ write_number job out → out' ≡ encode job ++ drop (pixels_begin job.plan.count) out → Wrote job out out' (Bytes (pixels_begin job.plan.count))
  wrote e f =
      record {
        answer = ap (λ (k : ℕ). written_of k (pixels_begin job.plan.count)) e;
        number = e;
        output = f ∙ simp (eq-eqb (write_number job out) 0 (sym e));
      }
