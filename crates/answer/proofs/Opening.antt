-- A head is settled by its own bytes: none that come after change its number or what it says.
use mathlib.Core.Path.{◌≡◌, refl, sym, ap, ◌∙◌}
use mathlib.Core.List.{List, [], ◌∷◌, ◌++◌}
use Prim.Native.Nat.{ℕ, ◌+◌, ◌*◌, ◌≤◌, ◌<◌}
use native.Mathlib.Omega.{arith}
use borrow.Author.Tests.{eq-eqb, ne_eqb, eqb-true, eqb-false, le-ltb, ltb-false}
use lib.Dec.{eqb, ltb}
use lib.ListN.{length, get_or, take, drop, length-append, length-drop, get_or-append}
use lib.Seq.{take-append-le, drop-append-le}
use Rattle.morph.proofs.Lists.{split}
use Rattle.morph.specs.Numbers.{first_of}
use Rattle.plan_record.specs.Plan.{count_number, stages_from, stages_number}
use Rattle.morph.proofs.Numbers.{first_skip, first_found, first_one, first_zero, given_zero}
use Rattle.job_read.specs.Layout.{head_begins, pixels_begin, job_from}
use Rattle.job_read.specs.Job.{missing, plan_section_number, head_number, head_section_number}
use Rattle.job_read.proofs.Sections.{section_count, section_stages, plan_there, same_stages, same_numbers}
use Rattle.answer.specs.Answer.{cells_number, opening_number, opening_bytes, ending, picture_answer, answer_of}
use Rattle.answer.specs.Inner.{head_wants_of}

present : (n : ℕ) (bytes : List ℕ) → n ≤ length bytes → missing n bytes ≡ 0
present n bytes h = simp (le-ltb (length bytes) n h)

module _ (bytes rest : List ℕ) where
  abbrev both : List ℕ
  both = bytes ++ rest

  abbrev count : ℕ
  count = get_or bytes 0 0

  more : length bytes ≤ length both
  more = rw length-append (omega arith)

  at_here : (i : ℕ) → i < length bytes → get_or both i 0 ≡ get_or bytes i 0
  at_here i h = get_or-append bytes rest 0 i h

  module _ (some : 1 ≤ length bytes) where
    same_count : get_or both 0 0 ≡ count
    same_count = at_here 0 (omega arith)

    -- a count that is refused
    refused_section : (count_number count ≡ 0 → ⊥) → plan_section_number both ≡ plan_section_number bytes
    refused_section h =
        sym (section_count both (omega (arith, more)) {n = count_number count} (ap count_number (sym same_count)) h) ∙ section_count bytes some {n = count_number count} refl h

    -- stages that are all there
    module _ (few : count_number count ≡ 0) (whole : head_begins count ≤ length bytes) where
      agree : (k : ℕ) → k < count * 5 → get_or (drop 1 both) k 0 ≡ get_or (drop 1 bytes) k 0
      agree k h = ap (λ l. get_or l k 0) (drop-append-le 1 bytes rest some) ∙ get_or-append (drop 1 bytes) rest 0 k (omega (arith, length-drop 1 bytes))

      there_section : plan_section_number both ≡ plan_section_number bytes
      there_section =
          sym (section_stages both (omega (arith, more)) (ap count_number same_count ∙ few) (omega (arith, more, ap head_begins same_count)))
          ∙ ap (λ (c : ℕ). stages_number c (drop 1 both)) same_count ∙ same_numbers count (drop 1 both) (drop 1 bytes) agree ∙ section_stages bytes some few whole

      there_stages : stages_from (get_or both 0 0) (drop 1 both) ≡ stages_from count (drop 1 bytes)
      there_stages = ap (λ (c : ℕ). stages_from c (drop 1 both)) same_count ∙ same_stages count (drop 1 both) (drop 1 bytes) agree

  -- a head that is all there
  module _ (at : ℕ) (whole : at + 5 ≤ length bytes) where
    head_here : (k : ℕ) → k < 5 → get_or (drop at both) k 0 ≡ get_or (drop at bytes) k 0
    head_here k h = ap (λ l. get_or l k 0) (drop-append-le at bytes rest (omega arith)) ∙ get_or-append (drop at bytes) rest 0 k (omega (arith, length-drop at bytes))

    there_head : head_section_number both at ≡ head_section_number bytes at
    unfolding head_section_number head_number
    there_head = cc (present (at + 5) both (omega (arith, more)), present (at + 5) bytes whole, head_here 0 (omega arith), head_here 1 (omega arith), head_here 2 (omega arith), head_here 3 (omega arith), head_here 4 (omega arith))

    there_bytes : take 5 (drop at both) ≡ take 5 (drop at bytes)
    there_bytes = ap (take 5) (drop-append-le at bytes rest (omega arith)) ∙ take-append-le 5 (drop at bytes) rest (omega (arith, length-drop at bytes))

  -- both
  module _ (some : 1 ≤ length bytes) (few : count_number count ≡ 0) (whole : pixels_begin count ≤ length bytes) where
    there_job : job_from both ≡ job_from bytes
    unfolding job_from
    there_job =
        let w : head_begins count ≤ length bytes = omega arith in
        let h : head_begins count + 5 ≤ length bytes = omega arith in
        cc (same_count some, there_stages some few w, head_here (head_begins count) h 0 (omega arith), head_here (head_begins count) h 1 (omega arith), head_here (head_begins count) h 2 (omega arith), head_here (head_begins count) h 3 (omega arith), head_here (head_begins count) h 4 (omega arith))

    there_number : opening_number both ≡ opening_number bytes
    unfolding opening_number
    there_number =
        let w : head_begins count ≤ length bytes = omega arith in
        let h : head_begins count + 5 ≤ length bytes = omega arith in
        let s : head_section_number both (head_begins (get_or both 0 0)) ≡ head_section_number bytes (head_begins count) = ap (λ (c : ℕ). head_section_number both (head_begins c)) (same_count some) ∙ there_head (head_begins count) h in
        cc (there_section some few w, there_job)

    there_opening : opening_bytes both ≡ opening_bytes bytes
    there_opening =
        let h : head_begins count + 5 ≤ length bytes = omega arith in
        ap (λ (c : ℕ). 2 ∷ take 5 (drop (head_begins c) both)) (same_count some) ∙ ap (λ l. 2 ∷ l) (there_bytes (head_begins count) h)

  -- the plan section alone refuses
  plan_refuses : (plan_section_number both ≡ plan_section_number bytes) → (plan_section_number bytes ≡ 0 → ⊥) → opening_number both ≡ opening_number bytes
  unfolding opening_number
  plan_refuses e h =
      first_found (plan_section_number both) (head_section_number both (head_begins (get_or both 0 0)) ∷ cells_number (job_from both).plan (job_from both).width ∷ []) (λ z. h (sym e ∙ z)) ∙ e
      ∙ sym (first_found (plan_section_number bytes) (head_section_number bytes (head_begins count) ∷ cells_number (job_from bytes).plan (job_from bytes).width ∷ []) h)

  -- a head of which all is at hand that it wants
  pub head_settled : head_wants_of bytes ≤ length bytes → opening_number both ≡ opening_number bytes
  unfolding head_wants_of
  head_settled h =
      split (eqb (plan_section_number bytes) 0)
      (λ p. let z = plan_there bytes (eqb-true (plan_section_number bytes) 0 p) in there_number z.some z.few (rw p at h))
      (λ p.
      let n = eqb-false (plan_section_number bytes) 0 p in
      split (eqb (first_of (missing 1 bytes ∷ count_number count ∷ [])) 0)
      (λ q.
      let (a, b) = first_zero (missing 1 bytes) (count_number count ∷ []) (eqb-true (first_of (missing 1 bytes ∷ count_number count ∷ [])) 0 q) in
      let w : head_begins count ≤ length bytes = rw (p, q) at h in
      plan_refuses (there_section (omega arith) (sym (first_one (count_number count)) ∙ b) w) n)
      (λ q.
      let w : 1 ≤ length bytes = rw (p, q) at h in
      let m = eqb-false (first_of (missing 1 bytes ∷ count_number count ∷ [])) 0 q in
      plan_refuses (refused_section w (λ z. m (first_skip (missing 1 bytes) (count_number count ∷ []) (present 1 bytes w) ∙ first_one (count_number count) ∙ z))) n))

  -- ---- the answer at a head

  at_long : pixels_begin count ≤ length bytes → (job_from bytes).at ≤ length bytes
  unfolding job_from
  at_long h = h

  opening_there : opening_number bytes ≡ 0 → (1 ≤ length bytes) × (count_number count ≡ 0) × (pixels_begin count ≤ length bytes)
  unfolding opening_number head_section_number
  opening_there z =
      let (a, b) = first_zero (plan_section_number bytes) (head_section_number bytes (head_begins count) ∷ cells_number (job_from bytes).plan (job_from bytes).width ∷ []) z in
      let p = plan_there bytes a in
      let (h, _) = first_zero (head_section_number bytes (head_begins count)) (cells_number (job_from bytes).plan (job_from bytes).width ∷ []) b in
      let (m, _) = first_zero (missing (head_begins count + 5) bytes) (head_number (drop (head_begins count) bytes) ∷ []) h in
      (p.some, p.few, ltb-false (length bytes) (head_begins count + 5) (given_zero 12 (ltb (length bytes) (head_begins count + 5)) m))

  -- refused: once it is settled, or where no bytes come after
  pub answer_refused : opening_number both ≡ opening_number bytes → (opening_number bytes ≡ 0 → ⊥) → answer_of both ≡ ending (opening_number bytes)
  unfolding answer_of
  answer_refused e h = rw (e, ne_eqb (opening_number bytes) 0 h)

  -- accepted: it was all there
  pub answer_taken : opening_number bytes ≡ 0 → answer_of both ≡ opening_bytes bytes ++ picture_answer (job_from bytes) (drop (job_from bytes).at bytes ++ rest)
  unfolding answer_of
  answer_taken z =
      let (some, few, whole) = opening_there z in
      let e = there_number some few whole in
      let d : drop (job_from bytes).at both ≡ drop (job_from bytes).at bytes ++ rest = drop-append-le (job_from bytes).at bytes rest (at_long whole) in
      rw (e, eq-eqb (opening_number bytes) 0 z)
      (ap (λ l. l ++ picture_answer (job_from both) (drop (job_from both).at both)) (there_opening some few whole)
      ∙ ap (λ j. opening_bytes bytes ++ picture_answer j (drop j.at both)) (there_job some few whole) ∙ ap (λ l. opening_bytes bytes ++ picture_answer (job_from bytes) l) d)
