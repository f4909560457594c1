-- Stages of five bytes each, cut out of bytes one after another.
use mathlib.Core.Path.{◌≡◌, sym, ap, ◌∙◌}
use mathlib.Core.List.{List, [], ◌∷◌}
use Prim.Native.Nat.{ℕ, zero, suc, ◌+◌, ◌*◌, ◌/◌, ◌≤◌, ◌<◌}
use native.Mathlib.Nat.{not-suc-le-zero, zero-mul, suc-mul, add-zero, add_comm}
use native.Mathlib.Omega.{arith}
use lib.ListN.{length, get_or, take, drop}
use lib.Seq.{get_or-take, get_or-drop}
use Rattle.std.proofs.lemmas.List.{length-take-le, drop-drop}
use Rattle.std.specs.Simd.{first_chunks}
use Rattle.morph.specs.Lists.{tabulate}
use Rattle.morph.specs.Numbers.{first_of}
use Rattle.morph.proofs.Lists.{tabulate_ext}
use Rattle.plan_record.specs.Plan.{count_number, stage_out_of, stage_number, stages_from, stages_number, plan_number, plan_read, stages_given, given_number, plan_given}

chunk_at : {A : Type 0} (n k : ℕ) (xs : List A) (i : ℕ) → i < k → get_or (first_chunks n k xs) i [] ≡ take n (drop (i * n) xs)
chunk_at n zero xs i h = absurd (not-suc-le-zero h)
chunk_at n (suc k) xs zero h = rw zero-mul
chunk_at n (suc k) xs (suc i) h = chunk_at n k (drop n xs) i (omega arith) ∙ ap (take n) (drop-drop (i * n) n xs ∙ ap (λ (m : ℕ). drop m xs) (add_comm n (i * n) ∙ sym (suc-mul i n)))

module _ (bytes : List ℕ) (count : ℕ) (k : ℕ) (enough : count ≤ k) (cut : length (first_chunks 5 k bytes) ≡ k) where
  abbrev apart : List (List ℕ)
  apart = take count (first_chunks 5 k bytes)

  chunk : (i : ℕ) → i < count → get_or apart i [] ≡ take 5 (drop (i * 5) bytes)
  chunk i h = get_or-take count (first_chunks 5 k bytes) i [] h ∙ chunk_at 5 k bytes i (omega arith)

  byte : (i j : ℕ) → i < count → j < 5 → get_or (get_or apart i []) j 0 ≡ get_or bytes (i * 5 + j) 0
  byte i j h l = ap (λ (xs : List ℕ). get_or xs j 0) (chunk i h) ∙ get_or-take 5 (drop (i * 5) bytes) j 0 l ∙ get_or-drop (i * 5) bytes j 0

  many : length apart ≡ count
  many = length-take-le count (first_chunks 5 k bytes) (omega arith)

  stages_cut : stages_given apart ≡ stages_from count bytes
  unfolding stages_given stages_from
  stages_cut =
      ap (λ (n : ℕ). tabulate n (λ i. stage_out_of (get_or apart i []) 0)) many
      ∙ tabulate_ext count (λ i. stage_out_of (get_or apart i []) 0) (λ i. stage_out_of bytes (i * 5))
      (λ i h. cc (byte i 0 h (omega arith), byte i 1 h (omega arith), byte i 2 h (omega arith), byte i 3 h (omega arith), byte i 4 h (omega arith), add-zero (i * 5)))

  numbers_cut : given_number apart ≡ plan_number count bytes
  unfolding given_number plan_number stages_number
  numbers_cut =
      ap (λ (n : ℕ). first_of (count_number n ∷ first_of (tabulate n (λ i. stage_number (get_or apart i []) 0)) ∷ [])) many
      ∙ ap (λ (l : List ℕ). first_of (count_number count ∷ first_of l ∷ []))
      (tabulate_ext count (λ i. stage_number (get_or apart i []) 0) (λ i. stage_number bytes (i * 5))
      (λ i h. cc (byte i 0 h (omega arith), byte i 1 h (omega arith), byte i 2 h (omega arith), byte i 3 h (omega arith), byte i 4 h (omega arith), add-zero (i * 5))))

  -- stages that stand one after another are read as those that stand apart
  pub plan_cut : plan_given apart ≡ plan_read count bytes
  unfolding plan_given plan_read
  plan_cut = cc (stages_cut, numbers_cut)

-- the plan of the stages that bytes are cut into is the plan that the bytes say
pub plan_of_cut : (bytes : List ℕ) (count : ℕ) (stages : List (List ℕ)) → stages ≡ first_chunks 5 (length bytes / 5) bytes → length stages ≡ length bytes / 5 → count ≤ length bytes / 5
    → plan_given (take count stages) ≡ plan_read count bytes
plan_of_cut bytes count stages e l m = ap (λ s. plan_given (take count s)) e ∙ plan_cut bytes count (length bytes / 5) m (sym (ap length e) ∙ l)
