-- "For each public function the answer, the state .. afterwards follow from its inputs alone, also on a refusal": two outcomes that meet a promise are equal.
-- By which idea: the queue after s steps rests on the first s pixels, so any accepted pixel can stand next in a line that left the state.
use mathlib.Core.Path.{◌≡◌, refl, sym, ap, ◌∙◌}
use mathlib.Core.Bool.{false}
use mathlib.Core.Logic.{◌≢◌}
use mathlib.Core.List.{List}
use Prim.Native.Nat.{ℕ, ◌+◌, ◌-◌}
use native.Mathlib.Omega.{arith}
use borrow.Author.Tests.{eqb-true, eqb-false}
use lib.Dec.{eqb}
use lib.ListN.{length, take, drop, get_or, set, length-set}
use lib.Seq.{take-set-le, get_or-set_same}
use Rattle.morph.specs.Order.{Order}
use Rattle.morph.specs.Line.{positioned, standing, queue, Entry, Shown}
use Rattle.morph.proofs.Lists.{split, each_set}
use Rattle.morph.proofs.Ring.{entries_length}
use Rattle.sample.specs.Samples.{Samples}
use Rattle.line_judge.specs.Numbers.{line_start_number, line_read_number, line_drain_number, line_read_out_number}
use Rattle.line_judge.specs.Steps.{State, PixelSaid, LineStart, Broken, ReadNumber, DrainNumber, O, L, LeftBy, Accepts, Answers, Reads, Drains, line_shown, SameLine}
use Rattle.std.specs.Prelude.{Result, Ok, Err}
use Rattle.morph.specs.declared.refusal.Refusal.{Refusal}
use Rattle.morph.specs.Refusals.{refusal_number}
use Rattle.morph.proofs.Exits.{refusal_same}
use Rattle.queue.specs.declared.Entry.{Entry as QueueEntry}
use Rattle.line.specs.Line.{line_state, pixel_said, entry_shown}
use Rattle.line.specs.declared.Line.{Line}
use Rattle.line.specs.declared.Answer.{Answer}
use Rattle.line.specs.declared.Answer.TheVariants.{Pixel, NotYet, Refused}
use Rattle.line_judge.proofs.Numbers.{read_zero}

-- the queue after s steps rests on the first s pixels
pub queue_rests : {A : Type 0} (O : Order A) (w : ℕ) (xs ys : List A) (s : ℕ) → take s xs ≡ take s ys → queue O w xs s ≡ queue O w ys s
unfolding queue
queue_rests O w xs ys s e = ap (λ l. standing O (positioned (s - w) (drop (s - w) l))) e

module _ {A : Type 0} (K : Samples A) where
  pub start_unique : (kind left right pixels n n' : ℕ) (s s' : State A) → LineStart K kind left right pixels n s → LineStart K kind left right pixels n' s' → (n ≡ n') × (s ≡ s')
  start_unique kind left right pixels n n' s s' h k = (
    h.told ∙ sym k.told,
    split (eqb (line_start_number kind left right pixels) 0)
        (λ z. h.begins (eqb-true _ 0 z) ∙ sym (k.begins (eqb-true _ 0 z)))
        (λ z. h.refuses (eqb-false _ 0 z) ∙ sym (k.refuses (eqb-false _ 0 z))),
  )

  same_self : (s s' : State A) → s ≡ s' → SameLine K s s'
  same_self s s' e = rw e (record { kind = refl; left = refl; right = refl; pixels = refl; step = refl; queued = refl })

  -- a line that could have left the state goes on with the pixel v
  goes_on : (s : State A) (v : A) (xs : List A) → LeftBy K s xs → ReadNumber K s v ≡ 0 → (ys : List A) × LeftBy K s ys × (get_or ys s.step K.order.blank ≡ K.taken v)
  goes_on s v xs l z =
      let (_, b, g) = read_zero s.kind s.left s.right s.pixels s.step s.start s.count (K.good v) z in
      let ys = set xs s.step (K.taken v) in (
        ys,
        record {
          long = length-set xs s.step (K.taken v) ∙ l.long;
          good = each_set _ xs s.step (K.taken v) l.good (K.keeps v g);
          queued = l.queued ∙ queue_rests (O K s) (L K s) xs ys s.step (sym (take-set-le s.step xs s.step (K.taken v) (omega arith)));
        },
        get_or-set_same xs s.step (K.taken v) K.order.blank (omega (arith, l.long)),
      )

  -- ---- accepted steps of two states that a caller cannot tell apart

  module _ (s t : State A) (e : SameLine K s t) (a b : PixelSaid A) (s' t' : State A) where
    left_same : (xs : List A) → LeftBy K s xs → LeftBy K t xs
    left_same xs l = record { long = l.long ∙ e.pixels; good = l.good; queued = sym e.queued ∙ rw (e.kind, e.left, e.right, e.step) at l.queued }

    accepted_same : (next next' : List A → Type 0) → Accepts K s a s' next → Accepts K t b t' next' → (xs : List A) → LeftBy K s xs → next xs → next' xs → (a ≡ b) × SameLine K s' t'
    accepted_same next next' h k xs l n m =
        let f = h.follows xs l n in
        let g = k.follows xs (left_same xs l) m in (
          rw (e.kind, e.left, e.right, e.step) at f.says ∙ sym g.says,
          record {
            kind = h.kind_kept ∙ e.kind ∙ sym k.kind_kept;
            left = h.left_kept ∙ e.left ∙ sym k.left_kept;
            right = h.right_kept ∙ e.right ∙ sym k.right_kept;
            pixels = h.pixels_kept ∙ e.pixels ∙ sym k.pixels_kept;
            step = h.counted ∙ ap (λ j. j + 1) e.step ∙ sym k.counted;
            queued = rw (e.kind, e.left, e.right, e.step) at f.queued ∙ sym g.queued;
          },
        )

    -- such states are refused alike, where neither breaks rule 12
    pub numbers_same : Broken K s ≡ false → Broken K t ≡ false → (v : A) → (ReadNumber K s v ≡ ReadNumber K t v) × (DrainNumber K s ≡ DrainNumber K t)
    unfolding line_read_number line_drain_number
    numbers_same h k v = (rw (h, k, e.pixels, e.step), rw (h, k, e.kind, e.left, e.right, e.pixels, e.step))

    -- So neither where a queue starts nor what stands outside it is seen by a later step.
    pub read_same : (v : A) → ReadNumber K s v ≡ 0 → ReadNumber K t v ≡ 0 → Reads K s a s' v → Reads K t b t' v → (xs : List A) → LeftBy K s xs → (a ≡ b) × SameLine K s' t'
    read_same v z y h k xs l =
        let (ys, m, n) = goes_on s v xs l z in
        accepted_same _ _ (h.accepts z) (k.accepts y) ys m n (ap (λ j. get_or ys j K.order.blank) (sym e.step) ∙ n)

    pub drain_same : DrainNumber K s ≡ 0 → DrainNumber K t ≡ 0 → Drains K s a s' → Drains K t b t' → (xs : List A) → LeftBy K s xs → (a ≡ b) × SameLine K s' t'
    drain_same z y h k xs l = accepted_same _ _ (h.accepts z) (k.accepts y) xs l tt tt

  -- nor by a read-out
  pub read_out_same : (s t : State A) → SameLine K s t → Broken K s ≡ false → Broken K t ≡ false → (place : ℕ) → line_shown K s place ≡ line_shown K t place
  unfolding line_shown line_read_out_number
  read_out_same s t e h k place =
      let c : s.count ≡ t.count =
      sym (entries_length K.order.blank (length s.values) s.start s.count s.values s.positions) ∙ ap length e.queued
      ∙ entries_length K.order.blank (length t.values) t.start t.count t.values t.positions in
      rw (h, k, e.queued, c)

  -- ---- the promises of a step

  module _ (s : State A) (a a' : PixelSaid A) (s₁ s₂ : State A) where
    -- a refusal is exactly the same
    refused_same : (number : ℕ) (next : List A → Type 0) → Answers K s a s₁ number next → Answers K s a' s₂ number next → number ≢ 0 → (a ≡ a') × (s₁ ≡ s₂)
    refused_same number next h k z = ((h.refuses z).says ∙ sym (k.refuses z).says, (h.refuses z).kept ∙ sym (k.refuses z).kept)

    pub read_refusal_unique : (v : A) → Reads K s a s₁ v → Reads K s a' s₂ v → ReadNumber K s v ≢ 0 → (a ≡ a') × (s₁ ≡ s₂)
    read_refusal_unique v = refused_same (ReadNumber K s v) _

    pub drain_refusal_unique : Drains K s a s₁ → Drains K s a' s₂ → DrainNumber K s ≢ 0 → (a ≡ a') × (s₁ ≡ s₂)
    drain_refusal_unique = refused_same (DrainNumber K s) _

    pub read_unique : (v : A) → Reads K s a s₁ v → Reads K s a' s₂ v → (xs : List A) → LeftBy K s xs → (a ≡ a') × SameLine K s₁ s₂
    read_unique v h k xs l =
        split (eqb (ReadNumber K s v) 0)
        (λ z. let y = eqb-true (ReadNumber K s v) 0 z in read_same s s (same_self s s refl) a a' s₁ s₂ v y y h k xs l)
        (λ z. let (p, q) = read_refusal_unique v h k (eqb-false (ReadNumber K s v) 0 z) in (p, same_self s₁ s₂ q))

    pub drain_unique : Drains K s a s₁ → Drains K s a' s₂ → (xs : List A) → LeftBy K s xs → (a ≡ a') × SameLine K s₁ s₂
    drain_unique h k xs l =
        split (eqb (DrainNumber K s) 0)
        (λ z. let y = eqb-true (DrainNumber K s) 0 z in drain_same s s (same_self s s refl) a a' s₁ s₂ y y h k xs l)
        (λ z. let (p, q) = drain_refusal_unique h k (eqb-false (DrainNumber K s) 0 z) in (p, same_self s₁ s₂ q))

-- A read-out's promise is an equation, so that two outcomes that meet it are equal.
pub read_out_unique : {A : Type 0} (K : Samples A) (s : State A) (place : ℕ) (r r' : Shown A) → r ≡ line_shown K s place → r' ≡ line_shown K s place → r ≡ r'
read_out_unique K s place r r' h k = h ∙ sym k

-- ---- the declared types: a line is its state, and an answer is what it says

module _ {A : Type 0} where
  line_of : State A → Line A
  line_of s = record {
    kind = s.kind;
    left = s.left;
    right = s.right;
    pixels = s.pixels;
    step = s.step;
    queue = record { values = s.values; positions = s.positions; start = s.start; count = s.count };
  }

  pub line_same : (l m : Line A) → line_state l ≡ line_state m → l ≡ m
  unfolding line_of
  line_same l m e = ap line_of e

  -- one constructor says nothing that another says, and what it holds is told
  pub answer_same : (a b : Answer A) → pixel_said a ≡ pixel_said b → a ≡ b
  answer_same (Pixel v p n c) (Pixel w q m d) e =
      let h : ◌≡◌ {A = Entry A} (record { value = v; position = p }) (record { value = w; position = q }) = cc in
      cc (ap (λ (x : Entry A). x.value) h, ap (λ (x : Entry A). x.position) h)
  answer_same (Pixel v p n c) (NotYet d) e = cc
  answer_same (Pixel v p n c) (Refused m d) e = cc
  answer_same (NotYet c) (Pixel w q m d) e = cc
  answer_same (NotYet c) (NotYet d) e = cc
  answer_same (NotYet c) (Refused m d) e = cc
  answer_same (Refused n c) (Pixel w q m d) e = cc
  answer_same (Refused n c) (NotYet d) e = cc
  answer_same (Refused n c) (Refused m d) e =
      let h : refusal_number n ≡ refusal_number m = cc in
      let k : c ≡ d = cc in
      cc (refusal_same n m h, k)

  pub entry_same : (r r' : Result (QueueEntry A) Refusal) → entry_shown r ≡ entry_shown r' → r ≡ r'
  entry_same (Ok e) (Ok f) h =
      let q : ◌≡◌ {A = Entry A} (record { value = e.value; position = e.position }) (record { value = f.value; position = f.position }) = cc in
      ap (λ (x : Entry A). Ok (record { value = x.value; position = x.position })) q
  entry_same (Ok e) (Err n) h = cc
  entry_same (Err n) (Ok e) h = cc
  entry_same (Err n) (Err m) h = let k : refusal_number n ≡ refusal_number m = cc in ap Err (refusal_same n m k)
