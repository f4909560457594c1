-- From what the code of a step finds to its promise. By which idea: the queue's laws of crate row over every line that could have left the state.
use mathlib.Core.Path.{◌≡◌, refl, sym, ap, ◌∙◌}
use mathlib.Core.Bool.{Bool, false}
use mathlib.Core.Logic.{◌≢◌}
use mathlib.Core.List.{List}
use Prim.Native.Nat.{ℕ, suc, ◌+◌, ◌-◌, ◌≤◌, ◌<◌}
use native.Mathlib.Numerals.{add-one}
use native.Mathlib.Omega.{arith}
use borrow.Author.Tests.{leb-true, ne_eqb}
use lib.Dec.{leb}
use lib.ListN.{length, get_or, set, length-set}
use Rattle.morph.specs.Line.{queue, line_cost, found, refused}
use Rattle.morph.specs.Ring.{wrap, cell_at}
use Rattle.morph.proofs.Lists.{split}
use Rattle.morph.proofs.Line.{cost_drain}
use Rattle.sample.specs.Samples.{Samples}
use Rattle.queue.specs.Queue.{listed}
use Rattle.queue.specs.Inner.{goes_of, Roomed}
use Rattle.queue.specs.declared.Room.{Room}
use Rattle.queue.proofs.Laws.{listed_at}
use Rattle.row.proofs.Row.{queue_next, queue_drained}
use Rattle.line_judge.specs.Numbers.{line_start_number, line_read_number}
use Rattle.line_judge.specs.Inner.{LineSound, onward}
use Rattle.line_judge.specs.Steps.{State, PixelSaid, say_at, Broken, ReadNumber, ReadOutNumber, O, B, F, L, LeftBy, pixel_said_over, Refuses, Accepts, Answers, line_shown, first_line, LineStart}
use Rattle.row.proofs.Origins.{front_entry}
use Rattle.line_judge.proofs.Numbers.{broken_sound}

module _ {A : Type 0} (K : Samples A) (s : State A) where
  abbrev pub SoundState : Type 0
  SoundState = LineSound s.kind s.left s.right s.pixels s.step s.start s.count

  module _ (h : SoundState) (d : s.step < s.pixels + F K s) (vs : List A) (ps : List ℕ) (start count c : ℕ) (b : start < 63) (f : count ≤ L K s) (l : length vs ≡ 63) where
    -- the state one step on is sound
    onward_sound : Broken K (onward K s vs ps start count) ≡ false
    unfolding onward
    onward_sound = broken_sound s.kind s.left s.right s.pixels (s.step + 1) start count (record {
      left_fits = h.left_fits;
      right_fits = h.right_fits;
      back_fits = h.back_fits;
      ahead_fits = h.ahead_fits;
      some = h.some;
      pixels_fit = h.pixels_fit;
      step_fits = omega arith;
      below = b;
      fits = f;
    })

    -- the oldest entry is the line's answer
    says_line : (xs : List A) → length xs ≡ s.pixels → listed K vs ps start count ≡ queue (O K s) (L K s) xs (suc s.step) → c ≡ line_cost (O K s) (L K s) xs s.step
        → say_at (F K s) s.step (cell_at K.order.blank vs ps start) c ≡ pixel_said_over K s xs
    unfolding say_at
    says_line xs n q e =
        split (leb (F K s) s.step)
        (λ p.
        rw (p, e, front_entry K s.kind (B K s) (F K s) xs s.step start count vs ps (omega arith) (omega arith) q (leb-true _ _ p)))
        (λ p. rw (p, e))

    pub steps_on : (next : List A → Type 0)
        → ((xs : List A) → LeftBy K s xs → next xs → (listed K vs ps start count ≡ queue (O K s) (L K s) xs (suc s.step)) × (c ≡ line_cost (O K s) (L K s) xs s.step))
        → Accepts K s (say_at (F K s) s.step (cell_at K.order.blank vs ps start) c) (onward K s vs ps start count) next
    unfolding onward
    steps_on next g = record {
      kind_kept = refl;
      left_kept = refl;
      right_kept = refl;
      pixels_kept = refl;
      counted = refl;
      sound = onward_sound;
      entry = cell_at K.order.blank vs ps start;
      comparisons = c;
      says = refl;
      follows = λ xs r n. let (q, e) = g xs r n in record { queued = q ∙ ap (queue (O K s) (L K s) xs) (sym (add-one s.step)); says = says_line xs r.long q e };
    }

  -- a step that reads v, as it is taken, from what the code finds on the way
  pub read_accepts : SoundState → s.step < s.pixels → length s.values ≡ 63 → length s.positions ≡ 63 → (v : A) (r : Room) (w p : ℕ) → w ≡ L K s → p ≡ s.step
      → Roomed K s.kind w s.step v s.values s.positions s.start s.count r → (a : PixelSaid A) (s' : State A)
      → a ≡ say_at (F K s) s.step (cell_at K.order.blank (set s.values r.at v) (set s.positions r.at p) r.start) r.comparisons
      → s' ≡ onward K s (set s.values r.at v) (set s.positions r.at p) r.start (r.count + 1) → Accepts K s a s' (λ xs. get_or xs s.step K.order.blank ≡ v)
  read_accepts h d l m v r w p i j g a s' e f =
      let g' = rw i at g in
      let k : L K s ≤ length s.values = omega (arith, h.back_fits, h.ahead_fits) in
      rw (e, f, j)
      (steps_on h (omega arith) (set s.values r.at v) (set s.positions r.at s.step) r.start (r.count + 1) r.comparisons (omega (arith, g.below)) (omega (arith, g'.fits))
      (rw length-set l) _
      (λ xs n o. queue_next K s.kind (B K s) (F K s) xs n.good s.step v s.values s.positions s.start s.count r (omega (arith, n.long)) (sym o) k (m ∙ sym l) n.queued g'))

  -- a step that drains
  pub drain_accepts : SoundState → s.pixels ≤ s.step → s.step < s.pixels + F K s → length s.values ≡ 63 → (w gone next : ℕ) → w ≡ L K s
      → gone ≡ goes_of w s.step s.count (get_or s.positions s.start 0) → next ≡ wrap 63 (s.start + gone) → next < 63 → (a : PixelSaid A) (s' : State A)
      → a ≡ say_at (F K s) s.step (cell_at K.order.blank s.values s.positions next) 0 → s' ≡ onward K s s.values s.positions next (s.count - gone) → Accepts K s a s' (λ xs. Unit {0})
  drain_accepts h p d l w gone next i j n b a s' e f =
      let k : L K s ≤ length s.values = omega (arith, h.back_fits, h.ahead_fits) in
      let m = h.fits in
      let n' : next ≡ wrap (length s.values) (s.start + gone) = rw l n in
      rw (e, f)
      (steps_on h d s.values s.positions next (s.count - gone) 0 b (omega arith) l _
      (λ xs o _. (
        ap (λ y. listed K s.values s.positions y (s.count - gone)) n'
            ∙ queue_drained K s.kind (B K s) (F K s) xs s.step s.values s.positions s.start s.count gone (omega (arith, o.long)) (omega (arith, h.below)) m k (rw i at j) o.queued,
        sym (cost_drain (O K s) (L K s) xs s.step (omega (arith, o.long))),
      )))

  -- a pixel that was tested and taken as K says is the pixel of the promise
  pub good_number : (v : A) (n : ℕ) (g : Bool) → g ≡ K.good v → n ≡ line_read_number s.kind s.left s.right s.pixels s.step s.start s.count g → n ≡ ReadNumber K s v
  good_number v n g e h = rw (← e) h

  pub taken_accepts : (a : PixelSaid A) (s' : State A) (v w : A) → w ≡ K.taken v → Accepts K s a s' (λ xs. get_or xs s.step K.order.blank ≡ w)
      → Accepts K s a s' (λ xs. get_or xs s.step K.order.blank ≡ K.taken v)
  taken_accepts a s' v w e h = rw (← e) h

  -- a call's promise, from the number that was found
  module _ (a : PixelSaid A) (s' : State A) (n number : ℕ) (next : List A → Type 0) (e : n ≡ number) where
    pub answers_refusal : n ≢ 0 → Refuses K s a s' n → Answers K s a s' number next
    answers_refusal h r = rw (← e) (record { refuses = λ _. r; accepts = λ z. absurd (h z) })

    pub answers_step : n ≡ 0 → Accepts K s a s' next → Answers K s a s' number next
    answers_step z r = rw (← e) (record { refuses = λ h. absurd (h z); accepts = λ _. r })

  -- a read-out
  pub shown_refused : (place number : ℕ) → number ≡ ReadOutNumber K s place → number ≢ 0 → refused number ≡ line_shown K s place
  unfolding line_shown
  shown_refused place number e h = rw (← e, ne_eqb number 0 h)

  pub shown_entry : (place at : ℕ) → ReadOutNumber K s place ≡ 0 → length s.values ≡ 63 → place < s.count → at ≡ wrap 63 (s.start + place)
      → found (record { value = get_or s.values at K.order.blank; position = get_or s.positions at 0 }) ≡ line_shown K s place
  unfolding line_shown
  shown_entry place at z l p e =
      let e' : wrap (length s.values) (s.start + place) ≡ at = rw l (sym e) in
      rw (z, listed_at K.order.blank (length s.values) s.values s.positions s.start s.count place at (record { value = K.order.blank; position = 0 }) p e')

-- ---- the start

module _ {A : Type 0} (K : Samples A) (kind left right pixels number : ℕ) (s : State A) (e : number ≡ line_start_number kind left right pixels) where
  pub start_refused : number ≢ 0 → s ≡ first_line K 0 0 0 0 → LineStart K kind left right pixels number s
  start_refused h z = record { told = e; refuses = λ _. z; begins = λ y. absurd (h (e ∙ y)) }

  pub start_begun : number ≡ 0 → s ≡ first_line K kind left right pixels → LineStart K kind left right pixels 0 s
  start_begun z y = record { told = sym z ∙ e; refuses = λ h. absurd (h (sym e ∙ z)); begins = λ _. y }
