-- Whole runs. By which idea: each accepted step takes the line's queue one step on and answers as the line does, and a refused call changes nothing.
use mathlib.Core.Path.{◌≡◌, refl, sym, ap, ◌∙◌, subst}
use mathlib.Core.Bool.{true, false}
use mathlib.Core.List.{List, [], ◌∷◌, ◌++◌, map, append-nil}
use Prim.Native.Nat.{ℕ, zero, suc, ◌+◌, ◌-◌, ◌≤◌, ◌<◌, min}
use native.Mathlib.Nat.{not-suc-le-zero, zero-sub}
use native.Mathlib.Numerals.{add-one}
use native.Mathlib.Omega.{arith}
use borrow.Author.Tests.{leb-true, leb-false, le-leb, lt-ltb}
use lib.Dec.{leb}
use lib.ListN.{length, take, get_or, length-map, length-drop, length-take}
use lib.Seq.{slice}
use lib.Ieee.{Float}
use lib.Ieee.Scale.{finite}
use Rattle.morph.specs.Order.{Order, ahead_of, kind_of}
use Rattle.morph.specs.Rate.{plus_zero_of}
use Rattle.morph.specs.Lists.{tabulate, Each, In}
use Rattle.morph.specs.Line.{Entry, output_at, best_at, filter_line, queue, line_cost, line_costs}
use Rattle.morph.specs.Origin.{answer_at, positions_line}
use Rattle.morph.proofs.Lists.{split, length_tabulate, get_d_tabulate, tabulate_ext, take_tabulate, tabulate_snoc, each_map, each_weaken, each_tabulate, in_each, in_slice, place_in}
use Rattle.morph.proofs.Line.{best_in, queue_start, costs_bound}
use Rattle.morph.proofs.Origin.{answer_value, answer_latest, latest_only}
use Rattle.sample.specs.Samples.{Samples, rates}
use Rattle.sample.specs.Rate.{accepted}
use Rattle.sample.proofs.Floats.{accepted_plus}
use Rattle.queue.proofs.Laws.{listed_none}
use Rattle.line_judge.specs.Steps.{State, PixelSaid, pixel, is_not_yet, refused, say_at, first_line, LineStart, Broken, ReadNumber, DrainNumber, Queue, LeftBy, pixel_said_over, Accepts}
use Rattle.line.specs.Runs.{LineRun, started, offered, drained, offer_refused, drain_refused, pixel_of, pixel_comparisons, entries_of, pixels_of, together, order, back, ahead, line_window, taken_line, pixel_said_at, LineRan, LatestTold}
use Rattle.line_judge.proofs.Numbers.{sound_broken, broken_sound, start_zero, read_zero, sound_read, sound_drain}
use Rattle.line_judge.proofs.Steps.{SoundState}

-- ---- lists

get_d_map : {A B : Type 0} (f : A → B) (l : List A) (i : ℕ) (d : A) (e : B) → i < length l → get_or (map f l) i e ≡ f (get_or l i d)
get_d_map f [] i d e h = absurd (not-suc-le-zero h)
get_d_map f (a ∷ l) zero d e h = refl
get_d_map f (a ∷ l) (suc i) d e h = get_d_map f l i d e (omega arith)

map_tabulate : {A B : Type 0} (g : A → B) (n : ℕ) (f : ℕ → A) → map g (tabulate n f) ≡ tabulate n (λ k. g (f k))
map_tabulate g zero f = refl
map_tabulate g (suc n) f = ap (λ l. g (f zero) ∷ l) (map_tabulate g n (λ k. f (suc k)))

-- the first of a list that is tabulated
first_tabulate : {A : Type 0} (n m : ℕ) (f : ℕ → A) → n ≤ m → take n (tabulate m f) ≡ tabulate n f
first_tabulate n m f h = let e : min n m ≡ n = omega arith in take_tabulate n m f ∙ ap (λ k. tabulate k f) e

module _ {A : Type 0} where
  entries_more : (said : List (PixelSaid A)) (a : PixelSaid A) → entries_of (said ++ (a ∷ [])) ≡ entries_of said ++ entries_of (a ∷ [])
  entries_more [] a = refl
  entries_more (pixel e n c ∷ said) a = ap (λ l. e ∷ l) (entries_more said a)
  entries_more (is_not_yet c ∷ said) a = entries_more said a
  entries_more (refused n p ∷ said) a = entries_more said a

  together_more : (said : List (PixelSaid A)) (a : PixelSaid A) → together (said ++ (a ∷ [])) ≡ together said + pixel_comparisons a
  together_more [] a = omega arith
  together_more (b ∷ said) a = omega (arith, together_more said a)

-- an answer is one of the line's values
pub answer_member : {A : Type 0} (O : Order A) (back ahead : ℕ) (xs : List A) (x : ℕ) → x < length xs → In (best_at O back ahead xs x) xs
unfolding best_at
answer_member O back ahead xs x h =
    let l : 0 < length (slice (x - back) (x + ahead + 1) xs) = rw (length-drop, length-take) (omega arith) in
    let (k, _, _, m, e) = in_slice O.blank (x - back) (x + ahead + 1) xs _ (best_in O (slice (x - back) (x + ahead + 1) xs) l) in
    rw e (place_in O.blank xs k m)

-- ---- a run

module _ {A : Type 0} (K : Samples A) (kind left right : ℕ) (raw : List A) where
  abbrev Good : Type 0
  Good = Each (λ a. K.good a ≡ true) raw

  abbrev R : State A → List (PixelSaid A) → Type 0
  R = LineRun K kind left right raw

  abbrev N : ℕ
  N = length raw

  abbrev F : ℕ
  F = ahead K kind left right raw

  abbrev xs : List A
  xs = taken_line K kind left right raw

  abbrev queue_at : ℕ → List (Entry A)
  queue_at t = queue (order K kind left right raw) (line_window K kind left right raw) xs t

  abbrev says : ℕ → PixelSaid A
  says = pixel_said_at K kind left right raw

  -- what holds after each call
  record Going (s : State A) (said : List (PixelSaid A)) : Type 0 where
    kind_is : s.kind ≡ kind_of kind
    left_is : s.left ≡ left
    right_is : s.right ≡ right
    pixels_is : s.pixels ≡ N
    sound : Broken K s ≡ false
    queued : Good → Queue K s ≡ queue_at s.step
    told : Good → said ≡ tabulate s.step says

  long : length xs ≡ N
  long = length-map raw K.taken

  module _ (s : State A) (said : List (PixelSaid A)) (h : Going s said) where
    left_by : Good → LeftBy K s xs
    left_by g = record {
      long = long ∙ sym h.pixels_is;
      good = each_map _ K.taken raw (each_weaken _ _ raw K.keeps g);
      queued = rw (h.kind_is, h.left_is, h.right_is) (h.queued g);
    }

    said_over : pixel_said_over K s xs ≡ says s.step
    said_over = rw (h.kind_is, h.left_is, h.right_is)

    moved : (a : PixelSaid A) (s' : State A) (next : List A → Type 0) → Accepts K s a s' next → (Good → next xs) → Going s' (said ++ (a ∷ []))
    moved a s' next k n =
        let c : s'.step ≡ suc s.step = k.counted ∙ add-one s.step in
        record {
          kind_is = k.kind_kept ∙ h.kind_is;
          left_is = k.left_kept ∙ h.left_is;
          right_is = k.right_kept ∙ h.right_is;
          pixels_is = k.pixels_kept ∙ h.pixels_is;
          sound = k.sound;
          queued = λ g. rw (h.kind_is, h.left_is, h.right_is) at (k.follows xs (left_by g) (n g)).queued ∙ ap queue_at (sym k.counted);
          told = λ g.
              ap (λ l. l ++ (a ∷ [])) (h.told g)
              ∙ ap (λ b. tabulate s.step says ++ (b ∷ [])) ((k.follows xs (left_by g) (n g)).says ∙ said_over)
              ∙ sym (tabulate_snoc s.step says)
              ∙ ap (λ m. tabulate m says) (sym c);
        }

    kept : (s' : State A) → s' ≡ s → Going s' said
    kept s' e = rw e h

    sound_state : SoundState K s
    sound_state = sound_broken s.kind s.left s.right s.pixels s.step s.start s.count h.sound

  first : (s : State A) → LineStart K kind left right N 0 s → Going s []
  unfolding first_line
  first s h =
      let z = sym h.told in
      let f = start_zero kind left right N z in
      rw (h.begins z)
      (record {
        kind_is = refl;
        left_is = refl;
        right_is = refl;
        pixels_is = refl;
        sound = broken_sound (kind_of kind) left right N 0 0 0 f;
        queued = λ g. listed_none K.order.blank 63 _ _ 0 ∙ sym (queue_start (order K kind left right raw) (line_window K kind left right raw) xs 0 refl);
        told = λ g. refl;
      })

  going : {s : State A} {said : List (PixelSaid A)} → R s said → Going s said
  going (started {s} h) = first s h
  going (offered {s} {s'} {a} {said} r z h) =
      let i = going r in
      let (_, l, _) = read_zero s.kind s.left s.right s.pixels s.step s.start s.count _ z in
      moved s said i a s' _ (h.accepts z) (λ g. get_d_map K.taken raw s.step K.order.blank K.order.blank (omega (arith, i.pixels_is)))
  going (drained {s} {s'} {a} {said} r z h) = moved s said (going r) a s' _ (h.accepts z) (λ g. tt)
  going (offer_refused {s} {s'} {a} {said} v r z h) = kept s said (going r) s' (h.refuses z).kept
  going (drain_refused {s} {s'} {a} {said} r z h) = kept s said (going r) s' (h.refuses z).kept

  -- ---- what the answers are together

  pixel_at_law : (t : ℕ) → t < N + F → pixel_of (says t) ≡ output_at N (best_at (order K kind left right raw) (back K kind left right raw) F xs) F t
  unfolding say_at output_at
  pixel_at_law t h =
      split (leb F t)
      (λ p. rw (p, lt-ltb (t - F) N (omega (arith, leb-true F t p)), answer_value (order K kind left right raw) (back K kind left right raw) F xs (t - F)))
      (λ p. rw p)

  entries_told : (n : ℕ) → entries_of (tabulate n says) ≡ tabulate (n - F) (answer_at (order K kind left right raw) (back K kind left right raw) F xs)
  unfolding say_at
  entries_told zero = rw zero-sub
  entries_told (suc n) =
      let i = entries_told n in
      split (leb F n)
      (λ p.
      let e : suc n - F ≡ suc (n - F) = omega (arith, leb-true F n p) in
      rw (tabulate_snoc n says, entries_more (tabulate n says) (says n), p, e, tabulate_snoc (n - F), i))
      (λ p.
      let e : suc n - F ≡ 0 = omega (arith, leb-false F n p) in
      let e' : n - F ≡ 0 = omega (arith, leb-false F n p) in
      rw (tabulate_snoc n says, entries_more (tabulate n says) (says n), p, e, append-nil, i, e'))

  cost_told : (t : ℕ) → pixel_comparisons (says t) ≡ line_cost (order K kind left right raw) (line_window K kind left right raw) xs t
  unfolding say_at
  cost_told t = split (leb F t) (λ p. rw p) (λ p. rw p)

  costs_told : (n : ℕ) → together (tabulate n says) ≡ line_costs (order K kind left right raw) (line_window K kind left right raw) xs n
  costs_told zero = refl
  costs_told (suc n) = ap together (tabulate_snoc n says) ∙ together_more (tabulate n says) (says n) ∙ ap (λ k. k + pixel_comparisons (says n)) (costs_told n) ∙ ap (λ k. line_costs (order K kind left right raw) (line_window K kind left right raw) xs n + k) (cost_told n)

  module _ (s : State A) (said : List (PixelSaid A)) (r : R s said) where
    step_bound : s.step ≤ N + F
    step_bound = let i = going r in rw (i.kind_is, i.left_is, i.right_is, i.pixels_is) at (sound_state s said i).step_fits

    -- the theorem of a run: over pixels that are accepted ones, any run is the line's
    pub run_line : Good → LineRan K kind left right raw s said
    unfolding filter_line positions_line
    run_line g =
        let i = going r in
        let O = order K kind left right raw in
        let b = step_bound in
        let w = line_window K kind left right raw in
        let t : together said ≡ line_costs O w xs s.step = ap together (i.told g) ∙ costs_told s.step in
        let m : s.step - F ≤ length xs = omega (arith, long) in
        let B = back K kind left right raw in
        let best-at = best_at O B F xs in
        let entries : entries_of said ≡ tabulate (s.step - F) (answer_at O B F xs) = ap entries_of (i.told g) ∙ entries_told s.step in
        let f : pixels_of said ≡ tabulate (s.step - F) best-at =
        ap (map (λ e. e.value)) entries ∙ map_tabulate (λ e. e.value) (s.step - F) (answer_at O B F xs) ∙ tabulate_ext (s.step - F) _ best-at (λ k l. answer_value O B F xs k) in
        record {
          counted = ap length (i.told g) ∙ length_tabulate s.step says;
          bounded = b;
          queued = i.queued g;
          says = i.told g;
          outputs = λ j l. rw (i.told g, get_d_tabulate s.step says j (is_not_yet 0) l) (pixel_at_law j (omega arith));
          filtered = f ∙ sym (first_tabulate (s.step - F) (length xs) best-at m);
          positions = ap (map (λ e. e.position)) entries ∙ map_tabulate (λ e. e.position) (s.step - F) (answer_at O B F xs) ∙ sym (first_tabulate (s.step - F) (length xs) _ m);
          costs = t;
          few = omega (arith, t, costs_bound O w xs (omega arith) s.step, long);
          member = λ v n.
              in_each (λ u. In u xs) (tabulate (s.step - F) best-at) v
              (each_tabulate _ (s.step - F) best-at (λ k l. answer_member O (back K kind left right raw) F xs k (omega (arith, long)))) (subst (In v) f n);
        }

    -- and each output has the latest position that gave it
    pub run_latest : Good → (x : ℕ) → x + F < s.step → LatestTold K kind left right raw said x
    unfolding say_at
    run_latest g x l =
        let i = going r in
        let O = order K kind left right raw in
        let B = back K kind left right raw in
        let b = step_bound in
        let e : x + F - F ≡ x = omega arith in
        let p = answer_latest O B F xs x (omega (arith, long)) in
        record {
          entry = answer_at O B F xs x;
          comparisons = line_cost O (line_window K kind left right raw) xs (x + F);
          says = rw (i.told g, get_d_tabulate s.step says (x + F) (is_not_yet 0) l, le-leb F (x + F) (omega arith), e);
          latest = p;
          only = λ other q. latest_only O B F xs x other (answer_at O B F xs x) q p;
        }

    -- a run leaves what the promises of the next call ask for
    pub run_left : Good → LeftBy K s xs
    run_left g = left_by s said (going r) g

    -- ---- the calls of a run are accepted

    -- a pixel that is an accepted one, while there are pixels to read
    pub run_reads : s.step < N → K.good (get_or raw s.step K.order.blank) ≡ true → ReadNumber K s (get_or raw s.step K.order.blank) ≡ 0
    run_reads l g = let i = going r in sound_read s.kind s.left s.right s.pixels s.step s.start s.count _ (sound_state s said i) (omega (arith, i.pixels_is)) g

    -- a drain, once all are read and until the last output
    pub run_drains : N ≤ s.step → s.step < N + F → DrainNumber K s ≡ 0
    run_drains l h =
        let i = going r in
        let e : s.step < s.pixels + ahead_of s.kind s.left s.right = rw (i.kind_is, i.left_is, i.right_is, i.pixels_is) h in
        sound_drain s.kind s.left s.right s.pixels s.step s.start s.count (sound_state s said i) (omega (arith, i.pixels_is)) e

-- ---- floats

-- "accepted pixels are finite. A negative zero is read as positive zero, so output never holds a negative zero."
pub rate_output : (kind left right : ℕ) (raw : List Float) (s : State Float) (said : List (PixelSaid Float)) → LineRun rates kind left right raw s said → Each (λ a. finite a ≡ true) raw
    → (v : Float) → In v (pixels_of said) → accepted v ≡ true
rate_output kind left right raw s said r g v i =
    in_each (λ u. accepted u ≡ true) (map plus_zero_of raw) v (each_map _ plus_zero_of raw (each_weaken _ _ raw accepted_plus g)) ((run_line rates kind left right raw s said r g).member v i)
