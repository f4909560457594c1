-- What a line's numbers tell: a line that is not broken is sound, and an accepted call has what it needs.
use mathlib.Core.Path.{◌≡◌}
use mathlib.Core.Bool.{Bool, true, false}
use mathlib.Core.List.{[], ◌∷◌}
use Prim.Native.Nat.{ℕ, ◌+◌, ◌≤◌, ◌<◌}
use native.Mathlib.Omega.{arith}
use borrow.Author.Tests.{ltb-false, leb-false, le-ltb, lt-leb}
use lib.Dec.{ltb, leb}
use Rattle.morph.specs.declared.Kind.{Kind}
use Rattle.morph.specs.declared.Kind.TheVariants.{Erosion, Dilation}
use Rattle.morph.specs.Order.{kind_of, reach_back, ahead_of}
use Rattle.morph.specs.Numbers.{outside, is_extent_over}
use Rattle.morph.proofs.Lists.{split, neither}
use Rattle.morph.proofs.Numbers.{inside, not_outside, extents_fit, none_over}
use Rattle.line_judge.specs.Numbers.{window_of, broken, line_start_number, line_read_number, line_drain_number, line_read_out_number}
use Rattle.line_judge.specs.Inner.{LineSound}

pub back_fits : (kind : Kind) (left right : ℕ) → left ≤ 31 → right ≤ 31 → reach_back kind left right ≤ 31
back_fits Erosion left right h k = h
back_fits Dilation left right h k = k

pub ahead_fits : (kind : Kind) (left right : ℕ) → left ≤ 31 → right ≤ 31 → ahead_of kind left right ≤ 31
ahead_fits Erosion left right h k = k
ahead_fits Dilation left right h k = h

module _ (kind : Kind) (left right pixels step start count : ℕ) where
  pub sound_broken : broken kind left right pixels step start count ≡ false → LineSound kind left right pixels step start count
  unfolding broken
  sound_broken h =
      let (e, f) = neither (is_extent_over (left ∷ right ∷ [])) _ h in
      let (l, (r, _)) = extents_fit (left ∷ right ∷ []) e in
      let (n, g) = neither (outside 65535 pixels) _ f in
      let (z, m) = inside 65535 pixels n in
      let (s, i) = neither (ltb (pixels + ahead_of kind left right) step) _ g in
      let (b, c) = neither (leb 63 start) (ltb (window_of kind left right) count) i in
      record {
        left_fits = l;
        right_fits = r;
        back_fits = back_fits kind left right l r;
        ahead_fits = ahead_fits kind left right l r;
        some = z;
        pixels_fit = m;
        step_fits = ltb-false _ step s;
        below = leb-false 63 start b;
        fits = ltb-false _ count c;
      }

  pub broken_sound : LineSound kind left right pixels step start count → broken kind left right pixels step start count ≡ false
  unfolding broken
  broken_sound h =
      rw (
        none_over (left ∷ right ∷ []) (h.left_fits, (h.right_fits, tt)),
        not_outside 65535 pixels h.some h.pixels_fit,
        le-ltb (pixels + ahead_of kind left right) step h.step_fits,
        lt-leb 63 start h.below,
        le-ltb (window_of kind left right) count h.fits,
      )

  pub read_zero : (good : Bool) → line_read_number kind left right pixels step start count good ≡ 0 → LineSound kind left right pixels step start count × (step < pixels) × (good ≡ true)
  unfolding line_read_number
  read_zero good h =
      split (broken kind left right pixels step start count)
      (λ b. absurd (omega (arith, rw b at h)))
      (λ b. split (leb pixels step)
      (λ l. absurd (omega (arith, rw (b, l) at h)))
      (λ l. split good (λ g. (sound_broken b, leb-false pixels step l, g)) (λ g. absurd (omega (arith, rw (b, l, g) at h)))))

  pub drain_zero : line_drain_number kind left right pixels step start count ≡ 0 → LineSound kind left right pixels step start count × (pixels ≤ step) × (step < pixels + ahead_of kind left right)
  unfolding line_drain_number
  drain_zero h =
      split (broken kind left right pixels step start count)
      (λ b. absurd (omega (arith, rw b at h)))
      (λ b. split (ltb step pixels)
      (λ l. absurd (omega (arith, rw (b, l) at h)))
      (λ l. split (leb (pixels + ahead_of kind left right) step)
      (λ g. absurd (omega (arith, rw (b, l, g) at h)))
      (λ g. (sound_broken b, ltb-false step pixels l, leb-false _ step g))))

  pub out_zero : (place : ℕ) → line_read_out_number kind left right pixels step start count place ≡ 0 → LineSound kind left right pixels step start count × (place < count)
  unfolding line_read_out_number
  out_zero place h =
      split (broken kind left right pixels step start count)
      (λ b. absurd (omega (arith, rw b at h)))
      (λ b. split (leb count place) (λ l. absurd (omega (arith, rw (b, l) at h))) (λ l. (sound_broken b, leb-false count place l)))

  -- and the other way round

  pub sound_read : (good : Bool) → LineSound kind left right pixels step start count → step < pixels → good ≡ true → line_read_number kind left right pixels step start count good ≡ 0
  unfolding line_read_number
  sound_read good h l g = rw (broken_sound h, lt-leb pixels step l, g)

  pub sound_drain : LineSound kind left right pixels step start count → pixels ≤ step → step < pixels + ahead_of kind left right → line_drain_number kind left right pixels step start count ≡ 0
  unfolding line_drain_number
  sound_drain h l g = rw (broken_sound h, le-ltb step pixels l, lt-leb _ step g)

  pub sound_out : (place : ℕ) → LineSound kind left right pixels step start count → place < count → line_read_out_number kind left right pixels step start count place ≡ 0
  unfolding line_read_out_number
  sound_out place h l = rw (broken_sound h, lt-leb count place l)

-- an accepted start begins a sound line
pub start_zero : (kind left right pixels : ℕ) → line_start_number kind left right pixels ≡ 0 → LineSound (kind_of kind) left right pixels 0 0 0
unfolding line_start_number
start_zero kind left right pixels h =
    split (ltb 1 kind)
    (λ a. absurd (omega (arith, rw a at h)))
    (λ a. split (is_extent_over (left ∷ right ∷ []))
    (λ b. absurd (omega (arith, rw (a, b) at h)))
    (λ b. split (outside 65535 pixels)
    (λ d. absurd (omega (arith, rw (a, b, d) at h)))
    (λ d.
    let (l, (r, _)) = extents_fit (left ∷ right ∷ []) b in
    let (z, m) = inside 65535 pixels d in
    record {
      left_fits = l;
      right_fits = r;
      back_fits = back_fits (kind_of kind) left right l r;
      ahead_fits = ahead_fits (kind_of kind) left right l r;
      some = z;
      pixels_fit = m;
      step_fits = omega arith;
      below = omega arith;
      fits = omega arith;
    })))

-- a start within the bounds is accepted
pub start_accepted : (kind left right pixels : ℕ) → kind ≤ 1 → left ≤ 31 → right ≤ 31 → 0 < pixels → pixels ≤ 65535 → line_start_number kind left right pixels ≡ 0
unfolding line_start_number
start_accepted kind left right pixels k l r n m =
    rw (le-ltb 1 kind k, none_over (left ∷ right ∷ []) (l, (r, tt)), not_outside 65535 pixels n m)
