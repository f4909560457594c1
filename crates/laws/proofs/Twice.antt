-- The laws together, over any order, and for the two kinds of samples. What is said of closings and erosions is what is said of openings and dilations in the order turned round.
use mathlib.Core.Path.{◌≡◌}
use mathlib.Core.Bool.{true, false}
use mathlib.Core.List.{map}
use Prim.Native.Nat.{ℕ}
use lib.Dec.{T, eqb}
use lib.IntN.{pos}
use lib.ListN.{length, length-map}
use lib.Ieee.{Float, nan, inf, fin, binary32, fits}
use lib.Ieee.Fits.{cond-fits}
use lib.Ieee.Scale.{finite}
use Rattle.morph.specs.Lists.{Each}
use Rattle.morph.specs.Order.{Order}
use Rattle.morph.specs.Grey.{grey}
use Rattle.morph.specs.Rate.{rate, plus_zero_of}
use Rattle.morph.specs.Picture.{Picture}
use Rattle.morph.proofs.Lists.{each_in, each_weaken, each_map}
use Rattle.plan_record.specs.Plan.{used}
use Rattle.sample.proofs.Floats.{accepted_plus}
use Rattle.laws.specs.Laws.{Sized, Told, Taken, Twice}
use Rattle.laws.proofs.Adjoint.{turned, opened_below, closed_above, stages_monotone}
use Rattle.laws.proofs.Same.{Good, told_turned, opening_twice, dilation_twice}
use Rattle.laws.proofs.Alternating.{opening_closing_twice, alternating_twice}
use Rattle.laws.proofs.Alike.{grey_told, rate_told}

pub twice : {A : Type 0} (O : Order A) (W H : ℕ) (P : A → Type 0) → Told O P → (p : Picture A) → Sized W H p → Each (Each P) p → Twice O W H p
twice O W H P told p z u =
    let g : Good W H P p = record { sized = z; each = u } in
    let T' = told_turned O P told in
    record {
      sized = z;
      opening_twice = opening_twice O W H P told p g;
      closing_twice = λ a b c d. opening_twice (turned O) W H P T' p g b a d c;
      opened_below = λ a b c d. opened_below O W H a b c d p z;
      closed_above = λ a b c d. closed_above O W H a b c d p z;
      monotone = λ plan q w f. stages_monotone O W H (used plan) p q z w f;
      dilation_twice = dilation_twice O W H P told p g;
      erosion_twice = λ a b c d a' b' c' d'. dilation_twice (turned O) W H P T' p g b a d c b' a' d' c';
      opening_closing_twice = opening_closing_twice O W H P told p g;
      closing_opening_twice = λ a b c d a' b' c' d'. opening_closing_twice (turned O) W H P T' p g b a d c b' a' d' c';
      alternating_twice = alternating_twice O W H P told p g;
    }

-- ---- of every grey picture

pub grey_twice : (W H : ℕ) (p : Picture ℕ) → Sized W H p → Twice grey W H p
grey_twice W H p z = twice grey W H (λ a. Unit {0}) grey_told p z (each_in p (λ r _. each_in r (λ a _. tt)))

-- ---- of every float picture, as it is read

pub rate_twice : (W H : ℕ) (p : Picture Float) → Sized W H p → Each (Each Taken) p → Twice rate W H p
rate_twice W H p z u = twice rate W H Taken rate_told p z u

-- what a finite float is read as
pub read_taken : (x : Float) → T (fits binary32 x) → finite x ≡ true → Taken (plus_zero_of x)
unfolding fits
read_taken nan p h = (p, h)
read_taken (inf s) p h = (p, h)
read_taken (fin s m e) p h = (cond-fits binary32 (eqb m 0) (fin false 0 (pos 0)) (fin s m e) tt p, accepted_plus (fin s m e) h)

-- so of every picture of finite floats, each as it is read
pub read_twice : (W H : ℕ) (p : Picture Float) → Sized W H p → Each (Each (λ x. T (fits binary32 x) × (finite x ≡ true))) p → Twice rate W H (map (map plus_zero_of) p)
read_twice W H p z u =
    rate_twice W H (map (map plus_zero_of) p) (record { wide = each_map _ (map plus_zero_of) p (each_weaken _ _ p (λ r (e : length r ≡ W). rw (length-map r) e) z.wide); high = rw (length-map p) z.high })
    (each_map _ (map plus_zero_of) p (each_weaken _ _ p (λ r v. each_map Taken plus_zero_of r (each_weaken _ _ r (λ x (f, h). read_taken x f h) v)) u))
