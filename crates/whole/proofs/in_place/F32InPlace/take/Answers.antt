-- It stands as it is, or a pixel is not finite, or it is cleaned.
use mathlib.Core.Path.{refl, sym, ◌∙◌}
use lib.Dec.{T}
use lib.Ieee.{nan, binary32, fits}
use Rattle.passes.proofs.Flat.{each_of}
use Rattle.whole_judge.proofs.Reading.{read_as_is, read_cleaned}
use Rattle.whole.proofs.in_place.F32InPlace.take.Goals as goal

pub returns-then-all_accepted : goal.returns-then-all_accepted
returns-then-all_accepted c = read_as_is c.args.picture.now (each_of (λ x. T (fits binary32 x)) nan c.args.picture.now (λ i _. c.slice_known-1.given i)) (sym c.all_accepted.ensures ∙ c.if-all_accepted.true)

pub returns-then-first-picture : goal.returns-then-first-picture
returns-then-first-picture c = (c.first_not_finite-first.ensures, c.if-first-picture.true, refl)

pub returns : goal.returns
returns c = read_cleaned c.args.picture.now (each_of (λ x. T (fits binary32 x)) nan c.args.picture.now (λ i _. c.slice_known-1.given i)) c.first_not_finite-first.ensures _ c.if-first-picture.false c.clean.ensures
