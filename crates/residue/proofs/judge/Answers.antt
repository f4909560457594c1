-- Each way out is the first broken rule, or that there is none.
use Rattle.std.proofs.Common.{refl, le-leb, eq-eqb, ne_eqb}
use Rattle.std.proofs.lemmas.Bool.{lt-leb}
use Rattle.plan_record.proofs.Exits.{first_up}
use Rattle.residue.specs.Inner.{band_number}
use Rattle.residue.proofs.Numbers.{by_size, by_rest}
use Rattle.residue.proofs.judge.Goals as goal
use Rattle.residue.proofs.judge.Goals.{then-width-reach-via-then-width-reach, then-width-reach-via-else-width-reach+then-rows-reach}

pub returns-in_err-judge_extents : goal.returns-in_err-judge_extents
unfolding band_number
returns-in_err-judge_extents c = first_up c.in_err-judge_extents.field-0.0 _ _ _ c.from_residual.ensures.1 c.in_err-judge_extents.ensures

pub returns-in_err-judge_size : goal.returns-in_err-judge_size
returns-in_err-judge_size c =
    by_size _ _ _ _ _ _ _ _ c.in_ok-judge_extents.ensures (first_up c.in_err-judge_size.field-0.0 _ _ _ c.from_residual-in_err-judge_size.ensures.1 c.in_err-judge_size.ensures)

pub returns-then-rows-row : goal.returns-then-rows-row
returns-then-rows-row c = by_rest _ _ _ _ _ _ _ _ c.in_ok-judge_extents.ensures c.in_ok-judge_size.ensures (rw (le-leb _ _ c.if-rows-row.true) refl)

pub returns-then-length-width : goal.returns-then-length-width
returns-then-length-width c =
    by_rest _ _ _ _ _ _ _ _ c.in_ok-judge_extents.ensures c.in_ok-judge_size.ensures (rw (lt-leb _ _ c.if-rows-row.false, ne_eqb _ _ c.if-length-width.true) refl)

pub returns-then-width-reach : goal.returns-then-width-reach
returns-then-width-reach c =
    by_rest _ _ _ _ _ _ _ _ c.in_ok-judge_extents.ensures c.in_ok-judge_size.ensures
    (rw (lt-leb _ _ c.if-rows-row.false, eq-eqb _ _ c.if-length-width.false, ← c.reach.ensures.0)
    (elim c.then-width-reach.branch [
      | then-width-reach-via-then-width-reach w ↦ rw (le-leb _ _ w.if-width-reach.true) refl
      | then-width-reach-via-else-width-reach+then-rows-reach w ↦ rw (lt-leb _ _ w.if-width-reach.false, ← w.reach-else-width-reach.ensures.0, le-leb _ _ w.if-rows-reach.true) refl
    ]))

pub returns : goal.returns
returns c =
    by_rest _ _ _ _ _ _ _ _ c.in_ok-judge_extents.ensures c.in_ok-judge_size.ensures
    (rw (lt-leb _ _ c.if-rows-row.false, eq-eqb _ _ c.if-length-width.false, ← c.reach.ensures.0, lt-leb _ _ c.if-width-reach.false, ← c.reach-else-width-reach.ensures.0, lt-leb _ _ c.if-rows-reach.false) refl)
