-- The row is copied, and the copy filtered in place.
use mathlib.Core.Path.{refl, sym, ◌∙◌}
use native.Mathlib.Omega.{arith}
use Rattle.morph.specs.Line.{filter_line}
use Rattle.morph.proofs.Exits.{said_up, refused_some}
use Rattle.line_judge.proofs.Numbers.{back_fits, ahead_fits}
use Rattle.firmware.proofs.Laws.{row_zero, filtered}
use Rattle.firmware.proofs.filter_row.Goals as goal

pub returns-in_err-which : goal.returns-in_err-which
returns-in_err-which c =
    let r = c.in_err-which.field-0.0 in
    let e = c.in_err-which.ensures.number in
    record { told = said_up r _ c.from_residual.ensures.1 e; refuses = λ _. refl; filters = λ z. absurd (refused_some r (e ∙ z)) }

pub copy_from_slice-requires : goal.copy_from_slice-requires
copy_from_slice-requires c = sym (row_zero _ _ _ _ _ (sym c.in_ok-which.ensures.number)).1

pub across-requires : goal.across-requires
across-requires c =
    let (s, _) = row_zero _ _ _ _ _ (sym c.in_ok-which.ensures.number) in
    let k = c.in_ok-which.which in
    let b = back_fits k c.args.left c.args.right s.left_fits s.right_fits in
    let a = ahead_fits k c.args.left c.args.right s.left_fits s.right_fits in
    let n = s.pixels_fit in
    (omega arith, omega arith, rw c.copy_from_slice.ensures.after n)

pub returns : goal.returns
returns c =
    let z = sym c.in_ok-which.ensures.number in
    record {
      told = sym z;
      refuses = λ h. absurd (h z);
      filters = λ _. filtered filter_line c.args.kind _ _ _ _ _ c.args.input.now _ c.in_ok-which.ensures.kind c.back-back.ensures.0 c.ahead-ahead.ensures.0 c.copy_from_slice.ensures.after c.across.ensures.filtered;
    }
