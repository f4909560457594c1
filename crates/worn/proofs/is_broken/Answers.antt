-- Each way out is a rule that is broken, or that none is but perhaps the last.
use mathlib.Core.Path.{refl, sym, ◌∙◌}
use native.Mathlib.Omega.{arith}
use Rattle.worn.proofs.Sound.{erred, passed, most_fits, broken_rule, broken_row, broken_sum, sized}
use Rattle.worn.proofs.is_broken.Goals as goal

pub returns-then-is_err : goal.returns-then-is_err
returns-then-is_err c = broken_rule _ c.judge_closing.ensures (erred c.judge_closing.result (sym c.is_err.ensures.value ∙ c.if-is_err.true))

pub returns-then-given : goal.returns-then-given
returns-then-given c = broken_row _ c.judge_closing.ensures (passed c.judge_closing.result (sym c.is_err.ensures.value ∙ c.if-is_err.false)) c.if-given.true

pub overflow_mul-most : goal.overflow_mul-most
overflow_mul-most c =
    let (w, r) = sized c.args.given c.judge_closing.ensures (passed c.judge_closing.result (sym c.is_err.ensures.value ∙ c.if-is_err.false)) in
    omega (arith, w)

pub overflow_mul-most-2 : goal.overflow_mul-most-2
overflow_mul-most-2 c =
    let Q = c.args.given in
    let (w, r) = sized Q c.judge_closing.ensures (passed c.judge_closing.result (sym c.is_err.ensures.value ∙ c.if-is_err.false)) in
    omega (arith, most_fits Q.width Q.row w (omega (arith, r, c.if-given.false)))

pub returns : goal.returns
returns c = broken_sum _ c.judge_closing.ensures (passed c.judge_closing.result (sym c.is_err.ensures.value ∙ c.if-is_err.false)) c.if-given.false refl
