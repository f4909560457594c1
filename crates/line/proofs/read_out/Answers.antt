-- `read_out` meets its contract, by what it is judged.
use mathlib.Core.Path.{◌≡◌, sym, ap, ◌∙◌}
use native.Mathlib.Omega.{arith}
use lib.ListN.{length}
use borrow.Author.Rules.{rules}
use Rattle.std.specs.Prelude.{Result, Ok, Err}
use Rattle.std.specs.Result.{IsErrAnd}
use Rattle.morph.specs.declared.refusal.Refusal.{Refusal}
use Rattle.morph.specs.Refusals.{refusal_number}
use Rattle.morph.specs.Line.{refused}
use Rattle.morph.proofs.Exits.{refused_some}
use Rattle.queue.specs.declared.Entry.{Entry}
use Rattle.line.specs.Line.{line_state, entry_shown}
use Rattle.line_judge.specs.Steps.{ReadOutNumber}
use Rattle.line_judge.proofs.Numbers.{out_zero}
use Rattle.line_judge.proofs.Steps.{shown_refused, shown_entry}
use Rattle.line.proofs.read_out.Goals as goal

-- a refusal, handed up
shown_up : {A : Type 0} (refusal : Refusal) (r : Result (Entry A) Refusal) → IsErrAnd r (λ e. e ≡ refusal) → entry_shown r ≡ refused (refusal_number refusal)
shown_up refusal (Ok _) h = absurd h
shown_up refusal (Err _) h = ap (λ e. refused (refusal_number e)) h

pub returns-in_err-judge_read_out : goal.returns-in_err-judge_read_out
returns-in_err-judge_read_out g c =
    let e = c.in_err-judge_read_out.field-0.0 in
    let h = rw c.shape.ensures at c.in_err-judge_read_out.ensures in
    shown_up e _ c.from_residual.ensures.1 ∙ shown_refused g.S.Sample.samples (line_state c.args.line) _ _ h (refused_some e)

pub slot-at-requires : goal.slot-at-requires
slot-at-requires g c =
    let z : 0 ≡ ReadOutNumber g.S.Sample.samples (line_state c.args.line) c.args.place = rw c.shape.ensures at c.in_ok-judge_read_out.ensures in
    let (s, l) = out_zero _ _ _ _ _ _ _ _ (sym z) in
    (s.below, omega (arith, s.fits, s.back_fits, s.ahead_fits), omega arith)

pub returns : goal.returns
returns g c =
    let z : 0 ≡ ReadOutNumber g.S.Sample.samples (line_state c.args.line) c.args.place = rw c.shape.ensures at c.in_ok-judge_read_out.ensures in
    let l : length c.args.line.queue.values ≡ 63 = search rules in
    let (_, p) = out_zero _ _ _ _ _ _ _ _ (sym z) in
    rw (c.cell.ensures.0, c.cell.ensures.1) (shown_entry g.S.Sample.samples (line_state c.args.line) _ _ (sym z) l p c.slot-at.ensures.0)
