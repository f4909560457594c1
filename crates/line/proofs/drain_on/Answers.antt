-- `drain_on` meets its contract, by the law of line_judge's proofs/Steps.antt.
use Rattle.line.specs.Line.{line_state}
use Rattle.line_judge.proofs.Steps.{drain_accepts}
use Rattle.line.proofs.drain_on.Goals as goal

pub returns : goal.returns
returns g c =
    let h = c.requires in
    let w = rw c.shape.ensures at c.window-window.ensures.0 in
    drain_accepts g.S.Sample.samples (line_state c.args.line) h.0 h.1 h.2 c.step_on.ensures.2 _ _ _ w c.goes-gone.ensures.0 c.slot.ensures.0 c.slot.ensures.1 _ _ c.step_on.ensures.1 c.step_on.ensures.0
