-- `read_on` meets its contract, by the law of line_judge's proofs/Steps.antt.
use Rattle.line.specs.Line.{line_state}
use Rattle.line_judge.proofs.Steps.{read_accepts}
use Rattle.line.proofs.read_on.Goals as goal

pub returns : goal.returns
returns g c =
    let a = c.args.line in
    let h = c.requires in
    let w = rw c.shape.ensures at c.window-window.ensures.0 in
    let e = c.position.ensures in
    let p = c.push-pushed.ensures in
    read_accepts g.S.Sample.samples (line_state a) h.0 h.1 p.5 p.6 _ c.push-pushed.result.room _ _ w e (rw e at p.0) _ _ (rw (p.1, p.2, p.3) at c.step_on.ensures.1) (rw (p.1, p.2, p.3, p.4) at c.step_on.ensures.0)
