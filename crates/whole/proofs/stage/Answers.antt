-- Across by rows and then down the columns is the stage: `stage_applied`.
use mathlib.Core.Path.{◌∙◌}
use native.Mathlib.Omega.{arith}
use Rattle.whole_judge.proofs.Plan.{stage_applied, stage_crossed}
use Rattle.whole.proofs.stage.Goals as goal

pub down_ahead-requires : goal.down_ahead-requires
down_ahead-requires g c =
    let a = c.args in
    let u = c.above-above.ensures in
    let d = c.below-below.ensures in (
      c.picture-1.given ∙ c.requires.0,
      omega (arith, d.1),
      stage_crossed g.S.Sample.samples.order g.S.Choice.Fair g.met.S.Choice.told a.stage a.grid.width a.grid.rows a.picture.now a.row.now _ _ c.requires.0 c.requires.2 _ _ _ _ c.back_across-back.ensures.0 c.ahead_across-ahead.ensures.0 u.0 d.0 c.across.ensures,
    )

pub returns : goal.returns
returns g c =
    let a = c.args in
    stage_applied g.S.Sample.samples.order g.S.Choice.Fair g.met.S.Choice.told a.stage a.grid.width a.grid.rows a.picture.now a.row.now _ _ c.requires.0 c.requires.2 _ _ _ _
    c.back_across-back.ensures.0
    c.ahead_across-ahead.ensures.0
    c.above-above.ensures.0
    c.below-below.ensures.0
    c.across.ensures _ _
    c.down_ahead.ensures
    c.down_back.ensures
