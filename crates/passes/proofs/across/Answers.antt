-- The rows before y are filtered, and the others are as they were.
use Rattle.std.proofs.Common.{refl, arith, length-take, length-drop}
use Rattle.passes.proofs.Rows.{cross_next, row_within, row_each, used_again}
use Rattle.passes.proofs.across.Goals as goal

pub line-requires : goal.line-requires
line-requires g c =
    let p = c.requires in (
      rw (length-take, length-drop, length-take) (omega (arith, row_within _ _ _ _ _ _ _ _ c.loop-y.invariant.0 (omega arith))),
      p.2,
      p.3,
      row_each _ _ _ _ _ _ _ _ c.loop-y.invariant.0 (omega arith) g.S.Choice.Fair _ refl p.4,
    )

pub loop-y-preserved : goal.loop-y-preserved
loop-y-preserved g c =
    let l = c.loop-y in
    (cross_next _ _ _ _ _ _ l.y l.picture l.invariant.0 (omega arith) _ _ refl c.line.ensures, used_again _ _ l.row c.line.new.t c.requires.1 c.row-1.given.1 l.invariant.1)
