-- `show` meets its contract: the place is there exactly where it is below the record's length.
use mathlib.Core.Path.{refl, sym, ◌∙◌}
use native.Mathlib.Omega.{arith}
use Rattle.picture_state.proofs.ReadingOut.{show_lacks, show_finds}
use Rattle.picture_step.proofs.show.Goals as goal

pub returns-then-from-k : goal.returns-then-from-k
returns-then-from-k g c =
    show_lacks g.S.Sample.samples c.args.places c.args.x c.args.values.now c.args.positions.now c.args.starts.now c.args.lengths.now c.args.k c.args.s _ _ c.from.ensures c.if-from-k.true refl

pub entry-requires : goal.entry-requires
entry-requires g c =
    let (l, v, x, d) = c.requires in
    (l.places, x, v ∙ l.positions_long, sym v, l.sound.below _ x, omega (arith, l.sound.fits c.args.x x, c.from.ensures, c.if-from-k.false), d)

pub returns : goal.returns
returns g c =
    show_finds g.S.Sample.samples c.args.places c.args.x c.args.values.now c.args.positions.now c.args.starts.now c.args.lengths.now c.args.k c.args.s _ _ c.from.ensures _ _ c.if-from-k.false c.entry.ensures refl
