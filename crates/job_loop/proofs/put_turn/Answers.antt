-- The turn, and the copy of what it puts, for which there is room.
use mathlib.Core.Path.{sym, ap}
use mathlib.Core.List.{◌++◌}
use lib.ListN.{drop}
use lib.Seq.{length-take-le}
use Rattle.job_loop.proofs.Going.{stands, part_fits, same_parts}
use Rattle.job_loop.proofs.put_turn.Goals as goal

pub turn-turned-requires : goal.turn-turned-requires
turn-turned-requires c = let p = c.requires in (stands p.0, p.1, p.2, p.3)

pub slice_bounds-copy_from_slice-end-4 : goal.slice_bounds-copy_from_slice-end-4
slice_bounds-copy_from_slice-end-4 c = sym (length-take-le _ _ c.turn-turned.ensures.put_there)

pub slice_bounds-copy_from_slice-end : goal.slice_bounds-copy_from_slice-end
slice_bounds-copy_from_slice-end c = part_fits c.requires.0 c.turn-turned.ensures

pub slice_bounds-copy_from_slice-end-2 : goal.slice_bounds-copy_from_slice-end-2
slice_bounds-copy_from_slice-end-2 c = sym (length-take-le _ _ (part_fits c.requires.0 c.turn-turned.ensures))

pub copy_from_slice-requires : goal.copy_from_slice-requires
copy_from_slice-requires c = sym (same_parts c.requires.0 c.turn-turned.ensures)

pub returns : goal.returns
returns c =
    record { turns = c.turn-turned.ensures; inside = part_fits c.requires.0 c.turn-turned.ensures; stands = ap (λ l. l ++ drop c.turn-turned.result.put c.args.out.now) c.copy_from_slice.ensures.after }
