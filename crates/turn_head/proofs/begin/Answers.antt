-- The start is taken, and then the head is written.
use native.Mathlib.Omega.{arith}
use Rattle.turn_head.proofs.First.{fits, at_there, started, first_small, begins}
use borrow.Author.Rules.{rules}
use Rattle.turn_head.proofs.begin.Goals as goal

pub overflow_sub-job : goal.overflow_sub-job
overflow_sub-job c =
    (at_there c.args.bytes.now c.requires.0 c.requires.1).0

pub put_head-requires : goal.put_head-requires
put_head-requires c =
    let a = at_there c.args.bytes.now c.requires.0 c.requires.1 in
    (omega arith, c.requires.2)

pub at_rows-requires : goal.at_rows-requires
at_rows-requires c =
    let job = c.args.job in
    let fit = fits c.args.bytes.now c.requires.0 c.requires.1 in
    let e = started job fit c.args.starts.now c.args.lengths.now _ _ c.start-started.result c.requires.3 c.requires.4 c.start-started.ensures in
    let (n, w, _) = first_small job fit in
    (rw e n, rw e w)

pub returns : goal.returns
returns c =
    begins c.args.bytes.now c.requires.0 c.requires.1 c.args.starts.now c.args.lengths.now _ _ _ c.start-started.result c.at_rows.result c.requires.3 c.requires.4 (search rules) c.start-started.ensures c.put_head.ensures c.at_rows.ensures
