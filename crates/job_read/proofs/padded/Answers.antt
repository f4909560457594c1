-- The front is the part, and what lies behind it stays zero.
use mathlib.Core.Path.{ap, ◌∙◌}
use mathlib.Core.List.{◌++◌}
use lib.ListN.{length, drop, replicate}
use Rattle.std.proofs.lemmas.List.{drop-replicate}
use Rattle.job_read.proofs.padded.Goals as goal

pub returns : goal.returns
returns c =
    let part = c.args.part.now in
    ap (λ l. l ++ drop (length part) (replicate 80 0)) c.copy_from_slice.ensures.after ∙ ap (λ l. part ++ l) (drop-replicate (length part) 80 0)
