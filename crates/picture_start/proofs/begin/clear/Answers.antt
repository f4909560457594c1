-- The front is filled with zeros, and the bytes behind it stay.
use mathlib.Core.Path.{◌≡◌, ap, ◌∙◌}
use mathlib.Core.List.{List, ◌++◌}
use Prim.Native.Nat.{ℕ}
use lib.ListN.{length, take, drop, replicate}
use Rattle.std.proofs.lemmas.List.{length-take-le}
use Rattle.std.proofs.Common.{rules}
use Rattle.picture_start.specs.Start.{cleared}
use Rattle.picture_start.proofs.begin.clear.Goals as goal

pub returns : goal.returns
unfolding cleared
returns c =
    let bytes = c.args.bytes.now in
    let n = c.args.n in
    let l : length (take n bytes) ≡ n = length-take-le n bytes c.requires in
    ap (λ (front : List ℕ). front ++ drop n bytes) (c.fill.ensures.after (λ y e. search rules) ∙ ap (λ (k : ℕ). replicate k 0) l)
