-- What a write took is the next of the bytes.
use Rattle.std.proofs.Common.{◌++◌, take, ap, sym, ◌∙◌, subst, rules}
use Rattle.std.specs.Io.KnownBytes.{Appends}
use Rattle.std.proofs.KnownBytes.{Appends-trans}
use Rattle.std.proofs.lemmas.List.{take_rest}
use lib.Seq.{take-add}
use Rattle.descriptors.proofs.write_whole.Goals as goal

pub loop-done-preserved : goal.loop-done-preserved
loop-done-preserved g c =
    let done = c.loop-done.done in
    let taken = c.in-Some.taken in
    let same = ap (λ l. take done c.args.bytes.now ++ take taken l) (take_rest c.args.bytes.now done) ∙ sym (take-add done taken c.args.bytes.now) in
    (search rules, subst (Appends _ _) same (Appends-trans _ _ _ _ _ c.loop-done.invariant.1 c.in-Some.ensures.2))
