-- `columns::sound` meets its contract. The loop's invariant: the flag is that of the records passed.
use Rattle.std.proofs.Common.{◌≡◌, refl, length, length-append}
use Rattle.std.proofs.lemmas.Slice.Zip.{zip_turn}
use Rattle.std.specs.Iterator.Adapters.{zip_first, zip_second}
use Rattle.std.specs.Slice.Iter.{iter_rest}
use Rattle.memory.specs.Memory.{sound_records}
use Rattle.columns.proofs.Records.{judge_next}
use Rattle.columns.proofs.sound.Goals as goal

pub loop-start-init : goal.loop-start-init
unfolding sound_records
loop-start-init c = refl

pub loop-start-preserved : goal.loop-start-preserved
loop-start-preserved c =
    let l = c.loop-start in
    let z = c.zip-start-items in
    let s = c.into_iter-start-iterator in
    let seconds : iter_rest (zip_second z.result) ≡ c.args.lengths.now = z.ensures.second.0 in
    let first : iter_rest (zip_first s.result) ≡ c.args.starts.now = cc (s.ensures.into_iter_gives, z.ensures.first, c.iter.ensures.rest) in
    let second : iter_rest (zip_second s.result) ≡ c.args.lengths.now = cc (s.ensures.into_iter_gives, seconds) in
    let (here, there, start, count) = zip_turn c.args.starts.now c.args.lengths.now l.yielded s.result l.start-iterator c.next.new.self c.next.result first second l.yielded_by _ c.in-Some.is c.next.ensures.steps in
    rw length-append (judge_next _ _ _ (length l.yielded) _ _ here there l.invariant (rw (c.narrow-p.ensures, start 0, count 0) at c.sound_record-good.ensures))
