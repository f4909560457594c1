-- Each byte is read as itself.
use Rattle.whole_judge.proofs.Reading.{read_bytes}
use Rattle.whole.proofs.in_place.U8InPlace.take.Goals as goal

pub returns : goal.returns
returns c = read_bytes c.args.picture.now
