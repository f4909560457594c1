-- Four stores, one after another.
use Rattle.std.proofs.Common.{ap, ◌∙◌, ◌++◌, ◌+◌, take, drop}
use Rattle.sample.specs.Bytes.{digits_of}
use Rattle.sample.proofs.Bytes.{four_stores}
use Rattle.sample.proofs.rate.to_bytes.Goals as goal

pub returns : goal.returns
returns c =
    let a = c.args in
    four_stores a.bytes.now a.at c.to_pattern-n.result c.requires ∙ ap (λ n. take a.at a.bytes.now ++ digits_of n ++ drop (a.at + 4) a.bytes.now) c.to_pattern-n.ensures
