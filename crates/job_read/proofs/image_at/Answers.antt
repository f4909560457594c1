-- Five bytes, and then what they say.
use mathlib.Core.Path.{refl}
use lib.ListN.{drop, length-drop}
use native.Mathlib.Omega.{arith}
use Rattle.std.proofs.lemmas.List.{take_rest}
use Rattle.job_read.proofs.Sections.{head_refused, section_short, section_five}
use Rattle.job_read.proofs.image_at.Goals as goal

pub returns-in_default : goal.returns-in_default
returns-in_default c =
    let a = c.args in
    let k = rw (take_rest a.bytes.now a.at) at c.in_default.ensures.cases in
    head_refused (drop a.at a.bytes.now) refl (section_short a.bytes.now a.at (omega (arith, length-drop a.at a.bytes.now))) (λ z. omega arith)

pub returns : goal.returns
returns c =
    let a = c.args in
    let k = rw (take_rest a.bytes.now a.at) at c.in-Some.ensures.cases in
    section_five a.bytes.now a.at (omega (arith, k.enough, length-drop a.at a.bytes.now)) k.same c.image_of.ensures
