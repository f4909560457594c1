-- The row fills with the floats of its bytes.
use mathlib.Core.Path.{sym, ◌∙◌}
use native.Mathlib.Omega.{arith}
use lib.ListN.{length}
use lib.Ieee.{nan}
use Rattle.sample.proofs.Rows.{fill_start, fill_next}
use Rattle.sample.specs.Bytes.{floats_of}
use Rattle.floats.proofs.Bytes.{length_floats, get_d_floats}
use Rattle.floats.proofs.take_in.Goals as goal

pub loop-i-init : goal.loop-i-init
loop-i-init c = let a = c.args in fill_start (floats_of (length a.row.now) a.bytes.now) a.row.now (sym (length_floats (length a.row.now) a.bytes.now))

pub loop-i-preserved : goal.loop-i-preserved
loop-i-preserved c =
    let l = c.loop-i in
    let a = c.args in
    let k = l.invariant.kept in
    let f = length_floats (length a.row.now) a.bytes.now in
    fill_next _ _ l.row l.i l.invariant nan (omega arith) _ (c.from_bytes.ensures ∙ sym (get_d_floats (length a.row.now) a.bytes.now l.i (omega arith)))
