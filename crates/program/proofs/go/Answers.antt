-- `Going` is carried round.
use Rattle.std.proofs.Common.{◌≡◌, length, arith}
use Rattle.program.proofs.Runs.{wants_few, runs_stands, going_first, told_lost, going_lost, going_latest, fetched_latest, turned_due, turned_lost, going_next}
use Rattle.program.proofs.go.Goals as goal

pub loop-machine-init : goal.loop-machine-init
loop-machine-init g c = (going_first _ _ _ _ _ c.requires.0 c.requires.5 c.at_head-machine.ensures c.nothing.ensures, c.requires.2)

pub fetch-requires : goal.fetch-requires
fetch-requires g c =
    let r = c.loop-machine.invariant.0 in
    let w = wants_few (runs_stands r.runs) (c.is_on.ensures.0 c.loop-machine-test.true) in
    (r.there, omega (arith, c.loop-machine.auto.bytes, c.requires.1), going_latest r)

pub returns-in_err-fetched : goal.returns-in_err-fetched
returns-in_err-fetched g c = told_lost _ c.fetch.new.total c.from_residual.ensures.1 (going_lost c.loop-machine.invariant.0 c.fetch.new.total c.in_err-fetched.ensures)

pub send-requires : goal.send-requires
send-requires g c =
    let l = c.loop-machine in
    let f = c.fetch in
    let t = c.turn-turned in
    let had = c.in_ok-fetched.ensures in (
      omega (arith, t.ensures.put_there, t.auto.frame, l.invariant.1),
      fetched_latest l.invariant.0 had (omega (arith, f.auto.bytes, l.auto.bytes, c.requires.1)),
      turned_due l.invariant.0 had (c.is_on.ensures.0 c.loop-machine-test.true) t.ensures had.short,
    )

pub returns-in_err-moved : goal.returns-in_err-moved
returns-in_err-moved g c =
    let had = c.in_ok-fetched.ensures in
    told_lost _ c.send.new.total c.from_residual-in_err-moved.ensures.1 (turned_lost c.loop-machine.invariant.0 had (c.is_on.ensures.0 c.loop-machine-test.true) c.turn-turned.ensures had.short c.send.new.total c.in_err-moved.ensures)

pub loop-machine-preserved : goal.loop-machine-preserved
loop-machine-preserved g c =
    let l = c.loop-machine in
    let f = c.fetch in
    let t = c.turn-turned in
    let k = c.keep-left in
    let had = c.in_ok-fetched.ensures in
    let size : length f.new.bytes ≡ 16384 = omega (arith, f.auto.bytes, l.auto.bytes, c.requires.1) in
    let framed : length t.new.frame ≡ 16385 = omega (arith, t.auto.frame, l.invariant.1) in
    (going_next l.invariant.0 had (c.is_on.ensures.0 c.loop-machine-test.true) t.ensures had.short size framed k.auto.bytes c.in_ok-moved.ensures k.ensures, framed)
