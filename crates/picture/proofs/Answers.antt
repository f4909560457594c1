-- A read-out's answer is one value: what it says tells which. By which idea: an entry says nothing that a refusal says, and what each holds is told.
use Rattle.std.specs.Prelude.{◌≡◌, Result, Ok, Err}
use Rattle.std.proofs.Common.{ap}
use Rattle.morph.specs.declared.refusal.Refusal.{Refusal}
use Rattle.morph.proofs.Exits.{refusal_same}
use Rattle.morph.specs.Line.{Entry}
use Rattle.queue.specs.declared.RowEntry.{RowEntry}
use Rattle.picture_step.specs.Shown.{shown}

pub shown_told : {A : Type 0} (r q : Result (RowEntry A) Refusal) → shown r ≡ shown q → r ≡ q
shown_told {A} (Ok e) (Ok f) h =
    let q : ◌≡◌ {A = Entry A} (record { value = e.value; position = e.position }) (record { value = f.value; position = f.position }) = cc in
    ap (λ (x : Entry A). Ok (record { value = x.value; position = x.position })) q
shown_told (Ok e) (Err n) h = cc
shown_told (Err n) (Ok e) h = cc
shown_told (Err n) (Err m) h = ap Err (refusal_same n m cc)
