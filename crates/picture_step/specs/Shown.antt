-- What a read-out of a picture answers: document 01's number and values for each case.
use Rattle.std.specs.Prelude.{Result, Ok, Err}
use Rattle.morph.specs.declared.refusal.Refusal.{Refusal}
use Rattle.morph.specs.Refusals.{refusal_number}
use Rattle.morph.specs.Line.{Shown, found, refused}
use Rattle.queue.specs.declared.RowEntry.{RowEntry}

abbrev pub shown : {A : Type 0} → Result (RowEntry A) Refusal → Shown A
shown (Ok e) = found (record { value = e.value; position = e.position })
shown (Err refusal) = refused (refusal_number refusal)
