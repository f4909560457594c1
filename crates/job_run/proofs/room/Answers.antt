-- By the head, as it is opened: its width and its row count are within their bounds where it is accepted.
use Rattle.job_run.proofs.Lengths.{room_refused, room_full, opened_few}
use Rattle.job_run.proofs.room.Goals as goal

pub full_room-requires : goal.full_room-requires
full_room-requires c = opened_few c.args.job.now c.in-Ok.ensures

pub returns-in-Ok : goal.returns-in-Ok
returns-in-Ok c = room_full c.args.job.now c.in-Ok.ensures c.full_room.ensures

pub returns-in-Err : goal.returns-in-Err
returns-in-Err c = room_refused c.args.job.now c.in-Err.field-0 c.in-Err.ensures
