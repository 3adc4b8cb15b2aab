-- What `only` tells of the routine's record is the document's judgement of it.
use Rattle.records.proofs.Judging.{routine_is}
use Rattle.records.proofs.Cursor.routine.Goals as goal

pub returns-in-Ok : goal.returns-in-Ok
returns-in-Ok c = routine_is _ _ c.type_inv.s c.in-Ok.ensures

pub returns-in-Err : goal.returns-in-Err
returns-in-Err c = rw c.refusal.ensures (routine_is _ _ c.type_inv.s c.in-Err.ensures)
