-- What `only` tells of the sheet's record is the document's judgement of it.
use Rattle.records.proofs.Judging.{sheet_is}
use Rattle.records.proofs.Cursor.sheet.Goals as goal

pub returns-in-Ok : goal.returns-in-Ok
returns-in-Ok c = sheet_is _ _ c.type_inv.s c.in-Ok.ensures

pub returns-in-Err : goal.returns-in-Err
returns-in-Err c = rw c.refusal.ensures (sheet_is _ _ c.type_inv.s c.in-Err.ensures)
