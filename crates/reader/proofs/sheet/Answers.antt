-- `sheet`: a refused sheet record refuses, and a good one has at most 64 routines (records, `sheet_fine`), which `routines` reads.
use Rattle.std.proofs.Common.{sym, ap₂, ◌∙◌}
use Rattle.records.proofs.Good.{sheet_fine}
use Rattle.reader.specs.Reader.{report_of}
use Rattle.reader.proofs.Under.{sheet_refused, sheet_good}
use Rattle.reader.proofs.sheet.Goals as goal

pub routines-requires : goal.routines-requires
routines-requires c = ((sheet_fine c.args.s.now (sym c.in-Ok.ensures)).few, c.requires.0, c.requires.1)

pub returns-in-Err : goal.returns-in-Err
returns-in-Err c = ap₂ report_of c.refused.ensures c.none.ensures ∙ sym (sheet_refused c.args.s.now c.args.number (sym c.in-Err.ensures))

pub returns-in-Ok : goal.returns-in-Ok
returns-in-Ok c = rw (sheet_good c.args.s.now c.args.number (sym c.in-Ok.ensures)) c.routines.ensures
