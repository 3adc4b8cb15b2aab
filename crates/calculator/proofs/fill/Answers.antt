-- `fill` meets its contract: what was read reports what the definitions say (`read_law`), and only an accepted sheet is stored.
use Rattle.std.proofs.Common.{◌≤◌, sym, ap}
use mathlib.Core.Path.{subst}
use Rattle.reader.specs.Said.{said_of}
use Rattle.reader.specs.Reader.{reported}
use Rattle.bridge.proofs.Law.{Reported, read_law}
use Rattle.reader.proofs.Few.{few_read}
use Rattle.calculator.proofs.Laws.{no_room_lem, refuses, accepts}
use Rattle.calculator.proofs.fill.Goals as goal
use Rattle.calculator.proofs.fill.Goals.{After-read-report}

-- what was read, and of how many routines
read_is : (c : After-read-report) → Reported c.args.sheet.now 0 (reported c.read-report.result)
read_is c = subst (Reported c.args.sheet.now 0) (sym c.read-report.ensures) (read_law c.args.sheet.now 0)

few : (c : After-read-report) → c.read-report.result.bounds.count ≤ 64
few c = subst (λ r. r.bounds.count ≤ 64) (sym c.read-report.ensures) (few_read c.args.sheet.now 0).few

pub returns-then-no_room : goal.returns-then-no_room
returns-then-no_room c = rw c.none.ensures (no_room_lem c.args.sheet.now c.args.table.now c.if-no_room.true)

pub copy_out-requires : goal.copy_out-requires
copy_out-requires c = (few (goal.at.copy_out-requires c).After-read-report, c.if-no_room.false)

pub returns-in-Accepted : goal.returns-in-Accepted
returns-in-Accepted c =
    let read = (goal.at.returns-in-Accepted c).After-read-report in
    accepts c.args.table.now c.if-no_room.false (read_is read) (ap said_of c.in-Accepted.is) (few read) c.copy_out.ensures

pub returns-in-Refused : goal.returns-in-Refused
returns-in-Refused c =
    let read = (goal.at.returns-in-Refused c).After-read-report in
    rw c.none-in-Refused.ensures (refuses c.args.table.now c.if-no_room.false (read_is read) (ap said_of c.in-Refused.is))
