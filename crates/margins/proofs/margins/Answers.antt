-- `margins`: short lists are refused before anything is read; the bounds are filled in, the deadlines judged, and only then is anything written.
use Rattle.std.proofs.Common.{rules, sym, ◌∙◌}
use Rattle.reader.specs.Said.{said_of}
use Rattle.margins.proofs.Plans.{filled_so, no_room_lem, short_lists, long_lists, Read, may_write, some_bad, none_bad}
use Rattle.margins.proofs.margins.Goals as goal
use Rattle.margins.proofs.margins.Goals.{After-out_of_range}

pub returns-then-no_room : goal.returns-then-no_room
returns-then-no_room c =
    no_room_lem c.args.sheet.now c.args.table.now c.args.deadlines.now c.args.margins.now c.if-no_room.true

pub returns-then-short_list : goal.returns-then-short_list
returns-then-short_list c =
    short_lists c.args.sheet.now c.args.table.now c.args.deadlines.now c.args.margins.now c.if-no_room.false (sym c.if-short_list.ensures)

-- what is known once the deadlines are judged
known : (c : After-out_of_range) →
    Read c.args.sheet.now c.args.table.now c.args.deadlines.now c.args.margins.now (said_of c.fill-filled.result.answer) c.fill-filled.result.routines
    c.fill-filled.new.table
known c =
    let filled = c.fill-filled.ensures in
    record {
      long = long_lists _ _ _ c.if-no_room.false (sym c.if-short_list.ensures);
      before = _;
      fills = filled_so _ _ (search rules) filled.answer_value filled.routines_value filled.table_after;
    }

pub write_out-requires-clause-in_range : goal.write_out-requires-clause-in_range
write_out-requires-clause-in_range c =
    may_write _ _ _ _ (known (goal.at.write_out-requires-clause-in_range c).After-out_of_range) (sym c.out_of_range.ensures ∙ c.in-None.is)

pub returns-in-None : goal.returns-in-None
returns-in-None c =
    none_bad _ _ _ _ (known (goal.at.returns-in-None c).After-out_of_range) (sym c.out_of_range.ensures ∙ c.in-None.is)
    c.write_out.ensures.table_after c.write_out.ensures.margins_after

pub returns-in-Some : goal.returns-in-Some
returns-in-Some c =
    some_bad _ _ _ _ (known (goal.at.returns-in-Some c).After-out_of_range) (sym c.out_of_range.ensures ∙ c.in-Some.is)
