-- `Cursor::leaf` reads a record that owns nothing: each return is a law of `Leaves`, by the tests that led there.
use Rattle.std.proofs.Common.{sym, arith}
use denote.Enum.Bare.{same_true, same_false}
use Rattle.records.specs.contracts.standings.Standing.{the_type}
use Rattle.records.proofs.Leaves.{Opened, no_room_lem, head_cut, first_cut, other_head, primitive_is, call_is, bad_call_lem}
use Rattle.records.proofs.Leaves.{marker_is, marker_stray, marker_most, marker_cut}
use Rattle.records.proofs.Cursor.leaf.Goals as goal
use Rattle.records.proofs.Cursor.leaf.Goals.{In_ok-first, then-not-may_stand-via-then-not-may_stand, then-not-may_stand-via-else-not-may_stand+then-not-is_in_range}

pub returns-then-s-lt8 : goal.returns-then-s-lt8
returns-then-s-lt8 c = no_room_lem c.args.s.now c.args.place c.args.self.at (λ next p. omega (arith, p.past, p.inside))

pub returns-then-s-self : goal.returns-then-s-self
returns-then-s-self c = no_room_lem c.args.s.now c.args.place c.args.self.at (λ next p. omega (arith, p.past, p.inside))

pub returns-then-place-eq0 : goal.returns-then-place-eq0
returns-then-place-eq0 c = no_room_lem c.args.s.now c.args.place c.args.self.at (λ next p. omega (arith, p.deep))

pub returns-in_err-head : goal.returns-in_err-head
returns-in_err-head c = rw c.from_residual.ensures (head_cut _ c.args.place _ c.type_inv.s c.in_err-head.ensures)

pub returns-in_err-first : goal.returns-in_err-first
returns-in_err-first c = rw c.from_residual-in_err-first.ensures (first_cut _ c.args.place _ c.type_inv.s _ _ c.in_ok-head.ensures c.in_err-first.ensures)

-- once the head and the first field are read
abbrev opened : In_ok-first → Opened
opened c = record {
  s = c.args.s.now;
  place = c.args.place;
  at = c.args.self.at;
  are = c.type_inv.s;
  deep = c.if-place-eq0.false;
  head = c.in_ok-head.head;
  rest = c.in_ok-head.c;
  read = c.in_ok-head.ensures;
  first = c.in_ok-first.first;
  next = c.in_ok-first.next;
  read_first = c.in_ok-first.ensures;
}

pub returns-then-is_primitive : goal.returns-then-is_primitive
returns-then-is_primitive c = primitive_is (opened (goal.at.returns-then-is_primitive c).In_ok-first) c.if-is_primitive.true

pub returns-then-is_bad_call : goal.returns-then-is_bad_call
returns-then-is_bad_call c = bad_call_lem (opened (goal.at.returns-then-is_bad_call c).In_ok-first) c.if-head-eq524296.true (sym c.if-is_bad_call.ensures)

pub returns-then-head-eq524296 : goal.returns-then-head-eq524296
returns-then-head-eq524296 c = call_is (opened (goal.at.returns-then-head-eq524296 c).In_ok-first) c.if-head-eq524296.true (sym c.if-is_bad_call.ensures)

pub returns-then-not-may_stand : goal.returns-then-not-may_stand
returns-then-not-may_stand c =
    let o = opened (goal.at.returns-then-not-may_stand c).In_ok-first in
    elim c.then-not-may_stand.branch [
      | then-not-may_stand-via-then-not-may_stand w ↦ marker_stray o c.if-head-eq589836.true (same_false the_type _ _ (sym w.if-not-may_stand.ensures))
      | then-not-may_stand-via-else-not-may_stand+then-not-is_in_range w ↦ marker_most o c.if-head-eq589836.true w.if-not-is_in_range.true
    ]

pub returns-in_err-second : goal.returns-in_err-second
returns-in_err-second c =
    rw c.from_residual-in_err-second.ensures (marker_cut (opened (goal.at.returns-in_err-second c).In_ok-first) c.if-head-eq589836.true c.in_err-second.ensures)

pub returns-then-head-eq589836 : goal.returns-then-head-eq589836
returns-then-head-eq589836 c = marker_is (opened (goal.at.returns-then-head-eq589836 c).In_ok-first) c.if-head-eq589836.true (same_true the_type tt _ _ (sym c.if-not-may_stand.ensures)) c.if-not-is_in_range.false c.in_ok-second.ensures

pub returns : goal.returns
returns c = other_head (opened (goal.at.returns c).In_ok-first) c.if-is_primitive.false c.if-head-eq524296.false c.if-head-eq589836.false
