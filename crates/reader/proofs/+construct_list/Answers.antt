-- The readers of constructs and of their lists meet their contracts. Of the list that `f` reads, `f_child_is` says how a child is read: its loop
-- keeps `Summing` or `Branching` by what is told of the child; where there is no loop, `f_1` and so on are `Summing` after so many children.
use Rattle.std.proofs.Common.{ℕ, ◌≡◌, ◌+◌, ◌-◌, ◌*◌, ◌<◌, refl, sym, ap, ◌∙◌, length, arith, false}
use Rattle.std.specs.Prelude.{None, Ok}
use Rattle.reader.specs.Tallies.{aside_is, added_as, mark_as, aside_paid, counted, Valued, a_value, a_refusal}
use Rattle.reader.specs.Reader.{owner_of, child_of, owned_by, construct_of}
use Rattle.reader.proofs.Laws.{no_loop}
use Rattle.reader.proofs.Tells.{told_ended, tells_as, tells_value, tells_refusal, valued_small}
use Rattle.reader.proofs.Children.{sequence_child, condition_child, branch_child, head_child, tail_child}
use Rattle.reader.proofs.Constructs.{owner, refuses, primitive_alone, call_alone, marker_alone, call_range}
use Rattle.reader.proofs.Constructs.{sequence_range, alternative_range, head_range, tail_range, timed_range, good_deep, within_list}
use Rattle.reader.proofs.Reading.{found_as, unread, deeper_list, reached, passed_on, read_child, list_tells}
use Rattle.reader.proofs.Going.{going_first, child_lent, still_below}
use Rattle.reader.proofs.Summing.{Summing, paid_small, summing_first, summing_from, summing_small, summing_more, summing_ends}
use Rattle.reader.proofs.Branches.{branching_first, branching_more, branch_room, branch_limited, branching_ends}
use Rattle.reader.proofs.Timed.{timed_refused, timed_ends}
use Rattle.reader.proofs.+construct_list.Goals as goal
use Rattle.reader.proofs.+construct_list.Goals.{sequence-After-choose-standing, sequence-In_ok-v, alternative-In_ok-condition, alternative-After-branch_of-branch, alternative-In_ok-v}
use Rattle.reader.proofs.+construct_list.Goals.{head_loop-After-opened-before, head_loop-In_ok-init, head_loop-In_ok-condition, head_loop-In_ok-body, head_loop-In_ok-overrun}
use Rattle.reader.proofs.+construct_list.Goals.{tail_loop-After-opened-before, tail_loop-In_ok-body, tail_loop-In_ok-condition, tail_loop-In_ok-overrun}

-- `child` is what `construct` is, where it is not read at once.
pub child-returns-in-None-clause-tells : goal.child-returns-in-None-clause-tells
child-returns-in-None-clause-tells t c = unread c.args.way.now.passes c.in-None.ensures c.with_list.ensures.tells

-- `construct`: a record that owns nothing has its value (Constructs); any other hands one depth less to the reader of its list.
pub construct-returns-in_err-found-clause-tells : goal.construct-returns-in_err-found-clause-tells
construct-returns-in_err-found-clause-tells t c =
    a_refusal (refuses _ _ _ _ _ _ c.args.c (sym c.in_err-found.ensures)) (passed_on _ c.from_residual.ensures.1)

pub construct-deeper-deeper-requires : goal.construct-deeper-deeper-requires
construct-deeper-deeper-requires t c = good_deep _ _ _ _ c.args.c (sym c.in_ok-found.ensures)

pub construct-sequence-requires : goal.construct-sequence-requires
construct-sequence-requires t c =
    let r = sequence_range _ _ _ _ c.args.c (found_as c.in_ok-found.ensures c.in-Sequence.is) in
    (omega (arith, r.0.deep, c.deeper-deeper.ensures.0), (c.requires.lent, (within_list r.0, r.1)))

pub construct-returns-in-Sequence-clause-tells : goal.construct-returns-in-Sequence-clause-tells
unfolding owned_by
construct-returns-in-Sequence-clause-tells t c =
    let e = (found_as c.in_ok-found.ensures c.in-Sequence.is) in
    let (left, passes) = c.deeper-deeper.ensures in
    tells_as (owner _ _ _ _ _ _ c.args.c (sequence_range _ _ _ _ c.args.c e).0.deep e ∙ deeper_list _ _ _ _ _ _ _ _ _ _ left passes) c.sequence.ensures.tells

pub construct-alternative-requires : goal.construct-alternative-requires
construct-alternative-requires t c =
    let r = alternative_range _ _ _ _ c.args.c (found_as c.in_ok-found.ensures c.in-Alternative.is) in
    (omega (arith, r.0.deep, c.deeper-deeper.ensures.0), (c.requires.lent, (within_list r.0, (r.1, r.2))))

pub construct-returns-in-Alternative-clause-tells : goal.construct-returns-in-Alternative-clause-tells
unfolding owned_by
construct-returns-in-Alternative-clause-tells t c =
    let e = (found_as c.in_ok-found.ensures c.in-Alternative.is) in
    let (left, passes) = c.deeper-deeper.ensures in
    tells_as (owner _ _ _ _ _ _ c.args.c (alternative_range _ _ _ _ c.args.c e).0.deep e ∙ deeper_list _ _ _ _ _ _ _ _ _ _ left passes) c.alternative.ensures.tells

pub construct-head_loop-requires : goal.construct-head_loop-requires
construct-head_loop-requires t c =
    let r = head_range _ _ _ _ c.args.c (found_as c.in_ok-found.ensures c.in-HeadLoop.is) in
    (omega (arith, r.0.deep, c.deeper-deeper.ensures.0), (c.requires.lent, (within_list r.0, r.1)))

pub construct-returns-in-HeadLoop-clause-tells : goal.construct-returns-in-HeadLoop-clause-tells
unfolding owned_by
construct-returns-in-HeadLoop-clause-tells t c =
    let e = (found_as c.in_ok-found.ensures c.in-HeadLoop.is) in
    let (left, passes) = c.deeper-deeper.ensures in
    tells_as (owner _ _ _ _ _ _ c.args.c (head_range _ _ _ _ c.args.c e).0.deep e ∙ deeper_list _ _ _ _ _ _ _ _ _ _ left passes) c.head_loop.ensures.tells

pub construct-tail_loop-requires : goal.construct-tail_loop-requires
construct-tail_loop-requires t c =
    let r = tail_range _ _ _ _ c.args.c (found_as c.in_ok-found.ensures c.in-TailLoop.is) in
    (omega (arith, r.0.deep, c.deeper-deeper.ensures.0), (c.requires.lent, (within_list r.0, r.1)))

pub construct-returns-in-TailLoop-clause-tells : goal.construct-returns-in-TailLoop-clause-tells
unfolding owned_by
construct-returns-in-TailLoop-clause-tells t c =
    let e = (found_as c.in_ok-found.ensures c.in-TailLoop.is) in
    let (left, passes) = c.deeper-deeper.ensures in
    tells_as (owner _ _ _ _ _ _ c.args.c (tail_range _ _ _ _ c.args.c e).0.deep e ∙ deeper_list _ _ _ _ _ _ _ _ _ _ left passes) c.tail_loop.ensures.tells

pub construct-timed_loop-requires : goal.construct-timed_loop-requires
construct-timed_loop-requires t c =
    let r = timed_range _ _ _ _ c.args.c (found_as c.in_ok-found.ensures c.in-TimedLoop.is) in
    (omega (arith, r.0.deep, c.deeper-deeper.ensures.0), (c.requires.lent, (within_list r.0, r.1)))

pub construct-returns-in-TimedLoop-clause-tells : goal.construct-returns-in-TimedLoop-clause-tells
unfolding owned_by
construct-returns-in-TimedLoop-clause-tells t c =
    let e = (found_as c.in_ok-found.ensures c.in-TimedLoop.is) in
    let (left, passes) = c.deeper-deeper.ensures in
    tells_as (owner _ _ _ _ _ _ c.args.c (timed_range _ _ _ _ c.args.c e).0.deep e ∙ deeper_list _ _ _ _ _ _ _ _ _ _ left passes) c.timed_loop.ensures.tells

pub construct-overflow_sub-called : goal.construct-overflow_sub-called
construct-overflow_sub-called t c = (call_range _ _ _ _ c.args.c (found_as c.in_ok-found.ensures c.in-Call.is)).0

pub construct-offset_bounds-known-called : goal.construct-offset_bounds-known-called
construct-offset_bounds-known-called t c =
    omega (arith, (call_range _ _ _ _ c.args.c (found_as c.in_ok-found.ensures c.in-Call.is)).1, c.args.known.now.few)

pub construct-bounds-known-called : goal.construct-bounds-known-called
construct-bounds-known-called t c =
    omega (arith, call_range _ _ _ _ c.args.c (found_as c.in_ok-found.ensures c.in-Call.is), c.args.known.now.few)

pub construct-returns-in-Primitive-clause-tells : goal.construct-returns-in-Primitive-clause-tells
construct-returns-in-Primitive-clause-tells t c =
    a_value (primitive_alone _ _ _ _ _ _ c.args.c c.args.notes.now.at_most (found_as c.in_ok-found.ensures c.in-Primitive.is))

pub construct-returns-in-Call-clause-tells : goal.construct-returns-in-Call-clause-tells
construct-returns-in-Call-clause-tells t c =
    a_value (call_alone _ _ _ _ _ _ c.args.c c.args.notes.now.at_most c.args.known.now.small (found_as c.in_ok-found.ensures c.in-Call.is))

pub construct-returns-in-Marker-clause-tells : goal.construct-returns-in-Marker-clause-tells
construct-returns-in-Marker-clause-tells t c =
    a_value (marker_alone _ _ _ _ _ _ c.args.c c.args.notes.now.at_most (found_as c.in_ok-found.ensures c.in-Marker.is))

-- The children of `sequence` add up.
sequence_child_is : {t : ℕ} (c : sequence-After-choose-standing t) →
    let a = c.args in
    let l = c.loop-i in
    let read = construct_of a.way.now.left a.known.now.sheet.now a.known.now.bounds.now a.known.now.own in
    child_of read (owner_of 3 a.n false a.owner.start a.standing a.way.now.passes) l.i (a.held - a.held) l.at ≡ read c.choose-standing.result a.way.now.passes l.at
sequence_child_is c =
    let a = c.args in
    let l = c.loop-i in
    let standing = c.choose-standing.ensures ∙ rw (c.lead_of-lead.ensures, c.later_of-later.ensures) in
    sequence_child (construct_of a.way.now.left a.known.now.sheet.now a.known.now.bounds.now a.known.now.own) a.owner.start a.standing a.way.now.passes (a.held - a.held) l.at
    a.n l.i standing

sequence_child_valued : {t : ℕ} (c : sequence-In_ok-v t) →
    let a = c.args in
    let l = c.loop-i in
    let s = a.known.now.sheet.now in
    Valued (length s) l.at.at (aside_is l.notes)
    (child_of (construct_of a.way.now.left s a.known.now.bounds.now a.known.now.own) (owner_of 3 a.n false a.owner.start a.standing a.way.now.passes) l.i (a.held - a.held) l.at)
    (Ok (c.in_ok-v.v, c.in_ok-v.next)) (aside_is c.child.new.notes)
sequence_child_valued {t} c = read_child (sequence_child_is (goal.at.sequence-In_ok-v t c).After-choose-standing) c.in_ok-v.ensures.tells refl

pub sequence-loop-i-init : goal.sequence-loop-i-init
sequence-loop-i-init t c = summing_first _ _ _ _ _ _ _ _ c.requires.lent.kept c.requires.within c.args.notes.now.at_most c.requires.lent.valued

pub sequence-child-requires : goal.sequence-child-requires
sequence-child-requires t c = (omega arith, child_lent c.loop-i.invariant.going c.requires.lent.room)

pub sequence-returns-in_err-v-clause-tells : goal.sequence-returns-in_err-v-clause-tells
sequence-returns-in_err-v-clause-tells t c =
    let is = sequence_child_is (goal.at.sequence-returns-in_err-v-clause-tells t c).After-choose-standing in
    list_tells c.loop-i.invariant.going c.requires.lent.room c.loop-i-test.true is c.in_err-v.ensures.tells refl (passed_on _ c.from_residual.ensures.1)

pub sequence-returns-in_err-v-clause-marks_unchanged : goal.sequence-returns-in_err-v-clause-marks_unchanged
sequence-returns-in_err-v-clause-marks_unchanged t c = still_below _ c.loop-i.invariant.going c.child.ensures.marks_unchanged

pub sequence-loop-i-preserved : goal.sequence-loop-i-preserved
unfolding counted
sequence-loop-i-preserved t c =
    summing_more c.loop-i.invariant _ (sequence_child_valued (goal.at.sequence-loop-i-preserved t c).In_ok-v) refl c.requires.lent.room (no_loop refl)
    c.loop-i-test.true refl c.child.ensures.marks_unchanged c.child.ensures.marks_len_unchanged

pub sequence-returns-clause-tells : goal.sequence-returns-clause-tells
sequence-returns-clause-tells t c =
    told_ended (ap (λ v. Ok (v, c.loop-i.at)) c.ended.ensures.value) c.ended.ensures.aside_after
    (summing_ends c.loop-i.invariant {value = c.loop-i.sum} (omega (arith, c.loop-i-test.false, c.loop-i.invariant.going.count)) c.args.notes.now.at_most refl (omega arith))

-- The condition of `alternative`, then its branches.
condition_valued : {t : ℕ} (c : alternative-In_ok-condition t) →
    let a = c.args in
    let s = a.known.now.sheet.now in
    Valued (length s) a.owner.next.at (aside_is a.notes.now)
    (child_of (construct_of a.way.now.left s a.known.now.bounds.now a.known.now.own) (owner_of 4 a.n false a.owner.start a.standing a.way.now.passes) 0 (a.base - a.base) a.owner.next)
    (Ok (c.in_ok-condition.condition, c.in_ok-condition.at)) (aside_is c.child.new.notes)
condition_valued c =
    let a = c.args in
    let read = construct_of a.way.now.left a.known.now.sheet.now a.known.now.bounds.now a.known.now.own in
    read_child (condition_child read a.owner.start a.standing a.way.now.passes (a.base - a.base) a.owner.next a.n) c.in_ok-condition.ensures.tells refl

branch_is : {t : ℕ} (c : alternative-After-branch_of-branch t) →
    let a = c.args in
    let l = c.loop-branch in
    let read = construct_of a.way.now.left a.known.now.sheet.now a.known.now.bounds.now a.known.now.own in
    child_of read (owner_of 4 a.n false a.owner.start a.standing a.way.now.passes) (l._branch + 1) (l.held - a.base) l.at
    ≡ read c.branch_of-branch.result a.way.now.passes l.at
branch_is c =
    let a = c.args in
    let l = c.loop-branch in
    let read = construct_of a.way.now.left a.known.now.sheet.now a.known.now.bounds.now a.known.now.own in
    branch_child read a.owner.start a.standing a.way.now.passes (l.held - a.base) l.at a.n l._branch refl c.branch_of-branch.ensures

branch_valued : {t : ℕ} (c : alternative-In_ok-v t) →
    let a = c.args in
    let l = c.loop-branch in
    let s = a.known.now.sheet.now in
    Valued (length s) l.at.at (mark_as (aside_is l.notes) None)
    (child_of (construct_of a.way.now.left s a.known.now.bounds.now a.known.now.own) (owner_of 4 a.n false a.owner.start a.standing a.way.now.passes) (l._branch + 1) (l.held - a.base) l.at)
    (Ok (c.in_ok-v.v, c.in_ok-v.next)) (aside_is c.child-in-loop-branch.new.notes)
branch_valued {t} c = read_child (branch_is (goal.at.alternative-In_ok-v t c).After-branch_of-branch) c.in_ok-v.ensures.tells refl

pub alternative-returns-in_err-condition-clause-tells : goal.alternative-returns-in_err-condition-clause-tells
alternative-returns-in_err-condition-clause-tells t c =
    let a = c.args in
    let p = c.requires.lent in
    let read = construct_of a.way.now.left a.known.now.sheet.now a.known.now.bounds.now a.known.now.own in
    list_tells (going_first _ _ _ _ _ _ _ (aside_is a.notes.now) p.kept c.requires.within a.notes.now.at_most p.valued) p.room (omega arith)
    (condition_child read a.owner.start a.standing a.way.now.passes (a.base - a.base) a.owner.next a.n)
    c.in_err-condition.ensures.tells refl (passed_on _ c.from_residual.ensures.1)

pub alternative-loop-branch-init : goal.alternative-loop-branch-init
alternative-loop-branch-init t c =
    let p = c.requires.lent in
    branching_first _ _ _ _ _ _ _ _ _ _ _ p.kept c.requires.within c.args.notes.now.at_most p.valued p.room (condition_valued (goal.at.alternative-loop-branch-init t c).In_ok-condition)
    c.child.ensures.marks_unchanged c.child.ensures.marks_len_unchanged

pub alternative-child-requires-in-loop-branch : goal.alternative-child-requires-in-loop-branch
alternative-child-requires-in-loop-branch t c = (omega arith, child_lent c.loop-branch.invariant.going c.requires.lent.room)

pub alternative-returns-in_err-v-clause-tells : goal.alternative-returns-in_err-v-clause-tells
alternative-returns-in_err-v-clause-tells t c =
    let is = branch_is (goal.at.alternative-returns-in_err-v-clause-tells t c).After-branch_of-branch in
    list_tells c.loop-branch.invariant.going c.requires.lent.room (omega (arith, c.loop-branch-test.true)) is c.in_err-v.ensures.tells refl
    (passed_on _ c.from_residual-in_err-v.ensures.1)

pub alternative-returns-in_err-v-clause-marks_unchanged : goal.alternative-returns-in_err-v-clause-marks_unchanged
alternative-returns-in_err-v-clause-marks_unchanged t c = still_below _ c.loop-branch.invariant.going c.child-in-loop-branch.ensures.marks_unchanged

pub alternative-keep-held-requires : goal.alternative-keep-held-requires
alternative-keep-held-requires t c =
    let g = c.loop-branch.invariant in
    let w = branch_valued (goal.at.alternative-keep-held-requires t c).In_ok-v in
    let more : c.loop-branch._branch + 1 < c.args.n + 1 = omega (arith, c.loop-branch-test.true) in
    let k = c.child-in-loop-branch.ensures in (
      branch_room g _ w c.requires.lent.room (omega arith) more k.marks_unchanged k.marks_len_unchanged,
      valued_small w,
      branch_limited g _ w c.requires.lent.room (omega arith) more k.marks_unchanged k.marks_len_unchanged,
    )

pub alternative-loop-branch-preserved : goal.alternative-loop-branch-preserved
alternative-loop-branch-preserved t c =
    let w = branch_valued (goal.at.alternative-loop-branch-preserved t c).In_ok-v in
    let k = c.keep-held.ensures in
    rw c.topped-top.ensures
    (branching_more c.loop-branch.invariant _ w c.requires.lent.room (omega arith) (omega (arith, c.loop-branch-test.true))
    c.child-in-loop-branch.ensures.marks_unchanged c.child-in-loop-branch.ensures.marks_len_unchanged k.value k.marks_after k.marks_len_unchanged)

pub alternative-returns-clause-tells : goal.alternative-returns-clause-tells
alternative-returns-clause-tells t c =
    let g = c.loop-branch.invariant in
    told_ended (ap (λ v. Ok (v, c.loop-branch.at)) c.ended.ensures.value) c.ended.ensures.aside_after
    (branching_ends g (omega (arith, c.loop-branch-test.false, g.going.count)) c.args.notes.now.at_most c.charges-more.ensures.0
    (ap (added_as (mark_as (aside_is c.loop-branch.notes) c.child.new.notes.mark)) c.min-notes.ensures) refl)

-- The children of `head_loop` add up, as they are counted; a scope pays what its markers add.
head_loop_0 : {t : ℕ} (c : head_loop-After-opened-before t) →
    let a = c.args in
    let s = a.known.now.sheet.now in
    Summing (construct_of a.way.now.left s a.known.now.bounds.now a.known.now.own) (owner_of 5 a.count a.scope a.owner.start a.standing a.way.now.passes) s a.marks.now 4 a.held a.owner.next (aside_is a.notes.now)
    a.marks.now 0 a.owner.next 0 (aside_is c.opened-before.new.self)
head_loop_0 c =
    let p = c.requires.lent in
    summing_from _ _ _ _ _ _ _ _ c.opened-before.ensures.aside_after p.kept c.requires.within c.args.notes.now.at_most p.valued

head_loop_1 : {t : ℕ} (c : head_loop-In_ok-init t) →
    let a = c.args in
    let s = a.known.now.sheet.now in
    Summing (construct_of a.way.now.left s a.known.now.bounds.now a.known.now.own) (owner_of 5 a.count a.scope a.owner.start a.standing a.way.now.passes) s a.marks.now 4 a.held a.owner.next (aside_is a.notes.now)
    c.child.new.marks (0 + c.in_ok-init.init) c.in_ok-init.at (0 + 1) (aside_is c.child.new.notes)
unfolding counted
head_loop_1 {t} c =
    let a = c.args in
    let (left, passes) = c.inside-inner.ensures in
    let is = (head_child (construct_of a.way.now.left a.known.now.sheet.now a.known.now.bounds.now a.known.now.own) a.owner.start a.standing a.way.now.passes (a.held - a.held) a.owner.next a.count a.scope).0 ∙ reached _ _ _ _ left refl passes in
    summing_more (head_loop_0 (goal.at.head_loop-In_ok-init t c).After-opened-before) _ (read_child is c.in_ok-init.ensures.tells refl) refl c.requires.lent.room
    (record { loop = λ _. c.requires.count_bound }) (omega arith) refl c.child.ensures.marks_unchanged c.child.ensures.marks_len_unchanged

head_loop_2 : {t : ℕ} (c : head_loop-In_ok-condition t) →
    let a = c.args in
    let s = a.known.now.sheet.now in
    Summing (construct_of a.way.now.left s a.known.now.bounds.now a.known.now.own) (owner_of 5 a.count a.scope a.owner.start a.standing a.way.now.passes) s a.marks.now 4 a.held a.owner.next (aside_is a.notes.now)
    c.child-2.new.marks (0 + c.in_ok-init.init + (c.in_ok-condition.condition + c.in_ok-condition.condition * c.args.count)) c.in_ok-condition.at (0 + 1 + 1) (aside_is c.child-2.new.notes)
unfolding counted
head_loop_2 {t} c =
    let a = c.args in
    let (left, passes) = c.inside-inner.ensures in
    let is = (head_child (construct_of a.way.now.left a.known.now.sheet.now a.known.now.bounds.now a.known.now.own) a.owner.start a.standing a.way.now.passes (a.held - a.held) c.in_ok-init.at a.count a.scope).1 ∙ reached _ _ _ _ left refl passes in
    summing_more (head_loop_1 (goal.at.head_loop-In_ok-condition t c).In_ok-init) _ (read_child is c.in_ok-condition.ensures.tells refl) refl c.requires.lent.room
    (record { loop = λ _. c.requires.count_bound }) (omega arith) refl c.child-2.ensures.marks_unchanged c.child-2.ensures.marks_len_unchanged

head_loop_3 : {t : ℕ} (c : head_loop-In_ok-body t) →
    let a = c.args in
    let s = a.known.now.sheet.now in
    Summing (construct_of a.way.now.left s a.known.now.bounds.now a.known.now.own) (owner_of 5 a.count a.scope a.owner.start a.standing a.way.now.passes) s a.marks.now 4 a.held a.owner.next (aside_is a.notes.now)
    c.child-3.new.marks (0 + c.in_ok-init.init + (c.in_ok-condition.condition + c.in_ok-condition.condition * c.args.count) + c.in_ok-body.body * c.args.count) c.in_ok-body.at (0 + 1 + 1 + 1) (aside_is c.child-3.new.notes)
unfolding counted
head_loop_3 {t} c =
    let a = c.args in
    let (left, passes) = c.inside-inner.ensures in
    let is = (head_child (construct_of a.way.now.left a.known.now.sheet.now a.known.now.bounds.now a.known.now.own) a.owner.start a.standing a.way.now.passes (a.held - a.held) c.in_ok-condition.at a.count a.scope).2 ∙ reached _ _ _ _ left c.body_of-inside.ensures passes in
    summing_more (head_loop_2 (goal.at.head_loop-In_ok-body t c).In_ok-condition) _ (read_child is c.in_ok-body.ensures.tells refl) refl c.requires.lent.room
    (record { loop = λ _. c.requires.count_bound }) (omega arith) refl c.child-3.ensures.marks_unchanged c.child-3.ensures.marks_len_unchanged

head_loop_4 : {t : ℕ} (c : head_loop-In_ok-overrun t) →
    let a = c.args in
    let s = a.known.now.sheet.now in
    Summing (construct_of a.way.now.left s a.known.now.bounds.now a.known.now.own) (owner_of 5 a.count a.scope a.owner.start a.standing a.way.now.passes) s a.marks.now 4 a.held a.owner.next (aside_is a.notes.now)
    c.child-4.new.marks (0 + c.in_ok-init.init + (c.in_ok-condition.condition + c.in_ok-condition.condition * c.args.count) + c.in_ok-body.body * c.args.count + c.in_ok-overrun.overrun) c.in_ok-overrun.at (0 + 1 + 1 + 1 + 1) (aside_is c.child-4.new.notes)
unfolding counted
head_loop_4 {t} c =
    let a = c.args in
    let (left, passes) = c.inside-inner.ensures in
    let is = (head_child (construct_of a.way.now.left a.known.now.sheet.now a.known.now.bounds.now a.known.now.own) a.owner.start a.standing a.way.now.passes (a.held - a.held) c.in_ok-body.at a.count a.scope).3 ∙ reached _ _ _ _ left refl passes in
    summing_more (head_loop_3 (goal.at.head_loop-In_ok-overrun t c).In_ok-body) _ (read_child is c.in_ok-overrun.ensures.tells refl) refl c.requires.lent.room
    (record { loop = λ _. c.requires.count_bound }) (omega arith) refl c.child-4.ensures.marks_unchanged c.child-4.ensures.marks_len_unchanged

pub head_loop-returns-in_err-init-clause-tells : goal.head_loop-returns-in_err-init-clause-tells
head_loop-returns-in_err-init-clause-tells t c =
    let a = c.args in
    let (left, passes) = c.inside-inner.ensures in
    let is = (head_child (construct_of a.way.now.left a.known.now.sheet.now a.known.now.bounds.now a.known.now.own) a.owner.start a.standing a.way.now.passes (a.held - a.held) a.owner.next a.count a.scope).0 ∙ reached _ _ _ _ left refl passes in
    list_tells (head_loop_0 (goal.at.head_loop-returns-in_err-init-clause-tells t c).After-opened-before).going c.requires.lent.room (omega arith) is c.in_err-init.ensures.tells refl (passed_on _ c.from_residual.ensures.1)

pub head_loop-returns-in_err-condition-clause-tells : goal.head_loop-returns-in_err-condition-clause-tells
head_loop-returns-in_err-condition-clause-tells t c =
    let a = c.args in
    let (left, passes) = c.inside-inner.ensures in
    let is = (head_child (construct_of a.way.now.left a.known.now.sheet.now a.known.now.bounds.now a.known.now.own) a.owner.start a.standing a.way.now.passes (a.held - a.held) c.in_ok-init.at a.count a.scope).1 ∙ reached _ _ _ _ left refl passes in
    list_tells (head_loop_1 (goal.at.head_loop-returns-in_err-condition-clause-tells t c).In_ok-init).going c.requires.lent.room (omega arith) is c.in_err-condition.ensures.tells refl (passed_on _ c.from_residual-in_err-condition.ensures.1)

pub head_loop-returns-in_err-body-clause-tells : goal.head_loop-returns-in_err-body-clause-tells
head_loop-returns-in_err-body-clause-tells t c =
    let a = c.args in
    let (left, passes) = c.inside-inner.ensures in
    let is = (head_child (construct_of a.way.now.left a.known.now.sheet.now a.known.now.bounds.now a.known.now.own) a.owner.start a.standing a.way.now.passes (a.held - a.held) c.in_ok-condition.at a.count a.scope).2 ∙ reached _ _ _ _ left c.body_of-inside.ensures passes in
    list_tells (head_loop_2 (goal.at.head_loop-returns-in_err-body-clause-tells t c).In_ok-condition).going c.requires.lent.room (omega arith) is c.in_err-body.ensures.tells refl (passed_on _ c.from_residual-in_err-body.ensures.1)

pub head_loop-returns-in_err-overrun-clause-tells : goal.head_loop-returns-in_err-overrun-clause-tells
head_loop-returns-in_err-overrun-clause-tells t c =
    let a = c.args in
    let (left, passes) = c.inside-inner.ensures in
    let is = (head_child (construct_of a.way.now.left a.known.now.sheet.now a.known.now.bounds.now a.known.now.own) a.owner.start a.standing a.way.now.passes (a.held - a.held) c.in_ok-body.at a.count a.scope).3 ∙ reached _ _ _ _ left refl passes in
    list_tells (head_loop_3 (goal.at.head_loop-returns-in_err-overrun-clause-tells t c).In_ok-body).going c.requires.lent.room (omega arith) is c.in_err-overrun.ensures.tells refl (passed_on _ c.from_residual-in_err-overrun.ensures.1)

pub head_loop-returns-clause-tells : goal.head_loop-returns-clause-tells
head_loop-returns-clause-tells t c =
    let g = head_loop_4 (goal.at.head_loop-returns-clause-tells t c).In_ok-overrun in
    let same = c.paid-paid.ensures.aside_after ∙ ap (aside_paid (aside_is c.child-4.new.notes) c.args.scope) c.opened-before.ensures.value in
    told_ended (ap (λ v. Ok (v, c.in_ok-overrun.at)) c.ended.ensures.value) c.ended.ensures.aside_after
    (summing_ends g (omega arith) c.args.notes.now.at_most same (omega (arith, c.paid-paid.ensures.value)))

pub head_loop-overflow_add-sum-3 : goal.head_loop-overflow_add-sum-3
head_loop-overflow_add-sum-3 t c = omega (arith, summing_small (head_loop_4 (goal.at.head_loop-overflow_add-sum-3 t c).In_ok-overrun) (omega arith))

pub head_loop-overflow_add-sum-4 : goal.head_loop-overflow_add-sum-4
head_loop-overflow_add-sum-4 t c = omega (arith, summing_small (head_loop_4 (goal.at.head_loop-overflow_add-sum-4 t c).In_ok-overrun) (omega arith))

pub head_loop-overflow_add-sum-5 : goal.head_loop-overflow_add-sum-5
head_loop-overflow_add-sum-5 t c =
    let g = head_loop_4 (goal.at.head_loop-overflow_add-sum-5 t c).In_ok-overrun in
    omega (arith, summing_small g (omega arith), paid_small c.args.scope c.paid-paid.ensures.value c.child-4.new.notes.at_most)

-- The children of `tail_loop` add up, as they are counted; a scope pays what its markers add.
tail_loop_0 : {t : ℕ} (c : tail_loop-After-opened-before t) →
    let a = c.args in
    let s = a.known.now.sheet.now in
    Summing (construct_of a.way.now.left s a.known.now.bounds.now a.known.now.own) (owner_of 6 a.count a.scope a.owner.start a.standing a.way.now.passes) s a.marks.now 3 a.held a.owner.next (aside_is a.notes.now)
    a.marks.now 0 a.owner.next 0 (aside_is c.opened-before.new.self)
tail_loop_0 c =
    let p = c.requires.lent in
    summing_from _ _ _ _ _ _ _ _ c.opened-before.ensures.aside_after p.kept c.requires.within c.args.notes.now.at_most p.valued

tail_loop_1 : {t : ℕ} (c : tail_loop-In_ok-body t) →
    let a = c.args in
    let s = a.known.now.sheet.now in
    Summing (construct_of a.way.now.left s a.known.now.bounds.now a.known.now.own) (owner_of 6 a.count a.scope a.owner.start a.standing a.way.now.passes) s a.marks.now 3 a.held a.owner.next (aside_is a.notes.now)
    c.child.new.marks (0 + c.in_ok-body.body * c.args.count) c.in_ok-body.at (0 + 1) (aside_is c.child.new.notes)
unfolding counted
tail_loop_1 {t} c =
    let a = c.args in
    let (left, passes) = c.inside-inner.ensures in
    let is = (tail_child (construct_of a.way.now.left a.known.now.sheet.now a.known.now.bounds.now a.known.now.own) a.owner.start a.standing a.way.now.passes (a.held - a.held) a.owner.next a.count a.scope).0 ∙ reached _ _ _ _ left c.body_of-inside.ensures passes in
    summing_more (tail_loop_0 (goal.at.tail_loop-In_ok-body t c).After-opened-before) _ (read_child is c.in_ok-body.ensures.tells refl) refl c.requires.lent.room
    (record { loop = λ _. c.requires.count_bound }) (omega arith) refl c.child.ensures.marks_unchanged c.child.ensures.marks_len_unchanged

tail_loop_2 : {t : ℕ} (c : tail_loop-In_ok-condition t) →
    let a = c.args in
    let s = a.known.now.sheet.now in
    Summing (construct_of a.way.now.left s a.known.now.bounds.now a.known.now.own) (owner_of 6 a.count a.scope a.owner.start a.standing a.way.now.passes) s a.marks.now 3 a.held a.owner.next (aside_is a.notes.now)
    c.child-2.new.marks (0 + c.in_ok-body.body * c.args.count + c.in_ok-condition.condition * c.args.count) c.in_ok-condition.at (0 + 1 + 1) (aside_is c.child-2.new.notes)
unfolding counted
tail_loop_2 {t} c =
    let a = c.args in
    let (left, passes) = c.inside-inner.ensures in
    let is = (tail_child (construct_of a.way.now.left a.known.now.sheet.now a.known.now.bounds.now a.known.now.own) a.owner.start a.standing a.way.now.passes (a.held - a.held) c.in_ok-body.at a.count a.scope).1 ∙ reached _ _ _ _ left refl passes in
    summing_more (tail_loop_1 (goal.at.tail_loop-In_ok-condition t c).In_ok-body) _ (read_child is c.in_ok-condition.ensures.tells refl) refl c.requires.lent.room
    (record { loop = λ _. c.requires.count_bound }) (omega arith) refl c.child-2.ensures.marks_unchanged c.child-2.ensures.marks_len_unchanged

tail_loop_3 : {t : ℕ} (c : tail_loop-In_ok-overrun t) →
    let a = c.args in
    let s = a.known.now.sheet.now in
    Summing (construct_of a.way.now.left s a.known.now.bounds.now a.known.now.own) (owner_of 6 a.count a.scope a.owner.start a.standing a.way.now.passes) s a.marks.now 3 a.held a.owner.next (aside_is a.notes.now)
    c.child-3.new.marks (0 + c.in_ok-body.body * c.args.count + c.in_ok-condition.condition * c.args.count + c.in_ok-overrun.overrun) c.in_ok-overrun.at (0 + 1 + 1 + 1) (aside_is c.child-3.new.notes)
unfolding counted
tail_loop_3 {t} c =
    let a = c.args in
    let (left, passes) = c.inside-inner.ensures in
    let is = (tail_child (construct_of a.way.now.left a.known.now.sheet.now a.known.now.bounds.now a.known.now.own) a.owner.start a.standing a.way.now.passes (a.held - a.held) c.in_ok-condition.at a.count a.scope).2 ∙ reached _ _ _ _ left refl passes in
    summing_more (tail_loop_2 (goal.at.tail_loop-In_ok-overrun t c).In_ok-condition) _ (read_child is c.in_ok-overrun.ensures.tells refl) refl c.requires.lent.room
    (record { loop = λ _. c.requires.count_bound }) (omega arith) refl c.child-3.ensures.marks_unchanged c.child-3.ensures.marks_len_unchanged

pub tail_loop-returns-in_err-body-clause-tells : goal.tail_loop-returns-in_err-body-clause-tells
tail_loop-returns-in_err-body-clause-tells t c =
    let a = c.args in
    let (left, passes) = c.inside-inner.ensures in
    let is = (tail_child (construct_of a.way.now.left a.known.now.sheet.now a.known.now.bounds.now a.known.now.own) a.owner.start a.standing a.way.now.passes (a.held - a.held) a.owner.next a.count a.scope).0 ∙ reached _ _ _ _ left c.body_of-inside.ensures passes in
    list_tells (tail_loop_0 (goal.at.tail_loop-returns-in_err-body-clause-tells t c).After-opened-before).going c.requires.lent.room (omega arith) is c.in_err-body.ensures.tells refl (passed_on _ c.from_residual.ensures.1)

pub tail_loop-returns-in_err-condition-clause-tells : goal.tail_loop-returns-in_err-condition-clause-tells
tail_loop-returns-in_err-condition-clause-tells t c =
    let a = c.args in
    let (left, passes) = c.inside-inner.ensures in
    let is = (tail_child (construct_of a.way.now.left a.known.now.sheet.now a.known.now.bounds.now a.known.now.own) a.owner.start a.standing a.way.now.passes (a.held - a.held) c.in_ok-body.at a.count a.scope).1 ∙ reached _ _ _ _ left refl passes in
    list_tells (tail_loop_1 (goal.at.tail_loop-returns-in_err-condition-clause-tells t c).In_ok-body).going c.requires.lent.room (omega arith) is c.in_err-condition.ensures.tells refl (passed_on _ c.from_residual-in_err-condition.ensures.1)

pub tail_loop-returns-in_err-overrun-clause-tells : goal.tail_loop-returns-in_err-overrun-clause-tells
tail_loop-returns-in_err-overrun-clause-tells t c =
    let a = c.args in
    let (left, passes) = c.inside-inner.ensures in
    let is = (tail_child (construct_of a.way.now.left a.known.now.sheet.now a.known.now.bounds.now a.known.now.own) a.owner.start a.standing a.way.now.passes (a.held - a.held) c.in_ok-condition.at a.count a.scope).2 ∙ reached _ _ _ _ left refl passes in
    list_tells (tail_loop_2 (goal.at.tail_loop-returns-in_err-overrun-clause-tells t c).In_ok-condition).going c.requires.lent.room (omega arith) is c.in_err-overrun.ensures.tells refl (passed_on _ c.from_residual-in_err-overrun.ensures.1)

pub tail_loop-returns-clause-tells : goal.tail_loop-returns-clause-tells
tail_loop-returns-clause-tells t c =
    let g = tail_loop_3 (goal.at.tail_loop-returns-clause-tells t c).In_ok-overrun in
    let same = c.paid-paid.ensures.aside_after ∙ ap (aside_paid (aside_is c.child-3.new.notes) c.args.scope) c.opened-before.ensures.value in
    told_ended (ap (λ v. Ok (v, c.in_ok-overrun.at)) c.ended.ensures.value) c.ended.ensures.aside_after
    (summing_ends g (omega arith) c.args.notes.now.at_most same (omega (arith, c.paid-paid.ensures.value)))

pub tail_loop-overflow_add-sum-3 : goal.tail_loop-overflow_add-sum-3
tail_loop-overflow_add-sum-3 t c =
    let g = tail_loop_3 (goal.at.tail_loop-overflow_add-sum-3 t c).In_ok-overrun in
    omega (arith, summing_small g (omega arith), paid_small c.args.scope c.paid-paid.ensures.value c.child-3.new.notes.at_most)

-- The statement of `timed_loop` adds to its time.
pub timed_loop-returns-in_err-v-clause-tells : goal.timed_loop-returns-in_err-v-clause-tells
timed_loop-returns-in_err-v-clause-tells t c =
    let a = c.args in
    a_refusal
    (timed_refused (construct_of a.way.now.left a.known.now.sheet.now a.known.now.bounds.now a.known.now.own) a.time a.standing a.way.now.passes a.owner.next (aside_is a.notes.now)
    c.requires.lent a.notes.now.at_most c.requires.within (tells_refusal c.in_err-v.ensures.tells refl))
    (passed_on _ c.from_residual.ensures.1)

pub timed_loop-returns-clause-tells : goal.timed_loop-returns-clause-tells
timed_loop-returns-clause-tells t c =
    let a = c.args in
    told_ended (ap (λ v. Ok (v, c.in_ok-v.next)) c.ended.ensures.value) c.ended.ensures.aside_after
    (timed_ends (construct_of a.way.now.left a.known.now.sheet.now a.known.now.bounds.now a.known.now.own) a.time a.standing a.way.now.passes a.owner.next (aside_is a.notes.now)
    c.requires.lent a.notes.now.at_most c.requires.within _ (tells_value c.in_ok-v.ensures.tells refl) c.child.ensures.marks_unchanged c.child.ensures.marks_len_unchanged)
