-- The readers of constructs and of their lists call each other with ever fewer depths left: a construct hands one less to the list that it owns.
-- The loop of a list keeps that its children so far come to what its contract says: `Branching` for an alternative, `Summing` for a sequence.
use Rattle.std.proofs.Common.{◌+◌, ◌*◌, false}
use Rattle.reader.specs.Tallies.{aside_is}
use Rattle.reader.specs.Reader.{construct_of, owner_of}
use Rattle.reader.proofs.Summing.{Summing}
use Rattle.reader.proofs.Branches.{Branching}
use Rattle.reader.proofs.+construct_list.Given as goal

abbrev pub decreases-alternative : goal.decreases-alternative
decreases-alternative l = l.way.now.left * 4 + 3

abbrev pub decreases-child : goal.decreases-child
decreases-child l = l.way.now.left * 4 + 2

abbrev pub decreases-construct : goal.decreases-construct
decreases-construct l = l.way.now.left * 4

abbrev pub decreases-head_loop : goal.decreases-head_loop
decreases-head_loop l = l.way.now.left * 4 + 3

abbrev pub decreases-sequence : goal.decreases-sequence
decreases-sequence l = l.way.now.left * 4 + 3

abbrev pub decreases-tail_loop : goal.decreases-tail_loop
decreases-tail_loop l = l.way.now.left * 4 + 3

abbrev pub decreases-timed_loop : goal.decreases-timed_loop
decreases-timed_loop l = l.way.now.left * 4 + 3

abbrev pub decreases-with_list : goal.decreases-with_list
decreases-with_list l = l.way.now.left * 4 + 1

abbrev pub invariant-alternative-loop-branch : goal.invariant-alternative-loop-branch
invariant-alternative-loop-branch l =
    Branching (construct_of l.way.left l.known.sheet.now l.known.bounds.now l.known.own) l.n l.owner.start l.standing l.way.passes l.known.sheet.now
    l.fn.marks l.base l.owner.next (aside_is l.fn.notes) l.marks l.condition l.top l.held l.mark l.at (l._branch + 1) (aside_is l.notes)

abbrev pub invariant-sequence-loop-i : goal.invariant-sequence-loop-i
invariant-sequence-loop-i l =
    Summing (construct_of l.way.left l.known.sheet.now l.known.bounds.now l.known.own) (owner_of 3 l.n false l.owner.start l.fn.standing l.way.passes) l.known.sheet.now
    l.fn.marks l.n l.held l.owner.next (aside_is l.fn.notes) l.marks l.sum l.at l.i (aside_is l.notes)
