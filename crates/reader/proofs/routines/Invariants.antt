-- The loop of `routines` keeps `Under`: each routine read is a turn, which hands the bounds and the progress on.
use Rattle.std.proofs.Common.{◌≡◌}
use Rattle.reader.proofs.Under.{Under}
use Rattle.reader.proofs.routines.Given as goal

abbrev pub invariant-loop-read : goal.invariant-loop-read
invariant-loop-read l =
    Under l.n l.s l.initial.marks l.number l.initial.bounds l.initial.progress l.marks l.bounds l.progress × (l.bounds.count ≡ l._read)
