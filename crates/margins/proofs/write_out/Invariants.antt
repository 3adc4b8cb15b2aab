-- `write_out` leaves the margins in the first places: so far the first i places hold them, and the others are as they were.
use Rattle.std.proofs.Common.{◌≡◌}
use Rattle.std.proofs.Math.Seq.{paste}
use Rattle.margins.specs.Margins.{margins_of}
use Rattle.margins.proofs.write_out.Given as goal

abbrev pub invariant-loop-i : goal.invariant-loop-i
invariant-loop-i l = l.margins ≡ paste l.initial.margins 0 (margins_of l.deadlines l.bounds) l.i
