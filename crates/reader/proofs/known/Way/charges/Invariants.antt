-- The loop of `charges` keeps the charges of all the marks: the sum so far with those of the marks from the next on.
use Rattle.std.proofs.Common.{◌≡◌, ◌≤◌, drop}
use Rattle.reader.specs.Tallies.{value_cap, charges_of}
use Rattle.reader.proofs.known.Way.charges.Given as goal

abbrev pub invariant-loop-both : goal.invariant-loop-both
invariant-loop-both l =
    (charges_of l.self.passes l.plain l.sum (drop l.both-index l.marks) ≡ charges_of l.self.passes l.plain 0 l.marks) × (l.sum ≤ value_cap)
