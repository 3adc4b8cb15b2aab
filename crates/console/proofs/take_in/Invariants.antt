-- `take_in` has read `count` bytes so far, which stand at the start of the room; each turn that goes on reads at least one more.
use Rattle.std.proofs.Common.{◌-◌, ◌≤◌, ◌≡◌, length, take}
use Rattle.std.specs.Io.KnownBytes.{Consumes}
use Rattle.console.proofs.take_in.Given as goal

abbrev pub invariant-loop-count : goal.invariant-loop-count
invariant-loop-count g l =
    (length l.input ≡ l.room) × (l.count ≤ l.room) × Consumes (g.R.Read.remaining l.initial.from) (g.R.Read.remaining l.from) (take l.count l.input)

abbrev pub decreases-loop-count : goal.decreases-loop-count
decreases-loop-count g l = l.room - l.count
