-- `put_routines` has put the lines of the first i routines so far.
use Rattle.std.proofs.Common.{◌+◌, ◌*◌, ◌≤◌, take}
use Rattle.lines.specs.Output.{routine_lines}
use Rattle.lines.specs.Page.{Put}
use Rattle.lines.proofs.Page.put_routines.Given as goal

abbrev pub invariant-loop-i : goal.invariant-loop-i
invariant-loop-i l = Put l.initial.self l.self (routine_lines 1 (take l.i l.bounds)) × (l.self.at ≤ l.initial.self.at + 50 * l.i)
