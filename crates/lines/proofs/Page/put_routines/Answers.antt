-- One routine's line more.
use Rattle.std.proofs.Common.{◌≡◌, ◌+◌, take, get_or, arith}
use Rattle.lines.specs.Output.{routine_line, routine_lines}
use Rattle.lines.proofs.Laws.{then, lines_more}
use Rattle.lines.proofs.Page.put_routines.Goals as goal

pub loop-i-preserved : goal.loop-i-preserved
loop-i-preserved c =
    let i = c.loop-i.i in
    let bounds = c.args.bounds.now in
    let numbered : 1 + i ≡ i + 1 = omega arith in
    let so_far = routine_lines 1 (take i bounds) in
    let next = routine_line (i + 1) (get_or bounds i 0) in
    let both = then so_far next (omega arith) c.loop-i.invariant.0 c.put_routine.ensures.put in
    (rw (lines_more 1 bounds i (omega arith), numbered) both, omega (arith, c.put_routine.ensures.upper_bound))
