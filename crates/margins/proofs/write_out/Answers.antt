use Rattle.std.proofs.Common.{◌≡◌, ◌+◌, ◌∙◌, length, arith}
use Rattle.std.proofs.lemmas.List.Edits.{paste_all}
use Rattle.margins.specs.Margins.{margins_of}
use Rattle.margins.proofs.Laws.{margins_more, length_margins}
use Rattle.margins.proofs.write_out.Goals as goal

pub loop-i-preserved : goal.loop-i-preserved
loop-i-preserved c =
    let i = c.loop-i.i in
    rw c.loop-i.invariant
    (margins_more c.args.deadlines.now c.args.bounds.now c.args.margins.now i (omega arith) (omega arith) (omega arith)
    (c.requires.in_range.1 i 0 (omega arith), c.requires.in_range.0 i 0 (omega arith)) c.margin.ensures)

pub returns-clause-margins_after : goal.returns-clause-margins_after
returns-clause-margins_after c =
    let deadlines = c.args.deadlines.now in
    let bounds = c.args.bounds.now in
    let all : 0 + c.loop-i.i ≡ length bounds = omega arith in
    rw all at (c.loop-i.invariant ∙ paste_all c.args.margins.now 0 (margins_of deadlines bounds) c.loop-i.i (omega (arith, length_margins deadlines bounds (omega arith))))
