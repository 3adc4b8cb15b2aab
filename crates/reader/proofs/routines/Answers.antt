-- `routines`: the loop keeps `Under` from no routine to the last, and a refused one ends it.
use Rattle.std.proofs.Common.{◌+◌, refl, sym, ap, ◌∙◌, arith}
use Rattle.reader.specs.Reader.{no_bounds, report_of}
use Rattle.reader.proofs.Tells.{told_from, tells_value, tells_refusal}
use Rattle.reader.proofs.Under.{under_none, routines_end, turn_refused, turn_more}
use Rattle.reader.proofs.routines.Goals as goal

pub loop-read-init : goal.loop-read-init
unfolding no_bounds
loop-read-init c =
    (under_none c.args.n c.args.s.now c.args.marks.now c.args.number c.none-bounds.result c.from-progress.result c.none-bounds.ensures, ap (λ b. b.count) c.none-bounds.ensures)

pub returns-in-Err : goal.returns-in-Err
returns-in-Err c =
    let refused = tells_refusal c.in-Err.ensures.tells refl in
    ap (λ r. report_of r c.loop-read.bounds) c.refused-reply.ensures
    ∙ rw (← c.from-progress.ensures, ← c.none-bounds.ensures) (sym (turn_refused c.loop-read.invariant.0 (omega arith) refused))

pub loop-read-preserved : goal.loop-read-preserved
loop-read-preserved c =
    let told = told_from c.none-notes.ensures (tells_value c.in-Ok.ensures.tells refl) in (
      rw c.push.ensures (turn_more c.loop-read.invariant.0 (omega arith) c.routine.new.marks told c.routine.ensures.marks_len_unchanged c.with-progress.ensures),
      ap (λ b. b.count) c.push.ensures ∙ ap (λ z. z + 1) c.loop-read.invariant.1,
    )

pub returns : goal.returns
returns c =
    let end = routines_end c.args.n c.args.s.now c.args.number c.loop-read.bounds c.loop-read.progress (omega arith) in
    ap (λ r. report_of r c.loop-read.bounds) c.verdict-reply.ensures
    ∙ rw (← c.from-progress.ensures, ← c.none-bounds.ensures, ← c.loop-read.invariant.0.same) (sym end)
