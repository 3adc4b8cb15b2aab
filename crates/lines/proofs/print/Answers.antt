-- `print` puts the lines of what the calculator answers, which are the output of the sheet.
use Rattle.std.proofs.Common.{◌≡◌, refl, length, replicate, arith}
use Rattle.lines.specs.Output.{output, onto}
use Rattle.lines.proofs.Outputs.{from_start, prints_bounds, prints_refusal}
use Rattle.lines.proofs.print.Goals as goal
use Rattle.lines.proofs.print.Goals.{Joined-filled, in-Accepted, in-Refused}

printed : (c : Joined-filled) → let out = output c.args.sheet.now in
    (c.match-filled.page.at ≡ length out) × (c.match-filled.page.bytes.now ≡ onto out c.args.page.now)
printed c =
    let filled = c.fill-filled.ensures in
    let out = output c.args.sheet.now in
    elim c.match-filled.branch [
      | in-Accepted w ↦ rw w.page-is (from_start out refl
          (prints_bounds c.args.sheet.now (replicate 64 0) refl (omega arith) w.in-Accepted.is filled.answer_value filled.routines_value
          filled.table_after w.put_routines.ensures.put w.put_bound.ensures.put))
      | in-Refused w ↦ rw w.page-is (from_start out refl
          (prints_refusal c.args.sheet.now (replicate 64 0) refl w.in-Refused.is w.from.ensures filled.answer_value w.put_refusal.ensures.put))
    ]

pub returns-clause-value : goal.returns-clause-value
returns-clause-value c = (printed (goal.at.returns-clause-value c).Joined-filled).0

pub returns-clause-page_after : goal.returns-clause-page_after
returns-clause-page_after c = (printed (goal.at.returns-clause-page_after c).Joined-filled).1
