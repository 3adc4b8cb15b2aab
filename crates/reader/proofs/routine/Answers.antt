-- `routine`: its body is read as the statement of a timed loop (Timed).
use Rattle.std.proofs.Common.{refl, sym, ap, ◌∙◌, arith}
use Rattle.std.specs.Prelude.{Ok}
use Rattle.records.specs.declared.standings.Standing.TheVariants.{Outside}
use Rattle.records.proofs.Good.{routine_fine}
use Rattle.reader.specs.Tallies.{aside_is, a_refusal}
use Rattle.reader.specs.Reader.{construct_of, Within}
use Rattle.reader.proofs.Tells.{told_as, told_ended, valued_small, tells_value, tells_refusal}
use Rattle.reader.proofs.Reading.{passed_on}
use Rattle.reader.proofs.Timed.{timed_refused, timed_ends}
use Rattle.reader.proofs.Under.{routine_refused, routine_good}
use Rattle.reader.proofs.routine.Goals as goal
use Rattle.reader.proofs.routine.Goals.{In_ok-read}

within : (c : In_ok-read) → Within c.args.known.now.sheet.now c.args.c.at c.in_ok-read.body.at
within c =
    let fine = routine_fine c.args.known.now.sheet.now c.args.c.at (sym c.in_ok-read.ensures) in
    record { past = fine.past; inside = fine.inside }

pub returns-in_err-read-clause-tells : goal.returns-in_err-read-clause-tells
returns-in_err-read-clause-tells c =
    let known = c.args.known.now in
    a_refusal (routine_refused known.sheet.now known.bounds.now known.own c.args.c (sym c.in_err-read.ensures)) (passed_on _ c.from_residual.ensures.1)

pub child-requires : goal.child-requires
child-requires c =
    let p = c.requires in
    let w = within (goal.at.child-requires c).In_ok-read in
    record { lent = record { room = p.room; kept = omega arith; valued = omega (arith, w.past) } }

pub overflow_add-v : goal.overflow_add-v
overflow_add-v c =
    let fine = routine_fine c.args.known.now.sheet.now c.args.c.at (sym c.in_ok-read.ensures) in
    omega (arith, valued_small (tells_value c.in_ok-v.ensures.tells refl), fine.first)

pub returns-in_err-v-clause-tells : goal.returns-in_err-v-clause-tells
returns-in_err-v-clause-tells c =
    let known = c.args.known.now in
    let s = known.sheet.now in
    let bounds = known.bounds.now in
    let w = within (goal.at.returns-in_err-v-clause-tells c).In_ok-read in
    let refused = timed_refused (construct_of 24 s bounds known.own) c.in_ok-read.read.organisation Outside 0 c.in_ok-read.body (aside_is c.args.notes.now) c.requires
    c.args.notes.now.at_most w (tells_refusal c.in_err-v.ensures.tells refl) in
    a_refusal (routine_good s bounds known.own c.args.c (sym c.in_ok-read.ensures) ∙ refused) (passed_on _ c.from_residual-in_err-v.ensures.1)

pub returns-clause-tells : goal.returns-clause-tells
returns-clause-tells c =
    let known = c.args.known.now in
    let s = known.sheet.now in
    let bounds = known.bounds.now in
    let w = within (goal.at.returns-clause-tells c).In_ok-read in
    let ends = timed_ends (construct_of 24 s bounds known.own) c.in_ok-read.read.organisation Outside 0 c.in_ok-read.body (aside_is c.args.notes.now) c.requires
    c.args.notes.now.at_most w _ (tells_value c.in_ok-v.ensures.tells refl) c.child.ensures.marks_unchanged c.child.ensures.marks_len_unchanged in
    told_ended (ap (λ v. Ok (v, c.in_ok-v.next)) c.ended.ensures.value) c.ended.ensures.aside_after
    (told_as (routine_good s bounds known.own c.args.c (sym c.in_ok-read.ensures)) ends)
