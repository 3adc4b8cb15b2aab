-- What is put on the page is the output of the sheet.
use Prim.Native.Nat.{ℕ, ◌+◌, ◌≤◌}
use mathlib.Core.Bool.{false}
use lib.Dec.{ltb}
use mathlib.Core.Path.{◌≡◌, refl, sym, ap, ◌∙◌}
use mathlib.Core.List.{List, ◌++◌}
use lib.ListN.{length, take, drop}
use lib.Seq.{take_at}
use borrow.Author.Tests.{le-ltb}
use native.Mathlib.Omega.{arith}
use native.Mathlib.Nat.{zero-add}
use Rattle.std.proofs.lemmas.List.Edits.{paste_all}
use Rattle.meaning.specs.Tree.{Sheet}
use Rattle.meaning.specs.Value.{nothing, bounds_of, task_bound}
use Rattle.meaning.specs.Answer.{Verdict, accepted, refused, outcome, told, answer, stored, table_after}
use Rattle.runs.proofs.Reached.{length_bounds}
use Rattle.reader.specs.declared.Answer.{Answer}
use Rattle.reader.specs.declared.Answer.TheVariants.{Accepted, Refused}
use Rattle.records.specs.declared.faults.Fault.{Fault}
use Rattle.records.specs.Faults.{number_of}
use Rattle.reader.specs.Said.{said_of}
use Rattle.calculator.specs.Promises.{filled_by, filled}
use Rattle.lines.specs.Output.{routine_lines, bound_line, refused_line, lines_of, output, onto}
use Rattle.lines.specs.declared.Page.{Page}
use Rattle.lines.specs.Page.{Put}
use Rattle.lines.proofs.Laws.{then}

-- an accepted sheet's bounds are the first places of the table
lines_stored : (v : Verdict Sheet) (table : List ℕ) (bound : ℕ) → accepted bound ≡ told v →
    lines_of v ≡ routine_lines 1 (take (filled_by v) (stored v table)) ++ bound_line bound
lines_stored (refused n p) table bound e = cc
lines_stored (accepted t) table bound e =
    let bounds : take (length t.routines) (bounds_of t ++ drop (length t.routines) table) ≡ bounds_of t =
    take_at (bounds_of t) (drop (length t.routines) table) (length t.routines) (length_bounds nothing t.routines ∙ zero-add _) in
    let b : bound ≡ task_bound t = cc in
    rw (bounds, b)

lines_refused : (v : Verdict Sheet) (number place : ℕ) → refused number place ≡ told v → lines_of v ≡ refused_line number place
lines_refused (refused n p) number place e = cc
lines_refused (accepted t) number place e = cc

-- a text at the start of a page
pub from_start : (text : List ℕ) {old new : Page} → old.at ≡ 0 → Put old new text →
    (new.at ≡ length text) × (new.bytes.now ≡ onto text old.bytes.now)
from_start text {old} {new} start p =
    let here : old.at + length text ≡ length text = omega arith in
    (omega arith, p.bytes ∙ paste_all old.bytes.now old.at text (length text) refl ∙ rw (here, start))

-- a lent table with room
module _ (s table : List ℕ) (room : 64 ≡ length table) where
  has_room : ltb (length table) 64 ≡ false
  has_room = le-ltb (length table) 64 (omega arith)

  pub prints_bounds : {bound routines : ℕ} {after : List ℕ} {old mid new : Page} {a : Answer} → old.at ≤ length old.bytes.now → a ≡ Accepted bound →
      said_of a ≡ answer s (length table) → routines ≡ filled s (length table) → after ≡ table_after s table →
      Put old mid (routine_lines 1 (take routines after)) → Put mid new (bound_line bound) → Put old new (output s)
  unfolding answer filled table_after output
  prints_bounds {bound} {routines} {after} h is said many kept p q =
      let out : output s ≡ routine_lines 1 (take routines after) ++ bound_line bound =
      rw (many, kept, has_room) (lines_stored (outcome s) table bound (rw has_room at (sym (ap said_of is) ∙ said))) in
      rw out (then (routine_lines 1 (take routines after)) (bound_line bound) h p q)

  pub prints_refusal : {fault : Fault} {number place : ℕ} {old new : Page} {a : Answer} → a ≡ Refused fault place → number ≡ number_of fault →
      said_of a ≡ answer s (length table) → Put old new (refused_line number place) → Put old new (output s)
  unfolding answer output
  prints_refusal {fault} {number} {place} is told said p =
      let out = lines_refused (outcome s) number place (rw told (rw has_room at (sym (ap said_of is) ∙ said))) in
      rw out p
