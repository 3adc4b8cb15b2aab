-- The contracts of `sheet`, `routine`, `construct` and `leaf` determine their outcomes: any two that meet one, as the prover states it (`Post`), are equal.
use mathlib.Core.Path.{◌≡◌, sym, ◌∙◌}
use contract.Lifetimes.{Lfts}
use borrow.Fn.World.{ArgsD, ResD}
use borrow.Fn.Kinds.{ended_of}
use denote.Triple.Clauses.{AtExit}
use Rattle.records.proofs.Numbers.{reading_same}
use Rattle.records.specs.contracts.Cursor.sheet as sheet
use Rattle.records.proofs.Cursor.sheet.Kinds as sheet-kinds
use Rattle.records.proofs.Cursor.sheet.Reads as sheet-reads
use Rattle.records.specs.contracts.Cursor.routine as routine
use Rattle.records.proofs.Cursor.routine.Kinds as routine-kinds
use Rattle.records.proofs.Cursor.routine.Reads as routine-reads
use Rattle.records.specs.contracts.Cursor.construct as construct
use Rattle.records.proofs.Cursor.construct.Kinds as construct-kinds
use Rattle.records.proofs.Cursor.construct.Reads as construct-reads
use Rattle.records.specs.contracts.Cursor.leaf as leaf
use Rattle.records.proofs.Cursor.leaf.Kinds as leaf-kinds
use Rattle.records.proofs.Cursor.leaf.Reads as leaf-reads

pub sheet_determined : (κs : Lfts 1) (a : ArgsD sheet.signature κs) (r q : ResD sheet.signature κs) (s u : AtExit (ended_of 1 sheet-kinds.ps sheet-kinds.r) κs) →
    sheet-reads.Post κs a r s → sheet-reads.Post κs a q u → r ≡ q
sheet_determined κs a r q s u m n = reading_same (m ∙ sym n)

pub routine_determined : (κs : Lfts 1) (a : ArgsD routine.signature κs) (r q : ResD routine.signature κs) (s u : AtExit (ended_of 1 routine-kinds.ps routine-kinds.r) κs) →
    routine-reads.Post κs a r s → routine-reads.Post κs a q u → r ≡ q
routine_determined κs a r q s u m n = reading_same (m ∙ sym n)

pub construct_determined : (κs : Lfts 1) (a : ArgsD construct.signature κs) (r q : ResD construct.signature κs) (s u : AtExit (ended_of 1 construct-kinds.ps construct-kinds.r) κs) →
    construct-reads.Post κs a r s → construct-reads.Post κs a q u → r ≡ q
construct_determined κs a r q s u m n = reading_same (m ∙ sym n)

pub leaf_determined : (κs : Lfts 1) (a : ArgsD leaf.signature κs) (r q : ResD leaf.signature κs) (s u : AtExit (ended_of 1 leaf-kinds.ps leaf-kinds.r) κs) →
    leaf-reads.Post κs a r s → leaf-reads.Post κs a q u → r ≡ q
leaf_determined κs a r q s u m n = m ∙ sym n
