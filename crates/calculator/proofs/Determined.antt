-- Each public contract determines its outcome: any two outcomes that meet it, as the prover states it (`Post`), are equal.
use mathlib.Core.Path.{◌≡◌, sym, ap, ◌∙◌}
use contract.Lifetimes.{Lfts}
use borrow.Fn.World.{ArgsD, ResD}
use borrow.Fn.Kinds.{ended_of}
use denote.Triple.Clauses.{AtExit}
use Rattle.reader.specs.declared.Answer.{Answer}
use Rattle.reader.specs.Said.{said_of}
use Rattle.calculator.specs.contracts.fill as fill
use Rattle.calculator.proofs.fill.Kinds as fill-kinds
use Rattle.calculator.proofs.fill.Reads as fill-reads
use Rattle.calculator.specs.contracts.maxt as maxt
use Rattle.calculator.proofs.maxt.Kinds as maxt-kinds
use Rattle.calculator.proofs.maxt.Reads as maxt-reads
use Rattle.calculator.specs.contracts.routine_places as places
use Rattle.calculator.proofs.routine_places.Kinds as places-kinds
use Rattle.calculator.proofs.routine_places.Reads as places-reads
use Rattle.calculator.specs.contracts.routine_records as records
use Rattle.calculator.proofs.routine_records.Kinds as records-kinds
use Rattle.calculator.proofs.routine_records.Reads as records-reads
use Rattle.reader.proofs.Answers.{said_same}
use Rattle.calculator.proofs.Demands.{Meets}

-- what is said names one answer
pub one_answer : (a b : Answer) → said_of a ≡ said_of b → a ≡ b
one_answer a b = said_same

-- `fill`: of the sheet a .0 and the table a .1 .0, the answer, the number of routines and the constructs valued r and the table after, s.1.0
module _ (κs : Lfts 2) (a : ArgsD fill.signature κs) where
  pub fill_determined : (r q : ResD fill.signature κs) (s u : AtExit (ended_of 2 fill-kinds.ps fill-kinds.r) κs) → fill-reads.Post κs a r s →
      fill-reads.Post κs a q u → (r ≡ q) × (s.1.0.now ≡ u.1.0.now)
  fill_determined r q s u m n =
      let same = one_answer r.answer q.answer (m.0 ∙ sym n.0) in
      let routines = m.1.0 ∙ sym n.1.0 in
      let constructs = m.1.1.0 ∙ sym n.1.1.0 in
      (λ i. record { answer = same i; routines = routines i; constructs = constructs i }, m.1.1.1.0 ∙ sym n.1.1.1.0)

-- `maxt`: of the sheet a .0 and the table a .1 .0, the answer r and the table after, s.1.0
module _ (κs : Lfts 2) (a : ArgsD maxt.signature κs) where
  abbrev After : Type 0
  After = AtExit (ended_of 2 maxt-kinds.ps maxt-kinds.r) κs

  pub maxt_meets : (r : ResD maxt.signature κs) (s : After) → maxt-reads.Post κs a r s → Meets a.0.now a.1.0.now r s.1.0.now
  maxt_meets r s p = record { said = p.0; stored = p.1 }

  pub maxt_determined : (r q : ResD maxt.signature κs) (s u : After) → maxt-reads.Post κs a r s → maxt-reads.Post κs a q u →
      (r ≡ q) × (s.1.0.now ≡ u.1.0.now)
  maxt_determined r q s u m n = (one_answer r q (m.0 ∙ sym n.0), m.1 ∙ sym n.1)

-- `routine_places`
module _ (κs : Lfts 1) (a : ArgsD places.signature κs) where
  pub places_determined : (r q : ResD places.signature κs) (s u : AtExit (ended_of 1 places-kinds.ps places-kinds.r) κs) →
      places-reads.Post κs a r s → places-reads.Post κs a q u → r ≡ q
  places_determined r q s u m n = ap (λ z. record { start = z.start; end = z.stop }) (m ∙ sym n)

-- `routine_records`: what the part holds; where it lies is said by `routine_places`
module _ (κs : Lfts 1) (a : ArgsD records.signature κs) where
  pub records_determined : (r q : ResD records.signature κs) (s u : AtExit (ended_of 1 records-kinds.ps records-kinds.r) κs) →
      records-reads.Post κs a r s → records-reads.Post κs a q u → r.now ≡ q.now
  records_determined r q s u m n = m ∙ sym n
