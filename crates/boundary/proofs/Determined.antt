-- Each contract determines its outcome: any two outcomes that meet it, as the prover states it (`Post`), are equal.
use mathlib.Core.Path.{◌≡◌, sym, ◌∙◌}
use contract.Lifetimes.{Lfts}
use borrow.Fn.World.{ArgsD, ResD}
use borrow.Fn.Kinds.{ended_of}
use denote.Triple.Clauses.{AtExit}
use Rattle.boundary.specs.contracts.maxt_answer as answer
use Rattle.boundary.proofs.maxt_answer.Kinds as answer-kinds
use Rattle.boundary.proofs.maxt_answer.Reads as answer-reads
use Rattle.boundary.specs.contracts.maxt_margins as margins
use Rattle.boundary.proofs.maxt_margins.Kinds as margins-kinds
use Rattle.boundary.proofs.maxt_margins.Reads as margins-reads
use Rattle.boundary.specs.contracts.maxt_routine as routine
use Rattle.boundary.proofs.maxt_routine.Kinds as routine-kinds
use Rattle.boundary.proofs.maxt_routine.Reads as routine-reads
use Rattle.boundary.specs.contracts.maxt_work as work
use Rattle.boundary.proofs.maxt_work.Kinds as work-kinds
use Rattle.boundary.proofs.maxt_work.Reads as work-reads

-- `maxt_answer`: the table after and the three numbers after, s.1.0 and s.1.1.0
module _ (κs : Lfts 3) (a : ArgsD answer.signature κs) where
  pub answer_determined : (r q : ResD answer.signature κs) (s u : AtExit (ended_of 3 answer-kinds.ps answer-kinds.r) κs) →
      answer-reads.Post κs a r s → answer-reads.Post κs a q u → (s.1.0.now ≡ u.1.0.now) × (s.1.1.0.now ≡ u.1.1.0.now)
  answer_determined r q s u m n = (m.1 ∙ sym n.1, m.0 ∙ sym n.0)

-- `maxt_routine`: the two numbers after
module _ (κs : Lfts 2) (a : ArgsD routine.signature κs) where
  pub routine_determined : (r q : ResD routine.signature κs) (s u : AtExit (ended_of 2 routine-kinds.ps routine-kinds.r) κs) →
      routine-reads.Post κs a r s → routine-reads.Post κs a q u → s.1.1.0.now ≡ u.1.1.0.now
  routine_determined r q s u m n = m ∙ sym n

-- `maxt_work`: the constructs valued, the table after and the three numbers after
module _ (κs : Lfts 3) (a : ArgsD work.signature κs) where
  pub work_determined : (r q : ResD work.signature κs) (s u : AtExit (ended_of 3 work-kinds.ps work-kinds.r) κs) → work-reads.Post κs a r s →
      work-reads.Post κs a q u → (r ≡ q) × (s.1.0.now ≡ u.1.0.now) × (s.1.1.0.now ≡ u.1.1.0.now)
  work_determined r q s u m n = (m.0 ∙ sym n.0, m.1.1 ∙ sym n.1.1, m.1.0 ∙ sym n.1.0)

-- `maxt_margins`: the table after, the margins after and the three numbers after
module _ (κs : Lfts 5) (a : ArgsD margins.signature κs) where
  abbrev Left : Type 0
  Left = AtExit (ended_of 5 margins-kinds.ps margins-kinds.r) κs

  pub margins_determined : (r q : ResD margins.signature κs) (s u : Left) → margins-reads.Post κs a r s → margins-reads.Post κs a q u →
      (s.1.0.now ≡ u.1.0.now) × (s.1.1.1.0.now ≡ u.1.1.1.0.now) × (s.1.1.1.1.0.now ≡ u.1.1.1.1.0.now)
  margins_determined r q s u m n = (m.1.0 ∙ sym n.1.0, m.1.1 ∙ sym n.1.1, m.0 ∙ sym n.0)
