-- The public contract determines its outcome: any two outcomes that meet it, as the prover states it (`Post`), are equal.
use mathlib.Core.Path.{◌≡◌, sym, ◌∙◌}
use contract.Lifetimes.{Lfts}
use borrow.Fn.World.{ArgsD, ResD}
use borrow.Fn.Kinds.{ended_of}
use denote.Triple.Clauses.{AtExit}
use Rattle.calculator.proofs.Determined.{one_answer}
use Rattle.margins.specs.contracts.margins as margins
use Rattle.margins.proofs.margins.Kinds as margins-kinds
use Rattle.margins.proofs.margins.Reads as margins-reads
use Rattle.margins.proofs.Demands.{Meets}

-- `margins`: of the sheet a .0, the table a .1 .0, the deadlines a .1 .1 .0 and the margins a .1 .1 .1 .0, the answer r, the table after,
-- s.1.0, and the margins after, s.1.1.1.0
module _ (κs : Lfts 4) (a : ArgsD margins.signature κs) where
  abbrev After : Type 0
  After = AtExit (ended_of 4 margins-kinds.ps margins-kinds.r) κs

  pub margins_meets : (r : ResD margins.signature κs) (s : After) → margins-reads.Post κs a r s →
      Meets a.0.now a.1.0.now a.1.1.0.now a.1.1.1.0.now r s.1.0.now s.1.1.1.0.now
  margins_meets r s p = record { said = p.0; stored = p.1.0; noted = p.1.1 }

  pub margins_determined : (r q : ResD margins.signature κs) (s u : After) → margins-reads.Post κs a r s → margins-reads.Post κs a q u →
      (r ≡ q) × (s.1.0.now ≡ u.1.0.now) × (s.1.1.1.0.now ≡ u.1.1.1.0.now)
  margins_determined r q s u m n = (one_answer r q (m.0 ∙ sym n.0), m.1.0 ∙ sym n.1.0, m.1.1 ∙ sym n.1.1)
