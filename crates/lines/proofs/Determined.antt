-- The contract of `print` determines its outcome: any two outcomes that meet it, as the prover states it (`Post`), are equal.
use mathlib.Core.Path.{◌≡◌, sym, ◌∙◌}
use contract.Lifetimes.{Lfts}
use borrow.Fn.World.{ArgsD, ResD}
use borrow.Fn.Kinds.{ended_of}
use denote.Triple.Clauses.{AtExit}
use Rattle.lines.specs.contracts.print as print
use Rattle.lines.proofs.print.Kinds as print-kinds
use Rattle.lines.proofs.print.Reads as print-reads

-- of the sheet a .0 and the page a .1 .0, the length r and the page after, s.1.0
module _ (κs : Lfts 2) (a : ArgsD print.signature κs) where
  pub print_determined : (r q : ResD print.signature κs) (s u : AtExit (ended_of 2 print-kinds.ps print-kinds.r) κs) → print-reads.Post κs a r s →
      print-reads.Post κs a q u → (r ≡ q) × (s.1.0.now ≡ u.1.0.now)
  print_determined r q s u m n = (m.0 ∙ sym n.0, m.1.0 ∙ sym n.1.0)
