-- The contract of `read` determines its outcome: any two reports that meet it, as the prover states it (`Post`), are equal.
use mathlib.Core.Path.{◌≡◌, sym, ap, ◌∙◌}
use contract.Lifetimes.{Lfts}
use borrow.Fn.World.{ArgsD, ResD}
use borrow.Fn.Kinds.{ended_of}
use denote.Triple.Clauses.{AtExit}
use Rattle.reader.specs.declared.Report.{Report}
use Rattle.reader.specs.Reader.{reported}
use Rattle.reader.specs.contracts.read as read
use Rattle.reader.proofs.read.Kinds as kinds
use Rattle.reader.proofs.read.Reads as reads
use Rattle.reader.proofs.Answers.{said_same}

reported_same : {r q : Report} → reported r ≡ reported q → r ≡ q
reported_same {r} {q} e =
    let answer = said_same (ap (λ z. z.reply.said) e) in
    λ i. record {
      reply = record { answer = answer i; start = (e i).reply.start; end = (e i).reply.end };
      bounds = (e i).bounds;
    }

pub determined : (κs : Lfts 1) (a : ArgsD read.signature κs) (r q : ResD read.signature κs) (s u : AtExit (ended_of 1 kinds.ps kinds.r) κs) →
    reads.Post κs a r s → reads.Post κs a q u → r ≡ q
determined κs a r q s u m n = reported_same (m ∙ sym n)
