use Rattle.std.proofs.Common.{sym, ◌∙◌, arith}
use Rattle.reader.proofs.Laws.{charges_more, charges_end}
use Rattle.reader.proofs.known.Way.charges.Goals as goal

pub loop-both-preserved : goal.loop-both-preserved
loop-both-preserved c = (
  rw (c.min-sum.ensures, c.charge-more.ensures.0, ← charges_more _ _ _ _ _ c.loop-both-test.true) c.loop-both.invariant.0,
  omega arith,
)

pub returns : goal.returns
returns c = (sym (charges_end _ _ _ _ _ c.loop-both-test.false) ∙ c.loop-both.invariant.0, c.loop-both.invariant.1)
