-- `put_named` puts the words, and then the digits that `io::decimal` writes, which are the number in plain decimal.
use Rattle.std.proofs.Common.{◌∙◌, arith}
use Rattle.lines.specs.Output.{decimal}
use Rattle.lines.proofs.Decimal.{decimal_is}
use Rattle.lines.proofs.Laws.{then}
use Rattle.lines.proofs.Page.put_named.Goals as goal

pub returns-clause-put : goal.returns-clause-put
returns-clause-put c =
    let digits_put = rw (c.decimal-n.ensures.digits ∙ decimal_is _ c.args.number c.decimal-n.ensures.len) at c.put-2.ensures in
    then c.args.words.now (decimal c.args.number) (omega arith) c.put.ensures digits_put
