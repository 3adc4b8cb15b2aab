-- `put_pair` puts two numbers after their words, and a line feed.
use Rattle.std.proofs.Common.{◌++◌, arith}
use Rattle.lines.specs.Output.{letters, named}
use Rattle.lines.proofs.Laws.{then}
use Rattle.lines.proofs.Page.put_pair.Goals as goal

pub returns-clause-put : goal.returns-clause-put
returns-clause-put c =
    let one = named c.args.words.now c.args.number in
    let other = named c.args.more.now c.args.second in
    let both = then one other (omega arith) c.put_named.ensures.put c.put_named-2.ensures.put in
    then (one ++ other) (letters "\n") (omega arith) both c.end_line.ensures
