-- `routine_places` gives the places that the reading reports (`read_law`).
use Rattle.std.proofs.Common.{ap, ◌∙◌}
use Rattle.reader.specs.Reports.{part_said}
use Rattle.bridge.proofs.Law.{read_law}
use Rattle.calculator.proofs.routine_places.Goals as goal

pub returns : goal.returns
returns c = ap part_said c.read-start.ensures ∙ (read_law c.args.sheet.now c.args.number).part
