-- `routine_records` cuts the sheet at the places of the routine, which lie in the sheet because it is made of bytes.
use Rattle.std.proofs.Common.{◌≤◌, length, arith}
use Rattle.calculator.proofs.Laws.{inside, the_part}
use Rattle.calculator.proofs.routine_records.Goals as goal
use Rattle.calculator.proofs.routine_records.Goals.{After-routine_places-start}

places_inside : (c : After-routine_places-start) → let places = c.routine_places-start.result in (places.start ≤ places.end) × (places.end ≤ length c.args.sheet.now)
places_inside c = inside c.args.sheet.now c.args.number c.routine_places-start.ensures (record { byte = λ i. omega (arith, c.type_inv.sheet i) })

pub slice_bounds-result-count : goal.slice_bounds-result-count
slice_bounds-result-count c = (places_inside (goal.at.slice_bounds-result-count c).After-routine_places-start).0

pub slice_bounds-result-start : goal.slice_bounds-result-start
slice_bounds-result-start c = slice_bounds-result-count c

pub slice_bounds-result-end : goal.slice_bounds-result-end
slice_bounds-result-end c = (places_inside (goal.at.slice_bounds-result-end c).After-routine_places-start).1

pub returns : goal.returns
returns c = the_part c.args.sheet.now c.args.number c.routine_places-start.ensures
