-- `at_once`: a primitive, a call and a marker are read as `construct` reads them (Constructs); any other is left as it is.
use Rattle.std.proofs.Common.{◌≡◌, ◌≤◌, ◌<◌, refl, sym, ap, ◌∙◌, arith}
use Rattle.std.specs.Prelude.{Option, Some}
use Rattle.records.specs.declared.Cursor.{Cursor}
use Rattle.records.specs.declared.Leaf.{Leaf}
use Rattle.records.proofs.Founds.{leaf_primitive, leaf_call, leaf_marker}
use Rattle.reader.specs.Tallies.{at_once}
use Rattle.reader.proofs.Constructs.{primitive_alone, call_alone, marker_alone, call_range}
use Rattle.reader.proofs.at_once.Goals as goal
use Rattle.reader.proofs.at_once.Goals.{In-Call}

-- the leaf that was read, by its kind
leaf_as : {l k : Leaf} {next : Cursor} {o : Option (Leaf × Cursor)} → Some (l, next) ≡ o → l ≡ k → o ≡ Some (k, next)
leaf_as {next = next} e is = sym e ∙ ap (λ l. Some (l, next)) is

-- a call names one of at most 64 routines
called : (c : In-Call) → (1 ≤ c.in-Call.number) × (c.in-Call.number < 65)
called c =
    let range = call_range c.args.way.now.left c.args.known.now.sheet.now c.args.known.now.own c.args.standing c.args.c
    (leaf_call _ (leaf_as c.in_ok-leaf.ensures c.in-Call.is)) in
    (range.0, omega (arith, range.1, c.args.known.now.few))

pub overflow_sub-called : goal.overflow_sub-called
overflow_sub-called c = (called c).0

pub offset_bounds-known-called : goal.offset_bounds-known-called
offset_bounds-known-called c = omega (arith, (called c).1)

pub bounds-known-called : goal.bounds-known-called
bounds-known-called c = omega (arith, called (goal.at.bounds-known-called c).In-Call)

pub returns-in-Primitive : goal.returns-in-Primitive
returns-in-Primitive c =
    at_once refl (λ product. primitive_alone _ _ _ _ _ product _ c.args.notes.now.at_most (leaf_primitive _ (leaf_as c.in_ok-leaf.ensures c.in-Primitive.is)))

pub returns-in-Call : goal.returns-in-Call
returns-in-Call c =
    at_once refl (λ product. call_alone _ _ _ _ _ product _ c.args.notes.now.at_most c.args.known.now.small (leaf_call _ (leaf_as c.in_ok-leaf.ensures c.in-Call.is)))

pub returns-in-Marker : goal.returns-in-Marker
returns-in-Marker c =
    at_once refl (λ product. marker_alone _ _ _ _ _ product _ c.args.notes.now.at_most (leaf_marker _ (leaf_as c.in_ok-leaf.ensures c.in-Marker.is)))
