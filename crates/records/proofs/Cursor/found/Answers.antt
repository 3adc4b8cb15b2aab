-- `Cursor::found` judges by the row of the kind that it read, one arm for each.
use Rattle.std.proofs.Common.{refl}
use Rattle.meaning.specs.Format.{listed}
use Rattle.records.proofs.Judging.{construct_arm}
use Rattle.records.proofs.Cursor.found.Goals as goal

pub returns-in-2 : goal.returns-in-2
unfolding listed
returns-in-2 c = construct_arm _ c.args.place _ c.type_inv.s _ _ c.in-Some.ensures 2 c.in-2.is refl c.rest.ensures

pub returns-in-3 : goal.returns-in-3
unfolding listed
returns-in-3 c = construct_arm _ c.args.place _ c.type_inv.s _ _ c.in-Some.ensures 3 c.in-3.is refl c.rest-in-3.ensures

pub returns-in-4 : goal.returns-in-4
unfolding listed
returns-in-4 c = construct_arm _ c.args.place _ c.type_inv.s _ _ c.in-Some.ensures 4 c.in-4.is refl c.rest-in-4.ensures

pub returns-in-5 : goal.returns-in-5
unfolding listed
returns-in-5 c = construct_arm _ c.args.place _ c.type_inv.s _ _ c.in-Some.ensures 5 c.in-5.is refl c.rest-in-5.ensures

pub returns-in-6 : goal.returns-in-6
unfolding listed
returns-in-6 c = construct_arm _ c.args.place _ c.type_inv.s _ _ c.in-Some.ensures 6 c.in-6.is refl c.rest-in-6.ensures

pub returns-in-7 : goal.returns-in-7
unfolding listed
returns-in-7 c = construct_arm _ c.args.place _ c.type_inv.s _ _ c.in-Some.ensures 7 c.in-7.is refl c.rest-in-7.ensures

pub returns-in-8 : goal.returns-in-8
unfolding listed
returns-in-8 c = construct_arm _ c.args.place _ c.type_inv.s _ _ c.in-Some.ensures 8 c.in-8.is refl c.rest-in-8.ensures

pub returns-in-9 : goal.returns-in-9
unfolding listed
returns-in-9 c = construct_arm _ c.args.place _ c.type_inv.s _ _ c.in-Some.ensures 9 c.in-9.is refl c.rest-in-9.ensures
