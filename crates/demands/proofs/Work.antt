-- Request L2 of document 02 on bytes: the count of an accepted sheet "equals the number of construct records and is at most (bytes - 12) / 8";
-- that of a refused one is 0.
use Prim.Native.Nat.{ℕ, ◌-◌, ◌/◌, ◌≤◌}
use mathlib.Core.Path.{◌≡◌, refl, sym, ap, ◌∙◌}
use mathlib.Core.Bool.{Bool, true, false}
use mathlib.Core.List.{List}
use lib.ListN.{length}
use borrow.Author.Tests.{le-ltb}
use native.Mathlib.Omega.{arith}
use Rattle.meaning.specs.Tree.{Sheet}
use Rattle.meaning.specs.Format.{pick}
use Rattle.meaning.specs.Answer.{Verdict, accepted, refused, outcome, told, no_room, answer}
use Rattle.meaning.specs.Work.{constructs_valued, work, records_of, construct_records, all_bytes}
use Rattle.meaning.proofs.Works.{counts_records, records_stand, most}
use Rattle.demands.proofs.Span.{AreBytes}
use Rattle.demands.proofs.Outcome.{not_accepted}
use Rattle.demands.proofs.RoundTrip.{accepted_good}

-- the records are those that the bytes are, one after another
pub work_records : (s : List ℕ) → AreBytes s → (room : ℕ) (t : Sheet) → 64 ≤ room → outcome s ≡ accepted t →
    (work s room ≡ construct_records (records_of t)) × (s ≡ all_bytes (records_of t))
unfolding work
work_records s are room t h e = (rw (le-ltb room 64 h, e) (counts_records t), (accepted_good s t e).same are ∙ records_stand t)

-- "a refusal reports 0", NO ROOM included
pub work_refused : (s : List ℕ) (room : ℕ) {number place : ℕ} → answer s room ≡ refused number place → work s room ≡ 0
unfolding answer work
work_refused s room {number} {place} e = go (no_room room) (outcome s) e
  where
    go : (t : Bool) (v : Verdict Sheet) → pick t (refused 1 0) (told v) ≡ refused number place → pick t 0 (constructs_valued v) ≡ 0
    go true v e = refl
    go false (accepted t) e = not_accepted (sym e)
    go false (refused n p) e = refl

pub work_most : (s : List ℕ) → AreBytes s → (room : ℕ) → work s room ≤ (length s - 12) / 8
unfolding work
work_most s are room = go (no_room room) (outcome s) refl
  where
    go : (t : Bool) (v : Verdict Sheet) → outcome s ≡ v → pick t 0 (constructs_valued v) ≤ (length s - 12) / 8
    go true v e = omega arith
    go false (accepted t) e = let a = ap length ((accepted_good s t e).same are) in let b = most t in omega arith
    go false (refused n p) e = omega arith
