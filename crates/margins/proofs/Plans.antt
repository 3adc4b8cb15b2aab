-- From what the calculator fills to what `margins` promises.
use Prim.Native.Nat.{ℕ, ◌+◌, ◌≤◌, ◌<◌}
use mathlib.Core.Path.{◌≡◌, refl, sym, ◌∙◌}
use mathlib.Core.Bool.{Bool, true, false}
use mathlib.Core.List.{List, ◌++◌}
use lib.ListN.{length, take, drop}
use lib.Seq.{take_at}
use lib.IntN.{ℤ}
use lib.Dec.{ltb}
use borrow.Author.Tests.{ltb-false, lt-ltb, le-ltb}
use native.Mathlib.Nat.{not-suc-le-zero, zero-add}
use Rattle.std.specs.Prelude.{Some, None}
use Rattle.std.specs.List.{All}
use Rattle.std.proofs.lemmas.List.Elements.{All-nil, All-from_get_or}
use Rattle.meaning.specs.Tree.{Sheet}
use Rattle.meaning.specs.Format.{pick}
use Rattle.meaning.specs.Value.{nothing, bounds_of}
use Rattle.meaning.specs.Answer.{Verdict, accepted, refused, value_limit, outcome, told, answer, stored, table_after}
use Rattle.runs.proofs.Reached.{length_bounds}
use Rattle.demands.proofs.Limit.{small_bounds}
use Rattle.demands.proofs.Outcome.{accepted_is}
use Rattle.calculator.specs.Promises.{filled_by, filled}
use Rattle.margins.specs.Margins.{short_list, held_to, planned, margins_of, margins_after}
use Rattle.margins.specs.Steps.{out_of_range}
use Rattle.margins.proofs.Laws.{InRange, IsFirst, some_over, none_over, some_out, all_in, margins_first}

-- what `fill` says and leaves in a table with room, for a sheet with this outcome
pub record Fills (v : Verdict Sheet) (z : List ℕ) (said : Verdict ℕ) (n : ℕ) (own : List ℕ) : Type 0 where
  pub same : said ≡ told v
  pub count : n ≡ filled_by v
  pub kept : own ≡ stored v z

pub filled_so : (s z : List ℕ) {said : Verdict ℕ} {n : ℕ} {own : List ℕ} → 64 ≤ length z → said ≡ answer s (length z) → n ≡ filled s (length z) →
    own ≡ table_after s z → Fills (outcome s) z said n own
unfolding answer filled table_after
filled_so s z {said} {n} {own} h a b c =
    let no : ltb (length z) 64 ≡ false = le-ltb (length z) 64 h in
    record { same = rw no at a; count = rw no at b; kept = rw no at c }

-- the first places hold the bounds of the routines
first_bounds : (t : Sheet) {z : List ℕ} {said : Verdict ℕ} {n : ℕ} {own : List ℕ} → Fills (accepted t) z said n own → take n own ≡ bounds_of t
first_bounds t {z} {n = n} f = rw f.kept (take_at (bounds_of t) (drop (length t.routines) z) n (length_bounds nothing t.routines ∙ zero-add _ ∙ sym f.count))

-- the bounds in the first places are at most the limit
bounds_small : (s : List ℕ) (v : Verdict Sheet) {z : List ℕ} {said : Verdict ℕ} {n : ℕ} {own : List ℕ} → outcome s ≡ v → Fills v z said n own →
    All (λ b. b ≤ value_limit) (take n own)
bounds_small s (refused number place) e f = rw f.count (All-nil _)
bounds_small s (accepted t) {z = z} e f =
    rw (first_bounds t f) (All-from_get_or (λ b. b ≤ value_limit) (bounds_of t) 0 (λ i h. small_bounds t ((accepted_is s t).0 e).small i))

-- the deadlines of the routines decide: the first that is out of range, or none
module _ (deadlines : List ℕ) {z : List ℕ} {said : Verdict ℕ} {n : ℕ} {own : List ℕ} where
  held_out : (v : Verdict Sheet) → Fills v z said n own → {i : ℕ} → IsFirst (take n deadlines) i → held_to deadlines v ≡ refused 14 (i + 1)
  held_out (refused number place) f {i} first = absurd (not-suc-le-zero (rw f.count at first.within))
  held_out (accepted t) f first = some_out t deadlines (rw f.count at first)

  held_by_all : (v : Verdict Sheet) → Fills v z said n own → InRange (take n deadlines) → held_to deadlines v ≡ v
  held_by_all (refused number place) f all = refl
  held_by_all (accepted t) f all = all_in t deadlines (rw f.count at all)

  -- what is written then: the bounds of all routines and their margins
  written_all : (v : Verdict Sheet) → Fills v z said n own → (table : List ℕ) (margins : List ℤ) →
      (take n own ++ drop (length (take n own)) table ≡ stored v table)
      × (margins_of (take n deadlines) (take n own) ++ drop (length (take n own)) margins ≡ margins_after v deadlines margins)
  unfolding margins_of
  written_all (refused number place) f table margins = rw f.count (refl, refl)
  written_all (accepted t) f table margins =
      let all = length_bounds nothing t.routines ∙ zero-add (length t.routines) in
      let theirs = rw (all, ← f.count) at (margins_first deadlines (bounds_of t)) in
      rw (first_bounds t f, theirs, all) (refl, refl)

-- three lists that are long enough
pub record Long (table deadlines : List ℕ) (margins : List ℤ) : Type 0 where
  pub room : 64 ≤ length table
  pub for_deadlines : 64 ≤ length deadlines
  pub for_margins : 64 ≤ length margins

pub long_lists : (table deadlines : List ℕ) (margins : List ℤ) → 64 ≤ length table → short_list deadlines margins ≡ false → Long table deadlines margins
long_lists table deadlines margins h e = go (ltb (length deadlines) 64) refl e
  where
    go : (t : Bool) → ltb (length deadlines) 64 ≡ t → pick t true (ltb (length margins) 64) ≡ false → Long table deadlines margins
    go true q e = cc
    go false q e = record { room = h; for_deadlines = ltb-false _ _ q; for_margins = ltb-false _ _ e }

-- what `margins` promises: what is said, the table after and the margins after
module _ (s table deadlines : List ℕ) (margins : List ℤ) where
  abbrev Plans : Verdict ℕ → List ℕ → List ℤ → Type 0
  Plans said after written =
      let v = planned s table deadlines margins in
      record {
        result_value : said ≡ told v;
        table_after : after ≡ stored v table;
        margins_after : written ≡ margins_after v deadlines margins;
      }

  pub no_room_lem : length table < 64 → Plans (refused 1 0) table margins
  unfolding planned
  no_room_lem h = rw (lt-ltb (length table) 64 h) record { result_value = refl; table_after = refl; margins_after = refl }

  pub short_lists : 64 ≤ length table → short_list deadlines margins ≡ true → Plans (refused 13 0) table margins
  unfolding planned
  short_lists h e = rw (le-ltb (length table) 64 h, e) record { result_value = refl; table_after = refl; margins_after = refl }

  -- with lists that are long enough it is the sheet and the deadlines that decide
  pub by_sheet : Long table deadlines margins → planned s table deadlines margins ≡ held_to deadlines (outcome s)
  unfolding planned
  by_sheet l = rw (le-ltb (length table) 64 l.room, le-ltb (length deadlines) 64 l.for_deadlines, le-ltb (length margins) 64 l.for_margins)

-- after `fill`
pub record Read (s table deadlines : List ℕ) (margins : List ℤ) (said : Verdict ℕ) (n : ℕ) (own : List ℕ) : Type 0 where
  pub long : Long table deadlines margins
  pub before : List ℕ
  pub fills : Fills (outcome s) before said n own

-- what `write_out` requires, and what is left
module _ (s table deadlines : List ℕ) (margins : List ℤ) {said : Verdict ℕ} {n : ℕ} {own : List ℕ} (j : Read s table deadlines margins said n own) where
  pub may_write : out_of_range (take n deadlines) ≡ None → All (λ b. b ≤ value_limit) (take n own) × InRange (take n deadlines)
  may_write e = (bounds_small s (outcome s) refl j.fills, none_over (take n deadlines) e)

  pub some_bad : {i : ℕ} → out_of_range (take n deadlines) ≡ Some i → Plans s table deadlines margins (refused 14 (i + 1)) table margins
  some_bad e =
      rw (by_sheet s table deadlines margins j.long, held_out deadlines (outcome s) j.fills (some_over (take n deadlines) e)) record { result_value = refl; table_after = refl; margins_after = refl }

  pub none_bad : {after : List ℕ} {written : List ℤ} → out_of_range (take n deadlines) ≡ None → after ≡ take n own ++ drop (length (take n own)) table →
      written ≡ margins_of (take n deadlines) (take n own) ++ drop (length (take n own)) margins → Plans s table deadlines margins said after written
  none_bad e a b =
      let (bounds-in, margins-in) = written_all deadlines (outcome s) j.fills table margins in
      rw (by_sheet s table deadlines margins j.long, held_by_all deadlines (outcome s) j.fills (none_over (take n deadlines) e))
      record { result_value = j.fills.same; table_after = a ∙ bounds-in; margins_after = b ∙ margins-in }
