-- From what the reading of a sheet reports to what the calculator promises.
use Prim.Native.Nat.{ℕ, suc, ◌+◌, ◌-◌, ◌≤◌, ◌<◌}
use mathlib.Core.Path.{◌≡◌, refl, sym, ap, ◌∙◌}
use mathlib.Core.List.{List, [], ◌++◌, append_assoc, append-nil}
use lib.ListN.{length, get_or, set, take, drop, length-append, length-take, length-drop}
use lib.Seq.{drop-cons, drop-nil, set_at, take-suc}
use borrow.Author.Tests.{lt-ltb, le-ltb}
use native.Mathlib.Omega.{arith}
use native.Mathlib.Numerals.{add-one}
use Rattle.meaning.specs.Tree.{Sheet}
use Rattle.meaning.specs.Value.{nothing, bounds_of}
use Rattle.meaning.specs.Answer.{Verdict, accepted, refused, outcome, told, answer, stored, table_after, part_of, routine_part}
use Rattle.meaning.specs.Work.{constructs_valued, work}
use Rattle.runs.proofs.Reached.{length_bounds}
use Rattle.demands.proofs.Span.{AreBytes}
use Rattle.demands.proofs.Parts.{part_inside}
use Rattle.reader.specs.declared.Bounds.{Bounds}
use Rattle.reader.specs.Reader.{Report}
use Rattle.reader.specs.Reports.{stored_of}
use Rattle.bridge.proofs.Law.{Reported}
use Rattle.calculator.specs.declared.Places.{Places}
use Rattle.calculator.specs.Promises.{filled_by, filled, part_at}

-- one place more of a table, or of another list
pub stored_more : {A : Type 0} (none : A) (v t : List A) (i : ℕ) → i < length v → i < length t →
    set (take i v ++ drop i t) i (get_or v i none) ≡ take (i + 1) v ++ drop (i + 1) t
stored_more none v t i h k =
    let l : length (take i v) ≡ i = simp length-take (omega arith) in
    rw (drop-cons t i none, set_at (take i v) (get_or t i none) (drop (suc i) t) (get_or v i none) i l, add-one i, take-suc v i none, append_assoc)

-- what `fill` promises: what is said, of how many routines, the constructs valued, and the table after
abbrev Fills : List ℕ → List ℕ → Verdict ℕ → ℕ → ℕ → List ℕ → Type 0
Fills s table said routines constructs after =
    record {
      answer_value : said ≡ answer s (length table);
      routines_value : routines ≡ filled s (length table);
      constructs_value : constructs ≡ work s (length table);
      table_after : after ≡ table_after s table;
      routines_bound : routines ≤ 64;
    }

-- NO ROOM
pub no_room_lem : (s table : List ℕ) → length table < 64 → Fills s table (refused 1 0) 0 0 table
unfolding answer filled work table_after
no_room_lem s table h =
    rw (lt-ltb (length table) 64 h)
    record { answer_value = refl; routines_value = refl; constructs_value = refl; table_after = refl; routines_bound = omega arith }

-- a sheet that is refused fills, counts and stores nothing
none_filled : (v : Verdict Sheet) {number place : ℕ} (table : List ℕ) → refused number place ≡ told v →
    (0 ≡ filled_by v) × (0 ≡ constructs_valued v) × (table ≡ stored v table)
none_filled (accepted t) table e = (cc, cc, cc)
none_filled (refused n p) table e = (refl, refl, refl)

-- the bounds that are kept are as many as the routines: what is stored in an empty table and in one with room for all has the same lengths
one_each : (v : Verdict Sheet) (b : Bounds) (bound : ℕ) (table : List ℕ) → accepted bound ≡ told v → b.count ≤ length table →
    ((t : List ℕ) → stored_of b t ≡ stored v t) → b.count ≡ filled_by v
one_each (refused n p) b bound table e few same = cc
one_each (accepted t) b bound table e few same =
    let count = length t.routines in
    let no_more : stored_of b [] ≡ take b.count b.values = rw (drop-nil {A = ℕ} b.count) (append-nil (take b.count b.values)) in
    let none_left : stored (accepted t) [] ≡ bounds_of t = rw (drop-nil {A = ℕ} count) (append-nil (bounds_of t)) in
    let kept : take b.count b.values ≡ bounds_of t = sym no_more ∙ same [] ∙ none_left in
    let all : length (bounds_of t ++ drop b.count table) ≡ length (bounds_of t ++ drop count table) = ap length (rw kept at (same table)) in
    omega (
      arith,
      length-take b.count b.values,
      ap length kept,
      length_bounds nothing t.routines,
      all,
      length-append (bounds_of t) (drop b.count table),
      length-drop b.count table,
      length-append (bounds_of t) (drop count table),
      length-drop count table,
    )

module _ {s : List ℕ} (table : List ℕ) (room : 64 ≤ length table) {report : Report} (reported : Reported s 0 report) where
  pub refuses : {n p : ℕ} → report.reply.said ≡ refused n p → Fills s table report.reply.said 0 0 table
  unfolding answer filled work table_after
  refuses is =
      let none = none_filled (outcome s) table (sym is ∙ reported.said) in
      rw (le-ltb (length table) 64 room)
      record { answer_value = reported.said; routines_value = none.0; constructs_value = none.1; table_after = none.2; routines_bound = omega arith }

  pub accepts : {bound : ℕ} {after : List ℕ} → report.reply.said ≡ accepted bound → report.bounds.count ≤ 64 →
      after ≡ stored_of report.bounds table → Fills s table report.reply.said report.bounds.count report.bounds.constructs after
  unfolding answer filled work table_after
  accepts is few f =
      let all = one_each (outcome s) report.bounds _ table (sym is ∙ reported.said) (omega arith) (reported.kept _ is) in
      rw (le-ltb (length table) 64 room)
      record {
        answer_value = reported.said;
        routines_value = all;
        constructs_value = reported.valued _ is;
        table_after = f ∙ reported.kept _ is table;
        routines_bound = few;
      }

module _ (s : List ℕ) (number : ℕ) {p : Places} (same : part_at p ≡ part_of s number) where
  pub inside : AreBytes s → (p.start ≤ p.end) × (p.end ≤ length s)
  inside are = rw (← same) at (part_inside s are number)

  pub the_part : take (p.end - p.start) (drop p.start s) ≡ routine_part s number
  unfolding routine_part
  the_part = rw (← same)
