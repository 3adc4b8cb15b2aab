-- The list of an alternative, its condition and its branches: what holds whenever its loop is at its test, how a branch keeps it, and its end.
use Prim.Native.Nat.{ℕ, ◌+◌, ◌-◌, ◌*◌, ◌≤◌, ◌<◌, min}
use mathlib.Core.Path.{◌≡◌, refl, sym, ap, ◌∙◌}
use mathlib.Core.Bool.{false}
use mathlib.Core.List.{List}
use lib.Dec.{eqb}
use lib.ListN.{length, take, drop}
use native.Mathlib.Omega.{arith}
use borrow.Author.Tests.{ne_eqb}
use Rattle.std.specs.Prelude.{Option, None, Ok}
use Rattle.std.specs.Option.{option_or}
use Rattle.records.specs.declared.Cursor.{Cursor}
use Rattle.records.specs.declared.standings.Standing.{Standing}
use Rattle.reader.specs.Tallies.{Aside, added_as, mark_as, value_cap, counted, Tally, Limited, no_tally, charges_of, with_of, kept_with, kept_of, value_told, close_of, topped_of, aside_told, Valued}
use Rattle.reader.specs.Reader.{Owner, owner_of, ChildReader, child_of, list_from, Within}
use Rattle.reader.proofs.Laws.{or_none, no_loop, Kept, kept_other}
use Rattle.reader.proofs.Tells.{closed}
use Rattle.reader.proofs.Lists.{list_end}
use Rattle.reader.proofs.Going.{kept, kept_part, Going, going_first, Child, child_of_lem, child_room, child_more}

module _ (read : ChildReader) (n start : ℕ) (standing : Standing) (product : ℕ) (s lent : List ℕ) (base : ℕ) (from : Cursor) (a : Aside) where
  abbrev pub alternative : Owner
  alternative = owner_of 4 n false start standing product

  pub record Branching (marks : List ℕ) (sum top held : ℕ) (marked : Option ℕ) (c : Cursor) (i : ℕ) (aside : Aside) : Type 0 where
    pub t : Tally
    pub going : Going read alternative s lent (n + 1) base from a marks t held c i aside marked
    pub sums : sum ≡ t.sum
    pub tops : top ≡ t.top

  -- its condition was read
  pub branching_first : {b : Aside} (after : List ℕ) {v : ℕ} {next : Cursor} → 8 * base ≤ start → Within s start from.at → a.added ≤ value_cap →
      8 * a.constructs ≤ start → length s ≤ 8 * length lent → Valued (length s) from.at a (child_of read alternative 0 (base - base) from) (Ok (v, next)) b →
      take base after ≡ take base lent → length after ≡ length lent → Branching after v 0 base b.mark next 1 b
  unfolding with_of counted
  branching_first {b} after {v} h within small valued spare w still long =
      let p = w.told in
      let none = going_first read alternative s lent (n + 1) base from a h within small valued in
      let k = child_of_lem after w none spare (no_loop refl) (omega arith) refl refl refl still long in
      let room = child_room k in
      record {
        t = with_of 4 n 0 no_tally v p.over p.added p.mark p.constructs;
        going = child_more k (kept_other 4 0 v p.mark base after refl (omega arith)) (ap (λ z. z.mark) w.aside ∙ ap (λ z. option_or z a.mark) (sym (or_none p.mark)));
        sums = omega arith;
        tops = refl;
      }

module _ {read : ChildReader} {n start : ℕ} {standing : Standing} {product : ℕ} {s lent : List ℕ} {base : ℕ} {from : Cursor} {a : Aside} {marks : List ℕ}
    {sum top held : ℕ} {marked : Option ℕ} {c : Cursor} {i : ℕ} {aside : Aside}
    (g : Branching read n start standing product s lent base from a marks sum top held marked c i aside) where
  abbrev whole : Owner
  whole = alternative read n start standing product s lent base from a

  -- one branch more, to which no mark is lent
  module _ {b : Aside} (after : List ℕ) {v : ℕ} {next : Cursor}
      (w : Valued (length s) c.at (mark_as aside None) (child_of read whole i (held - base) c) (Ok (v, next)) b)
      (spare : length s ≤ 8 * length lent) (some : 1 ≤ i) (more : i < n + 1) (still : take held after ≡ take held marks) (long : length after ≡ length marks) where
    abbrev pub child : Child read whole s lent (n + 1) base from a marks g.t held c i aside marked (mark_as aside None) after w.told v next b
    child = child_of_lem after w g.going spare (no_loop refl) more refl refl refl still long

    -- its mark is what it told
    told : b.mark ≡ w.told.mark
    told = ap (λ z. z.mark) w.aside ∙ or_none w.told.mark

    pub branching_more : {holds : ℕ} {last : List ℕ} → holds ≡ length (kept_with v b.mark (take held after)) →
        take holds last ≡ kept_with v b.mark (take held after) → length last ≡ length after →
        Branching read n start standing product s lent base from a last sum (topped_of top v b.mark) holds marked next (i + 1) b
    unfolding with_of kept_of
    branching_more {holds} {last} many kept-as longer =
        let p = w.told in
        let later : eqb i 0 ≡ false = ne_eqb i 0 (λ e. omega arith) in
        let keeps : Kept 4 i v p.mark held after holds last = rw (later, ← told) (many, (kept-as, longer)) in
        record {
          t = with_of 4 n i g.t v p.over p.added p.mark p.constructs;
          going = child_more child keeps (rw later g.going.mark);
          sums = rw later g.sums;
          tops = rw (later, told, g.tops);
        }

    -- there is room for a marked branch, and its mark is in its range
    pub branch_room : held < length after
    branch_room = child_room child

    pub branch_limited : Limited b.mark
    branch_limited = rw told w.fine.mark

  -- how large the sum and the largest branch can be
  pub branching_small : (sum ≤ i * 1099511627775) × (top ≤ 1099511627775)
  branching_small = (rw g.sums g.going.tally.sum, rw g.tops g.going.tally.top)

  -- the end: what the marked branches add is added
  pub branching_ends : {z : Aside} {value more : ℕ} → n + 1 ≡ i → a.added ≤ value_cap →
      more ≡ charges_of product top 0 (take (held - base) (drop base marks)) →
      z ≡ added_as (mark_as aside marked) (min value_cap (aside.added + more)) → value ≡ sum + top →
      Valued (length s) start a (list_from read whole (n + 1) from) (Ok (value_told value, c)) (aside_told z value (n + 1) start)
  branching_ends {z} {value} {more} all small charged same amount =
      let t = g.t in
      let h = g.going in
      let charge : more ≡ charges_of product t.top 0 (kept base held marks) = charged ∙ rw (kept_part base held marks h.above, g.tops) in
      let end = list_end read whole (n + 1) i c t (kept base held marks) (omega arith) in
      let is : close_of 4 n false t more start c ≡ list_from read whole (n + 1) from = rw charge (sym end ∙ h.same) in
      let added = h.added in
      rw (← is) (closed (record {
        over = ap (λ x. x.over) same ∙ h.over;
        added = ap (λ x. x.added) same ∙ omega arith;
        mark = ap (λ x. x.mark) same ∙ h.mark;
        constructs = ap (λ x. x.constructs + (n + 1)) same ∙ rw all h.constructs;
        amount = amount ∙ rw (g.sums, g.tops) (omega arith);
        few = h.tally.mark;
        small = small;
        past = h.past;
        inside = h.inside;
      }))
