-- The lists of sequences and loops, whose children add up: what holds whenever their loop is at its test, how a child keeps it, and their end.
use Prim.Native.Nat.{ℕ, ◌+◌, ◌-◌, ◌*◌, ◌≤◌, ◌<◌, min}
use mathlib.Core.Path.{◌≡◌, refl, sym, ap, ◌∙◌}
use mathlib.Core.Bool.{Bool, true, false}
use mathlib.Core.List.{List, []}
use lib.Dec.{eqb}
use lib.ListN.{length, take, length-take, drop_of_length-le}
use native.Mathlib.Omega.{arith}
use Rattle.meaning.specs.Format.{pick}
use Rattle.records.specs.declared.Cursor.{Cursor}
use Rattle.std.specs.Prelude.{Ok}
use Rattle.std.specs.Option.{option_or}
use Rattle.reader.specs.Tallies.{Aside, value_cap, counted, is_branch, Tally, charges_of, with_of, value_told, close_of, aside_told}
use Rattle.reader.specs.Tallies.{aside_opened, paid_of, aside_paid, heaviest, heaviest_sum, Counts, Valued}
use Rattle.reader.specs.Reader.{Owner, ChildReader, child_of, list_from, Within}
use Rattle.reader.proofs.Laws.{pick_most, or_assoc, sum_fits, fewer_small, kept_other}
use Rattle.reader.proofs.Tells.{closed}
use Rattle.reader.proofs.Lists.{list_end}
use Rattle.reader.proofs.Going.{kept, Going, going_first, child_of_lem, child_room, child_more}

-- what a scope pays is at most just over the limit of a value
pub paid_small : {added x : ℕ} (scope : Bool) → x ≡ pick scope added 0 → added ≤ value_cap → x ≤ value_cap
paid_small scope e h = rw e (pick_most scope h (omega arith))

-- what the children of a record are lent: a scope has nothing added yet
abbrev pub lent_in : Owner → Aside → Aside
lent_in o a = aside_opened a o.scope

module _ (read : ChildReader) (o : Owner) (s lent : List ℕ) (n base : ℕ) (from : Cursor) (a : Aside) where
  pub record Summing (marks : List ℕ) (sum : ℕ) (c : Cursor) (i : ℕ) (aside : Aside) : Type 0 where
    pub t : Tally
    pub going : Going read o s lent n base from (lent_in o a) marks t base c i aside aside.mark
    pub sums : sum ≡ t.sum
    pub flat : t.top ≡ 0

  pub summing_first : 8 * base ≤ o.start → Within s o.start from.at → a.added ≤ value_cap → 8 * a.constructs ≤ o.start → Summing lent 0 from 0 (lent_in o a)
  summing_first h w small valued = record {
    t = _;
    going = going_first read o s lent n base from (lent_in o a) h w (pick_most o.scope (omega arith) small) valued;
    sums = refl;
    flat = refl;
  }

  -- the same where what is lent is known by an equation
  pub summing_from : {aside : Aside} → aside ≡ lent_in o a → 8 * base ≤ o.start → Within s o.start from.at → a.added ≤ value_cap → 8 * a.constructs ≤ o.start →
      Summing lent 0 from 0 aside
  summing_from e h w small valued = rw e (summing_first h w small valued)

module _ {read : ChildReader} {o : Owner} {s lent : List ℕ} {n base : ℕ} {from : Cursor} {a : Aside} {marks : List ℕ} {sum : ℕ} {c : Cursor} {i : ℕ}
    {aside : Aside} (g : Summing read o s lent n base from a marks sum c i aside) where
  -- one more child fits
  pub summing_fits : i < n → n * heaviest o.kind ≤ heaviest_sum → sum + heaviest o.kind ≤ heaviest_sum
  summing_fits more fits =
      rw g.sums (sum_fits o.kind i g.going.tally (fewer_small (i + 1) n o.kind (omega arith) fits))

  -- all that are read fit
  pub summing_small : n * heaviest o.kind ≤ heaviest_sum → sum ≤ heaviest_sum
  summing_small fits = rw g.sums (omega (arith, g.going.tally.sum, fewer_small i n o.kind g.going.count fits))

  -- one child more
  pub summing_more : {b : Aside} (after : List ℕ) {v : ℕ} {next : Cursor} →
      Valued (length s) c.at aside (child_of read o i (base - base) c) (Ok (v, next)) b → {x : ℕ} → x ≡ counted o.kind o.first i v →
      length s ≤ 8 * length lent → Counts o.kind o.first → i < n → is_branch o.kind i ≡ false → take base after ≡ take base marks →
      length after ≡ length marks → Summing read o s lent n base from a after (sum + x) next (i + 1) b
  unfolding with_of
  summing_more {b} after {v} w e spare counts more plain still long =
      let p = w.told in
      let k = child_of_lem after w g.going spare counts more refl refl refl still long in
      let room = child_room k in
      let mark : b.mark ≡ option_or p.mark (option_or g.t.mark a.mark) = ap (λ z. z.mark) w.aside ∙ ap (option_or p.mark) g.going.mark in
      let keeps = kept_other o.kind i v p.mark base after plain (omega arith) in
      record {
        t = with_of o.kind o.first i g.t v p.over p.added p.mark p.constructs;
        going = child_more k keeps (mark ∙ rw plain (sym (or_assoc p.mark g.t.mark a.mark)));
        sums = rw (plain, g.sums, e);
        flat = rw plain g.flat;
      }

  -- the end: a scope pays what its markers add; any other record hands it on
  pub summing_ends : {z : Aside} {value : ℕ} → n ≡ i → a.added ≤ value_cap →
      z ≡ aside_paid aside o.scope a.added →
      value ≡ sum + pick (eqb o.kind 7) o.first 0 + paid_of aside o.scope →
      Valued (length s) o.start a (list_from read o n from) (Ok (value_told value, c)) (aside_told z value n o.start)
  unfolding charges_of
  summing_ends {z} {value} all small same amount =
      let t = g.t in
      let h = g.going in
      let m = length-take base marks in
      let none : kept base base marks ≡ [] = drop_of_length-le (take base marks) {i = base} (omega arith) in
      let end = rw none at (list_end read o n i c t (kept base base marks) (omega arith)) in
      let is : close_of o.kind o.first o.scope t 0 o.start c ≡ list_from read o n from = sym end ∙ (rw none at h.same) in
      let (added, paid) = by_scope o.scope h.added in
      rw (← is) (closed (record {
        over = ap (λ x. x.over) same ∙ h.over;
        added = ap (λ x. x.added) same ∙ added;
        mark = ap (λ x. x.mark) same ∙ h.mark;
        constructs = ap (λ x. x.constructs + n) same ∙ rw all h.constructs;
        amount = amount ∙ rw (g.sums, g.flat, paid) (omega arith);
        few = h.tally.mark;
        small = small;
        past = h.past;
        inside = h.inside;
      }))
    where
      by_scope : (w : Bool) → aside.added ≡ min value_cap (pick w 0 a.added + g.t.added) →
          (pick w a.added aside.added ≡ pick w a.added (min value_cap (a.added + min value_cap (g.t.added + 0))))
          × (pick w aside.added 0 ≡ pick w (min value_cap (g.t.added + 0)) 0)
      by_scope true e = (refl, omega arith)
      by_scope false e = (omega arith, refl)
