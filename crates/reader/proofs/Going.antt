-- What holds whenever the loop of a list is at its test, `Going`, and how each child that is read, a `Child`, keeps it.
use Prim.Native.Nat.{ℕ, zero, suc, ◌+◌, ◌-◌, ◌*◌, ◌≤◌, ◌<◌, min}
use mathlib.Core.Path.{◌≡◌, refl, sym, ap, ◌∙◌}
use mathlib.Core.Bool.{Bool, true, false}
use mathlib.Core.List.{List, [], ◌∷◌, ◌++◌}
use lib.ListN.{length, take, drop, length-append, length-take, length-drop, drop_of_length-le}
use lib.Seq.{take-take, take-append-le, drop-append-le}
use native.Mathlib.Omega.{arith}
use Rattle.meaning.specs.Format.{pick}
use Rattle.records.specs.declared.Cursor.{Cursor}
use Rattle.std.specs.Prelude.{Option, Some, None, Ok}
use Rattle.std.specs.Option.{option_or}
use Rattle.reader.specs.Tallies.{Aside, value_cap, is_branch, Share, Done, Refused, Tally, no_tally, with_of, kept_with, kept_of, aside_of, Counts, Held, Told, Valued}
use Rattle.reader.specs.Reader.{Owner, ChildReader, child_of, list_of, list_from, Lent, Within}
use Rattle.reader.proofs.Laws.{or_none, or_assoc, Kept, held_more}
use Rattle.reader.proofs.Tells.{returned_is}
use Rattle.reader.proofs.Lists.{list_refused, list_done}

-- the marked branches that a list keeps: from its base up to those held
abbrev pub kept : ℕ → ℕ → List ℕ → List ℕ
kept base held marks = drop base (take held marks)

nothing_taken : (n : ℕ) → take {A = ℕ} n [] ≡ []
nothing_taken zero = refl
nothing_taken (suc n) = refl

pub kept_part : (base held : ℕ) (marks : List ℕ) → base ≤ held → take (held - base) (drop base marks) ≡ kept base held marks
kept_part zero held marks h = let e : held - 0 ≡ held = omega arith in rw e
kept_part (suc base) zero marks h = absurd (omega arith)
kept_part (suc base) (suc held) [] h = nothing_taken (suc held - suc base)
kept_part (suc base) (suc held) (x ∷ marks) h =
    let e : suc held - suc base ≡ held - base = omega arith in
    rw e (kept_part base held marks (omega arith))

below_still : {base held : ℕ} (a b : List ℕ) → base ≤ held → take held a ≡ take held b → take base a ≡ take base b
below_still {base} {held} a b h e = sym (take-take base held a h) ∙ ap (take base) e ∙ take-take base held b h

length_kept : (base held : ℕ) (marks : List ℕ) → held ≤ length marks → length (kept base held marks) ≡ held - base
length_kept base held marks h = let n = length-drop base (take held marks) in let m = length-take held marks in omega arith

-- what holds of a list as it is, and with one more at its end, holds of what is kept
keeps : (kind i v : ℕ) (m : Option ℕ) (P : (List ℕ → List ℕ) → Type 0) → P (λ xs. xs) → ((x : ℕ) → P (λ xs. xs ++ (x ∷ []))) → P (kept_of kind i v m)
unfolding kept_of
keeps kind i v m P none one = go (is_branch kind i) m
  where
    go : (branch : Bool) (m : Option ℕ) → P (λ xs. pick branch (kept_with v m xs) xs)
    go false m = none
    go true None = none
    go true (Some limit) = one (v * 1048576 + limit)

module _ (kind i v : ℕ) (m : Option ℕ) (xs : List ℕ) where
  kept_more : (base : ℕ) → base ≤ length xs → drop base (kept_of kind i v m xs) ≡ kept_of kind i v m (drop base xs)
  kept_more base h = keeps kind i v m (λ f. drop base (f xs) ≡ f (drop base xs)) refl (λ x. drop-append-le base xs _ h)

  kept_below : (base : ℕ) → base ≤ length xs → take base (kept_of kind i v m xs) ≡ take base xs
  kept_below base h = keeps kind i v m (λ f. take base (f xs) ≡ take base xs) refl (λ x. take-append-le base xs _ h)

  kept_longer : (length xs ≤ length (kept_of kind i v m xs)) × (length (kept_of kind i v m xs) ≤ length xs + 1)
  kept_longer =
      keeps kind i v m (λ f. (length xs ≤ length (f xs)) × (length (f xs) ≤ length xs + 1)) (omega arith, omega arith) (λ x.
      let n = length-append xs (x ∷ []) in
      (omega arith, omega arith))

module _ (read : ChildReader) (o : Owner) (s lent : List ℕ) (n base : ℕ) (from : Cursor) (first : Aside) where
  -- So far the children from `from` on come to the tally t and the marks kept, the next stands at c, and what was lent below the base is as it was.
  -- What is told aside is what was told first and what the tally tells; where a branch is read, the mark is kept apart.
  pub record Going (marks : List ℕ) (t : Tally) (held : ℕ) (c : Cursor) (i : ℕ) (aside : Aside) (marked : Option ℕ) : Type 0 where
    pub same : list_of read o (n - i) i c t (kept base held marks) ≡ list_from read o n from
    pub tally : Held o.kind i t
    pub count : i ≤ n
    pub above : base ≤ held
    pub room : 8 * held ≤ c.at
    pub past : o.start + 8 + 8 * t.constructs ≤ c.at
    pub before : 8 * first.constructs ≤ o.start
    pub inside : c.at ≤ length s
    pub below : take base marks ≡ take base lent
    pub long : length marks ≡ length lent
    pub over : aside.over ≡ option_or first.over t.over
    pub added : aside.added ≡ min value_cap (first.added + t.added)
    pub mark : marked ≡ option_or t.mark first.mark
    pub constructs : aside.constructs + i ≡ first.constructs + t.constructs

  pub going_first : 8 * base ≤ o.start → Within s o.start from.at → first.added ≤ value_cap → 8 * first.constructs ≤ o.start →
      Going lent no_tally base from 0 first first.mark
  going_first h w small valued =
      let m = length-take base lent in
      let e : kept base base lent ≡ [] = drop_of_length-le (take base lent) {i = base} (omega arith) in
      let z : n - 0 ≡ n = omega arith in
      record {
        same = rw (e, z);
        tally = record { sum = omega arith; top = omega arith; added = omega arith; mark = tt };
        count = omega arith;
        above = omega arith;
        room = omega (arith, w.past);
        past = omega (arith, w.past);
        before = valued;
        inside = w.inside;
        below = refl;
        long = refl;
        over = sym (or_none first.over);
        added = omega arith;
        mark = refl;
        constructs = refl;
      }

  -- Child i was read, where so much was lent aside, and told p: its value and the cursor past it were returned, and the marks came to those after it.
  pub record Child (marks : List ℕ) (t : Tally) (held : ℕ) (c : Cursor) (i : ℕ) (aside : Aside) (marked : Option ℕ) (lends : Aside) (after : List ℕ) (p : Share) (v : ℕ)
      (next : Cursor) (b : Aside) : Type 0 where
    pub going : Going marks t held c i aside marked
    pub spare : length s ≤ 8 * length lent
    pub counts : Counts o.kind o.first
    pub more : i < n
    pub lent_over : lends.over ≡ aside.over
    pub lent_added : lends.added ≡ aside.added
    pub lent_constructs : lends.constructs ≡ aside.constructs
    pub is : child_of read o i (held - base) c ≡ Done p
    pub value : v ≡ p.value
    pub past : next ≡ p.next
    pub after_it : b ≡ aside_of lends p.over p.added p.mark p.constructs
    pub fine : Told (length s) c.at p
    pub still : take held after ≡ take held marks
    pub long : length after ≡ length marks

module _ {read : ChildReader} {o : Owner} {s lent : List ℕ} {n base : ℕ} {from : Cursor} {first : Aside} {marks : List ℕ} {t : Tally} {held : ℕ} {c : Cursor}
    {i : ℕ} {aside : Aside} {marked : Option ℕ} where
  -- the constructs that were valued are few
  pub few_valued : Going read o s lent n base from first marks t held c i aside marked → length s ≤ 60000 → aside.constructs + i ≤ 7500
  few_valued g short = omega (arith, g.constructs, g.past, g.before, g.inside)

  -- what was lent is as it was below the base, and as long
  pub still_below : (after : List ℕ) → Going read o s lent n base from first marks t held c i aside marked → take held after ≡ take held marks →
      take base after ≡ take base lent
  still_below after g still = below_still after marks g.above still ∙ g.below

  -- what is lent to a child
  pub child_lent : Going read o s lent n base from first marks t held c i aside marked → length s ≤ 8 * length lent → Lent s marks aside.constructs held c.at
  child_lent g spare = record {
    room = omega (arith, g.long);
    kept = g.room;
    valued = omega (arith, g.constructs, g.past, g.before);
  }

  -- there is room for the marks that are held
  pub held_room : Going read o s lent n base from first marks t held c i aside marked → length s ≤ 8 * length lent → held ≤ length marks
  held_room g spare = omega (arith, g.room, g.inside, g.long)

  -- a refusal of a child is one of the list
  pub child_refused : {number place : ℕ} → Going read o s lent n base from first marks t held c i aside marked → length s ≤ 8 * length lent → i < n →
      child_of read o i (held - base) c ≡ Refused number place → list_from read o n from ≡ Refused number place
  child_refused g spare more e =
      let m = length_kept base held marks (held_room g spare) in
      sym g.same ∙ list_refused read o n i c t (kept base held marks) more (rw m e)

  pub child_of_lem : {lends b : Aside} (after : List ℕ) {v : ℕ} {next : Cursor} →
      (w : Valued (length s) c.at lends (child_of read o i (held - base) c) (Ok (v, next)) b) →
      Going read o s lent n base from first marks t held c i aside marked → length s ≤ 8 * length lent → Counts o.kind o.first → i < n →
      lends.over ≡ aside.over → lends.added ≡ aside.added → lends.constructs ≡ aside.constructs → take held after ≡ take held marks → length after ≡ length marks →
      Child read o s lent n base from first marks t held c i aside marked lends after w.told v next b
  child_of_lem after w g spare counts more over added valued still long =
      let (value, past) = returned_is w in
      record {
        going = g;
        spare = spare;
        counts = counts;
        more = more;
        lent_over = over;
        lent_added = added;
        lent_constructs = valued;
        is = w.is;
        value = value;
        past = past;
        after_it = w.aside;
        fine = w.fine;
        still = still;
        long = long;
      }

  module _ {lends b : Aside} {after : List ℕ} {p : Share} {v : ℕ} {next : Cursor}
      (k : Child read o s lent n base from first marks t held c i aside marked lends after p v next b) where
    -- there is room for one mark more
    pub child_room : held < length after
    child_room = omega (arith, k.spare, k.going.room, k.going.long, k.long, k.fine.past, k.fine.inside)

    -- the tally with it
    abbrev pub tallied : Tally
    tallied = with_of o.kind o.first i t v p.over p.added p.mark p.constructs

    -- one child more; where it is a marked branch, one mark more is kept
    pub child_more : {holds : ℕ} {last : List ℕ} {marked' : Option ℕ} → Kept o.kind i v p.mark held after holds last →
        marked' ≡ option_or tallied.mark first.mark → Going read o s lent n base from first last tallied holds next (i + 1) b marked'
    unfolding with_of
    child_more {holds} {last} (many, (kept-as, longer)) marks-as =
        let g = k.going in
        let fine = k.fine in
        let xs = take held marks in
        let m = length-take held marks in
        let full = length_kept base held marks (held_room g k.spare) in
        let (low, high) = kept_longer o.kind i v p.mark xs in
        let h : holds ≡ length (kept_of o.kind i v p.mark xs) = rw k.still at many in
        let is : take holds last ≡ kept_of o.kind i v p.mark xs = rw k.still at kept-as in
        let at_past : next.at ≡ p.next.at = ap (λ z. z.at) k.past in
        let step = list_done read o n i c t (kept base held marks) {p = p} k.more (rw full k.is) in
        let step' = rw (← k.value, ← k.past) at step in
        record {
          same = rw (is, kept_more o.kind i v p.mark xs base (omega arith), ← step') g.same;
          tally = held_more p.mark p.over p.added p.constructs k.counts g.tally (rw k.value fine.value) fine.mark;
          count = omega (arith, k.more);
          above = omega (arith, g.above);
          room = omega (arith, g.room, fine.past);
          past = omega (arith, g.past, fine.past);
          before = g.before;
          inside = omega (arith, fine.inside);
          below =
              sym (take-take base holds last (omega (arith, g.above))) ∙ ap (take base) is
              ∙ kept_below o.kind i v p.mark xs base (omega (arith, g.above)) ∙ take-take base held marks g.above ∙ g.below;
          long = longer ∙ k.long ∙ g.long;
          over = ap (λ z. z.over) k.after_it ∙ rw (k.lent_over, g.over) (or_assoc first.over t.over p.over);
          added = ap (λ z. z.added) k.after_it ∙ rw (k.lent_added, g.added) (omega arith);
          mark = marks-as;
          constructs = ap (λ z. z.constructs + (i + 1)) k.after_it ∙ omega (arith, k.lent_constructs, g.constructs);
        }
