-- The demands of what `margins` returns: when it answers what, and what a margin says of the runs of its routine.
use Prim.Native.Nat.{ℕ, zero, suc, ◌+◌, ◌≤◌, ◌<◌}
use mathlib.Core.Path.{◌≡◌, refl, sym, ap, subst, ◌∙◌}
use mathlib.Core.Bool.{Bool, true, false}
use mathlib.Core.List.{List}
use mathlib.Core.Logic.{◌⊎◌, inl, inr}
use lib.ListN.{length, get_or, take, drop, get_or-append}
use lib.Seq.{length-take-le}
use lib.IntN.{ℤ, pos, negsuc}
use lib.Dec.{ltb}
use borrow.Author.Tests.{ltb-true, ltb-false, lt-ltb, le-ltb}
use native.Mathlib.Omega.{arith}
use native.Mathlib.Nat.{not-suc-le-zero}
use native.Mathlib.Numerals.{add-one}
use Rattle.std.specs.Prelude.{Option, Some, None}
use Rattle.std.proofs.lemmas.List.{get_or-take}
use Rattle.std.proofs.lemmas.List.Elements.{All-from_get_or}
use Rattle.meaning.specs.Tree.{Sheet, numbered}
use Rattle.meaning.specs.Format.{pick}
use Rattle.meaning.specs.Value.{nothing, bounds_of, task_bound}
use Rattle.meaning.specs.Answer.{Verdict, accepted, refused, outcome, told, no_room, answer, stored, table_after}
use Rattle.runs.specs.Run.{RoutineTakes}
use Rattle.runs.specs.Premise.{SingleSheet}
use Rattle.runs.proofs.Reached.{length_bounds}
use Rattle.demands.proofs.Demand.{Demand, demand, few_routines}
use Rattle.demands.proofs.Outcome.{not_accepted, accepted_same}
use Rattle.reader.proofs.Laws.{pick_same}
use Rattle.reader.specs.declared.Answer.{Answer}
use Rattle.reader.specs.declared.Answer.TheVariants.{Accepted}
use Rattle.reader.specs.Said.{said_of}
use Rattle.margins.specs.Margins.{last_deadline, short_list, held_to, planned, margin_of, margins_of, margins_after}
use Rattle.margins.specs.Steps.{out_of_range}
use Rattle.margins.proofs.Laws.{left_is, missing_is, InRange, IsFirst, some_over, none_over, some_out, all_in, margin_at}
use Rattle.margins.proofs.Plans.{Long, by_sheet}

-- the deadlines of so many routines are in range
abbrev pub AllInRange : List ℕ → ℕ → Type 0
AllInRange deadlines count = (number : ℕ) → 1 ≤ number → number ≤ count → numbered deadlines number 0 ≤ last_deadline

-- "the first routine out of range" has this number: its deadline is out of range, and none of those before it is
pub record FirstBad (deadlines : List ℕ) (count number : ℕ) : Type 0 where
  pub low : 1 ≤ number
  pub high : number ≤ count
  pub out : last_deadline < numbered deadlines number 0
  pub first : (earlier : ℕ) → 1 ≤ earlier → earlier < number → numbered deadlines earlier 0 ≤ last_deadline

-- the deadlines of the first routines, by their places and by the numbers of the routines
module _ (deadlines : List ℕ) (count : ℕ) (few : count ≤ length deadlines) where
  taken : length (take count deadlines) ≡ count
  taken = length-take-le count deadlines few

  by_numbers : (m : ℕ) → m ≤ count → ((i : ℕ) → i < m → get_or (take count deadlines) i 0 ≤ last_deadline) → AllInRange deadlines m
  by_numbers m less h zero low high = absurd (not-suc-le-zero low)
  by_numbers m less h (suc i) low high = rw (get_or-take count deadlines i 0 (omega arith)) at (h i high)

  by_places : (m : ℕ) → m ≤ count → AllInRange deadlines m → (i : ℕ) → i < m → get_or (take count deadlines) i 0 ≤ last_deadline
  by_places m less h i inside = rw (get_or-take count deadlines i 0 (omega arith)) (h (suc i) (omega arith) inside)

  all_numbers : InRange (take count deadlines) → AllInRange deadlines count
  all_numbers h = by_numbers count (omega arith) (λ i inside. h i 0 (omega (arith, taken)))

  all_places : AllInRange deadlines count → InRange (take count deadlines)
  all_places h =
      All-from_get_or (λ d. d ≤ last_deadline) (take count deadlines) 0 (λ i inside. by_places count (omega arith) h i (omega (arith, taken)))

  first_number : {i : ℕ} → IsFirst (take count deadlines) i → FirstBad deadlines count (i + 1)
  first_number {i} f =
      let inside : i < count = omega (arith, taken, f.within) in
      record {
        low = omega arith;
        high = omega arith;
        out = subst (λ k. last_deadline < numbered deadlines k 0) (sym (add-one i)) (rw (get_or-take count deadlines i 0 inside) at f.over);
        first = λ earlier low less. by_numbers i (omega arith) f.before earlier low (omega arith);
      }

  first_place : {i : ℕ} → FirstBad deadlines count (suc i) → IsFirst (take count deadlines) i
  first_place {i} bad =
      let inside : i < count = bad.high in
      record {
        within = omega (arith, taken);
        over = rw (get_or-take count deadlines i 0 inside) bad.out;
        before = by_places i (omega arith) (λ number low high. bad.first number low (omega arith));
      }

-- What becomes of a sheet and three lists: each refusal exactly when it is due, in the order of the list.
module _ (s table deadlines : List ℕ) (margins : List ℤ) where
  abbrev LongEnough : Type 0
  LongEnough = Long table deadlines margins

  pub data Decided : Verdict Sheet → Type 0 where
    no_room_lem : length table < 64 → Decided (refused 1 0)
    short_list_lem : 64 ≤ length table → (length deadlines < 64) ⊎ (length margins < 64) → Decided (refused 13 0)
    sheet_refused : {number place : ℕ} → LongEnough → outcome s ≡ refused number place → Decided (refused number place)
    bad_deadline : {t : Sheet} {number : ℕ} → LongEnough → outcome s ≡ accepted t → FirstBad deadlines (length t.routines) number → Decided (refused 14 number)
    good : {t : Sheet} → LongEnough → outcome s ≡ accepted t → AllInRange deadlines (length t.routines) → Decided (accepted t)

  -- an accepted sheet's deadlines, by the first of its routines that is out of range
  by_deadlines : LongEnough → (t : Sheet) → outcome s ≡ accepted t → Decided (held_to deadlines (accepted t))
  by_deadlines long t e = go (out_of_range (take n deadlines)) refl
    where
      n : ℕ
      n = length t.routines

      few : n ≤ length deadlines
      few = omega (arith, few_routines s t e, long.for_deadlines)

      go : (o : Option ℕ) → out_of_range (take n deadlines) ≡ o → Decided (held_to deadlines (accepted t))
      go None q =
          let h = none_over (take n deadlines) q in
          rw (all_in t deadlines h) (good long e (all_numbers deadlines n few h))
      go (Some i) q =
          let h = some_over (take n deadlines) q in
          rw (some_out t deadlines h) (bad_deadline long e (first_number deadlines n few h))

  -- every sheet and every three lists are decided so, and what is decided so comes back
  pub decided : Decided (planned s table deadlines margins)
  unfolding planned
  decided = by_room (no_room (length table)) refl
    where
      by_outcome : LongEnough → (v : Verdict Sheet) → outcome s ≡ v → Decided (held_to deadlines v)
      by_outcome long (accepted t) e = by_deadlines long t e
      by_outcome long (refused number place) e = sheet_refused long e

      by_margins : 64 ≤ length table → 64 ≤ length deadlines → (test : Bool) → ltb (length margins) 64 ≡ test →
          Decided (pick test (refused 13 0) (held_to deadlines (outcome s)))
      by_margins room long true q = short_list_lem room (inr (ltb-true (length margins) 64 q))
      by_margins room long false q =
          by_outcome (record { room = room; for_deadlines = long; for_margins = ltb-false (length margins) 64 q }) (outcome s) refl

      by_list : 64 ≤ length table → (test : Bool) → ltb (length deadlines) 64 ≡ test →
          Decided (pick (pick test true (ltb (length margins) 64)) (refused 13 0) (held_to deadlines (outcome s)))
      by_list room true q = short_list_lem room (inl (ltb-true (length deadlines) 64 q))
      by_list room false q = by_margins room (ltb-false (length deadlines) 64 q) (ltb (length margins) 64) refl

      by_room : (test : Bool) → no_room (length table) ≡ test →
          Decided (pick test (refused 1 0) (pick (short_list deadlines margins) (refused 13 0) (held_to deadlines (outcome s))))
      by_room true q = no_room_lem (ltb-true (length table) 64 q)
      by_room false q = by_list (ltb-false (length table) 64 q) (ltb (length deadlines) 64) refl

  pub planned_is : {v : Verdict Sheet} → Decided v → planned s table deadlines margins ≡ v
  unfolding planned
  planned_is (no_room_lem h) = rw (lt-ltb (length table) 64 h)
  planned_is (short_list_lem h (inl k)) = rw (le-ltb (length table) 64 h, lt-ltb (length deadlines) 64 k)
  planned_is (short_list_lem h (inr k)) = rw (le-ltb (length table) 64 h, lt-ltb (length margins) 64 k, pick_same (ltb (length deadlines) 64) true)
  planned_is (sheet_refused long e) = by_sheet s table deadlines margins long ∙ ap (held_to deadlines) e
  planned_is (bad_deadline {t = t} {number = zero} long e bad) = absurd (not-suc-le-zero bad.low)
  planned_is (bad_deadline {t = t} {number = suc i} long e bad) =
      let few : length t.routines ≤ length deadlines = omega (arith, few_routines s t e, long.for_deadlines) in
      by_sheet s table deadlines margins long ∙ ap (held_to deadlines) e ∙ some_out t deadlines (first_place deadlines (length t.routines) few bad)
      ∙ ap (λ k. refused 14 k) (omega arith)
  planned_is (good {t = t} long e all) =
      let few : length t.routines ≤ length deadlines = omega (arith, few_routines s t e, long.for_deadlines) in
      by_sheet s table deadlines margins long ∙ ap (held_to deadlines) e ∙ all_in t deadlines (all_places deadlines (length t.routines) few all)

  -- DEMANDS 1 and 2: a refusal, which leaves all lists as they were, or the bound, and the bounds and margins in the lists
  pub data Answered : Verdict ℕ → List ℕ → List ℤ → Type 0 where
    a_refusal : {number place : ℕ} → Decided (refused number place) → Answered (refused number place) table margins
    a_bound : {t : Sheet} → Decided (accepted t) → Answered (accepted (task_bound t)) (stored (accepted t) table) (margins_after (accepted t) deadlines margins)

  pub answered : let v = planned s table deadlines margins in Answered (told v) (stored v table) (margins_after v deadlines margins)
  answered = go (planned s table deadlines margins) decided
    where
      go : (v : Verdict Sheet) → Decided v → Answered (told v) (stored v table) (margins_after v deadlines margins)
      go (accepted t) d = a_bound d
      go (refused number place) d = a_refusal d

-- DEMAND 3 for those who hold deadlines: the bytes s, accepted with the bound b, the table after and the margins after
pub record Kept (s deadlines : List ℕ) (b : ℕ) (after : List ℕ) (written : List ℤ) : Type 0 where
  pub bounds : Demand s b after
  pub margin : (number : ℕ) → 1 ≤ number → number ≤ length bounds.sheet.routines →
      numbered written number (pos 0) ≡ margin_of (numbered deadlines number 0) (numbered after number 0)

module _ {s deadlines : List ℕ} {b : ℕ} {after : List ℕ} {written : List ℤ} (k : Kept s deadlines b after written) (number : ℕ) (low : 1 ≤ number)
    (high : number ≤ length k.bounds.sheet.routines) where
  -- a routine whose margin is not negative: every run ends with so many cycles left, or more
  pub in_time : (left n : ℕ) → numbered written number (pos 0) ≡ pos left → RoutineTakes k.bounds.sheet number n → n + left ≤ numbered deadlines number 0
  in_time left n e run =
      omega (arith, k.bounds.most_of number n low high run, left_is (numbered deadlines number 0) (numbered after number 0) left (sym (k.margin number low high) ∙ e))

  -- one whose margin is negative: under the premise some run misses its deadline by just so many
  pub overruns : SingleSheet k.bounds.sheet → (missing : ℕ) → numbered written number (pos 0) ≡ negsuc missing →
      RoutineTakes k.bounds.sheet number (numbered deadlines number 0 + suc missing)
  overruns one missing e =
      subst (RoutineTakes k.bounds.sheet number) (sym (missing_is (numbered deadlines number 0) (numbered after number 0) missing (sym (k.margin number low high) ∙ e)))
      (k.bounds.reached_of one number low high)

kept_of_lem : (s table deadlines : List ℕ) (margins : List ℤ) → Long table deadlines margins → (t : Sheet) → outcome s ≡ accepted t →
    Kept s deadlines (task_bound t) (stored (accepted t) table) (margins_after (accepted t) deadlines margins)
unfolding answer table_after
kept_of_lem s table deadlines margins long t e =
    let room : no_room (length table) ≡ false = le-ltb (length table) 64 long.room in
    let of_maxt : answer s (length table) ≡ accepted (task_bound t) = rw (room, e) in
    let its : Demand s (task_bound t) (stored (accepted t) table) = rw (room, e) at (demand s table (task_bound t) of_maxt) in
    let same : t ≡ its.sheet = accepted_same (sym e ∙ its.read) in
    let few = few_routines s t e in
    record { bounds = its; margin = λ number low high. margin_of_lem number low (subst (λ u. number ≤ length u.routines) (sym same) high) few }
  where
    margin_of_lem : (number : ℕ) → 1 ≤ number → number ≤ length t.routines → length t.routines ≤ 64 →
        numbered (margins_after (accepted t) deadlines margins) number (pos 0) ≡ margin_of (numbered deadlines number 0) (numbered (stored (accepted t) table) number 0)
    margin_of_lem zero low high few = absurd (not-suc-le-zero low)
    margin_of_lem (suc i) low high few =
        let all = length_bounds nothing t.routines in
        let inside : i < length (bounds_of t) = omega arith in
        let (there, same) = margin_at i deadlines (bounds_of t) (omega (arith, long.for_deadlines)) inside in
        rw (
          get_or-append (margins_of deadlines (bounds_of t)) (drop (length t.routines) margins) (pos 0) i there,
          get_or-append (bounds_of t) (drop (length t.routines) table) 0 i inside,
        ) same

kept : (s table deadlines : List ℕ) (margins : List ℤ) {bound : ℕ} → let v = planned s table deadlines margins in told v ≡ accepted bound →
    Kept s deadlines bound (stored v table) (margins_after v deadlines margins)
kept s table deadlines margins {bound = bound} e = go (planned s table deadlines margins) (decided s table deadlines margins) e
  where
    go : (v : Verdict Sheet) → Decided s table deadlines margins v → told v ≡ accepted bound → Kept s deadlines bound (stored v table) (margins_after v deadlines margins)
    go (refused number place) d e = not_accepted e
    go (accepted t) (good long read all) e =
        subst (λ b. Kept s deadlines b (stored (accepted t) table) (margins_after (accepted t) deadlines margins)) (accepted_same e)
        (kept_of_lem s table deadlines margins long t read)

-- the contract of `margins`, on a sheet and three lent lists
pub record Meets (sheet table deadlines : List ℕ) (margins : List ℤ) (a : Answer) (after : List ℕ) (written : List ℤ) : Type 0 where
  pub said : said_of a ≡ told (planned sheet table deadlines margins)
  pub stored : after ≡ stored (planned sheet table deadlines margins) table
  pub noted : written ≡ margins_after (planned sheet table deadlines margins) deadlines margins

module _ {sheet table deadlines : List ℕ} {margins : List ℤ} {a : Answer} {after : List ℕ} {written : List ℤ}
    (m : Meets sheet table deadlines margins a after written) where
  pub answers : Answered sheet table deadlines margins (said_of a) after written
  answers = rw (m.said, m.stored, m.noted) (answered sheet table deadlines margins)

  pub keeps : {bound : ℕ} → a ≡ Accepted bound → Kept sheet deadlines bound after written
  keeps e = rw (m.stored, m.noted) (kept sheet table deadlines margins (sym m.said ∙ ap said_of e))
