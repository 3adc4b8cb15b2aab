-- Demand 3, second half: with at most one marker to a scope, its alternative inside no other of that scope, some run takes exactly the value.
use Prim.Native.Nat.{ℕ, zero, suc, ◌+◌, ◌*◌, ◌≤◌}
use mathlib.Core.Path.{◌≡◌, refl, ap, ap₂, sym, ◌∙◌, subst}
use mathlib.Core.Bool.{Bool, true, false}
use mathlib.Core.Logic.{inr}
use mathlib.Core.List.{List, [], ◌∷◌, ◌++◌}
use lib.ListN.{length, length-append}
use native.Mathlib.Omega.{arith}
use Rattle.meaning.specs.Tree.{Loop, Construct, Constructs, Routine, Sheet, seen_outside}
use Rattle.meaning.specs.Tree.{primitive, sequence, alternative, head_loop, tail_loop, timed_loop, call, marker, end, ◌then◌}
use Rattle.meaning.specs.Format.{◌to◌, ranges_of, in_ranges}
use Rattle.meaning.specs.Value.{Marked, total, times, evaluation, rounds, Known, value, sum, largest}
use Rattle.meaning.specs.Value.{marked_in, charges, charges_in, bound, knowing, bounds, nothing, bound_at}
use Rattle.meaning.specs.Legal.{Reach, nowhere, first_child, later_child, as_branch, as_body, Plain, Fit, Legal, Legals, LegalRoutines, LegalSheet}
use Rattle.meaning.proofs.Laws.{pick_true, within_is}
use Rattle.runs.specs.Run.{Tally, never, ◌⊕◌, Within, empty, limits, limits_in, handed, scope, Spends, World}
use Rattle.runs.specs.Run.{Run, Runs, Rounds, Again, Tested, Takes, takes, joined, allowed, RoutineTakes}
use Rattle.runs.specs.Run.{act, pass, children, choose, head, tail, timeout, enter, done, next, overrun, stop, again, tested}
use Rattle.runs.specs.Premise.{One, Single, Singles, SingleRoutines, SingleSheet}
use Rattle.runs.proofs.Tallies.{excess_of, all_branches, all_limits, Fits, fits, branches_append}
use Rattle.runs.proofs.Tallies.{excess_append, fits_paired, branches_times, times_paired, fits_never, excess_add}
use Rattle.runs.proofs.Pays.{within_append, plan}
use Rattle.runs.proofs.Counted.{counted, counted_in_lem}
use Rattle.runs.proofs.Routines.{Along, none', along_end, along_at}
use Rattle.runs.proofs.Shape.{free}
use Rattle.runs.proofs.Plans.{Keeping, within_add, within_trans, within_never, within_nil, paired_nil, limits_nil, no_rounds, split, cut}
use Rattle.runs.proofs.Choices.{bare_both, Each, chosen}

-- as many limits as marked branches
length_limits : (ms : List Marked) → length (all_limits ms) ≡ length ms
length_limits [] = refl
length_limits (m ∷ ms) = ap suc (length_limits ms)

-- the whole cost may be spent
spends_all : (cost : ℕ) → Spends cost cost
spends_all cost = refl

-- the range of a tail loop's count starts at 1
tail_count : (depth : ℕ) (l : Loop) (b c o : Construct) → Fit depth (tail_loop l b c o) → 1 ≤ l.count
unfolding ranges_of in_ranges
tail_count depth l b c o fit = (within_is (1 to 1000000) l.count (pick_true _ _ fit.0).0).0

module _ (world : World) (known : Known) where
  -- every plan for the markers of a construct is met: a run takes its value and what the plan costs, and keeps to the plan
  abbrev Meets : Construct → Type 0
  Meets c = (q : Tally) → Fits q (charges known c) → Keeping (Run world c (value known c + excess_of q (all_branches (charges known c)))) q

  abbrev MeetsIn : Constructs → Type 0
  MeetsIn cs = (q : Tally) → Fits q (charges_in known cs) → Keeping (Runs world cs (sum known cs + excess_of q (all_branches (charges_in known cs)))) q

  -- with no marker of a scope around it, the run takes exactly the value
  meet_bare : (c : Construct) → Run world c (value known c) [] → charges known c ≡ [] → Meets c
  meet_bare c r e q f =
      let e' : q ≡ [] = paired_nil (fits_paired (rw e at f)) in
      let z : value known c + 0 ≡ value known c = omega arith in
      rw e' (record { tally = []; run = rw z r; small = empty })

  exactly : (c : Construct) → Meets c → limits c ≡ [] → Run world c (value known c) []
  unfolding never
  exactly c m e =
      let f : Fits [] (charges known c) = rw (counted known c, e) at (fits_never (charges known c)) in
      let x = m [] f in
      let z : value known c + 0 ≡ value known c = omega arith in
      rw (z, within_nil x.small) at x.run

  -- the children of a sequence
  meet_next : (c : Construct) (cs : Constructs) → Meets c → MeetsIn cs → MeetsIn (c then cs)
  unfolding value
  meet_next c cs m ms q f =
      let (p, r, e, g, g') = split (charges known c) f in
      let x = m p g in
      let y = ms r g' in
      let as' = charges known c in
      let bs = charges_in known cs in
      let d : excess_of q (all_branches (as' ++ bs)) ≡ excess_of p (all_branches as') + excess_of r (all_branches bs) =
      ap₂ excess_of e (branches_append as' bs) ∙ excess_append r (all_branches bs) (fits_paired g) in
      record {
        tally = x.tally ++ y.tally;
        run = next {n = value known c + sum known cs + excess_of q (all_branches (as' ++ bs))} x.run y.run (omega arith) refl;
        small = subst (Within (x.tally ++ y.tally)) (sym e) (within_append x.small y.small);
      }

  -- an alternative whose branches hold no further marker
  meet_alternative : (c : Construct) (bs : Constructs) → Run world c (value known c) [] → Each world known bs → Plain bs → limits_in bs ≡ [] →
      Meets (alternative c bs)
  unfolding value
  meet_alternative c bs r rs p bare q (fits {p = x} {q = y} w h f e) =
      let ms = marked_in known (largest known bs) bs in
      let inside = all_branches (charges_in known bs) in
      let inner : inside ≡ [] = limits_nil inside (counted_in_lem known bs ∙ bare) in
      let none_inside : y ≡ [] = paired_nil (rw inner at (fits_paired f)) in
      let s = chosen world known bs rs p bare x w h in
      let d : excess_of q (ms ++ inside) ≡ excess_of x ms =
      ap (λ z. excess_of z (ms ++ inside)) e ∙ excess_append y inside w ∙ rw none_inside (omega arith) in
      record {
        tally = s.tally ++ [];
        run = choose {n = value known c + largest known bs + excess_of q (ms ++ inside)} r s.run (omega arith) refl;
        small = rw (e, none_inside) (within_append s.small empty);
      }

  -- k rounds of a loop meet a plan for k rounds
  abbrev MeetsAgain : Loop → Construct → Construct → ℕ → Type 0
  MeetsAgain l b c k =
      (q : Tally) → Fits q (times k (charges known b)) →
      Keeping (Again world l b c k (k * (value known b + evaluation l (value known c)) + excess_of q (all_branches (charges known b)))) q

  repeat : (l : Loop) (b c : Construct) → Meets b → Tested world l c (evaluation l (value known c)) → (k : ℕ) → MeetsAgain l b c k
  repeat l b c m r zero q f =
      let e : 0 * (value known b + evaluation l (value known c)) + excess_of q (all_branches (charges known b)) ≡ 0 = omega (arith, no_rounds (charges known b) f) in
      record { tally = never (limits b); run = rw e (stop refl); small = rw (counted known b) at (within_never (times_paired 0 (charges known b) f)) }
  repeat l b c m r (suc k) q f =
      let as' = charges known b in
      let (p, s, e, g, g') = cut k as' f in
      let x = m p g in
      let y = repeat l b c m r k s g' in
      let d : excess_of q (all_branches as') ≡ excess_of p (all_branches as') + excess_of s (all_branches as') =
      ap (λ z. excess_of z (all_branches as')) e ∙ excess_add (fits_paired g) (times_paired k as' g') in
      record {
        tally = x.tally ⊕ y.tally;
        run = again {n = suc k * (value known b + evaluation l (value known c)) + excess_of q (all_branches as')} x.run r y.run (omega arith) refl;
        small = subst (Within (x.tally ⊕ y.tally)) (sym e) (within_add x.small y.small);
      }

  -- a whole loop, with its overrun: a scope meets a plan of its own, another loop that of the scope around it
  abbrev whole : Loop → Construct → Construct → Construct → Tally → ℕ
  whole l b c o q =
      rounds l (value known b) (value known c) (value known o) (charges known b) + excess_of q (all_branches (seen_outside l.scope (times l.count (charges known b))))

  loops : (l : Loop) (b c o : Construct) (least : ℕ) → least ≤ l.count → Meets b → Tested world l c (evaluation l (value known c)) →
      Run world o (value known o) [] → (s : Bool) → l.scope ≡ s → One s (limits b) → (q : Tally) →
      Fits q (seen_outside s (times l.count (charges known b))) → Keeping (Rounds world l b c o least (whole l b c o q)) q
  loops l b c o least h m r r' true e single q f =
      let as' = times l.count (charges known b) in
      let e' : q ≡ [] = paired_nil (fits_paired f) in
      let same : all_branches as' ≡ all_branches (charges known b) = branches_times l.count (charges known b) in
      let few : length (all_branches as') ≤ 1 = rw (same, ← length_limits, counted known b) single in
      let p = plan as' few in
      let y = repeat l b c m r l.count p.tally p.place in
      let d : excess_of p.tally (all_branches (charges known b)) ≡ total as' = ap (excess_of p.tally) (sym same) ∙ p.costs in
      let w : Within y.tally (limits b) = rw (same, counted known b) at (within_trans y.small p.small) in
      record { tally = []; run = overrun {n = whole l b c o q} h y.run (scope e w) r' (rw (e, e') (omega arith)); small = rw e' empty }
  loops l b c o least h m r r' false e single q f =
      let y = repeat l b c m r l.count q f in
      let n : whole l b c o q ≡ l.count * (value known b + evaluation l (value known c)) + excess_of q (all_branches (charges known b)) + value known o =
      rw (e, branches_times l.count (charges known b)) (omega arith) in
      record { tally = y.tally; run = overrun {n = whole l b c o q} h y.run (handed e) r' n; small = y.small }

-- a routine has a run that takes its bound
abbrev Attains : (ℕ → Type 0) → ℕ → Type 0
Attains P v = P v

module _ (world : World) (known : Known) (before : ℕ) (all : before ≡ length known.bounds) (earlier : Along Attains world.earlier known.bounds) where
  -- a part that no scope reaches takes exactly its value
  alone : (depth : ℕ) (c : Construct) → Legal before depth nowhere c → Meets world known c → Run world c (value known c) []
  alone depth c h m = exactly world known c m (free before depth nowhere c refl h)

  -- every legal construct in the premise meets every plan
  mutual
    unfolding value limits

    meet : (depth : ℕ) (c : Construct) (r : Reach) → Legal before depth r c → Single c → Meets world known c
    meet depth (primitive p) r h s = meet_bare world known (primitive p) (act (spends_all p.cost)) refl
    meet depth (sequence cs) r h s = λ q f.
        let y = meet_in (suc depth) cs (first_child r) (later_child r) h.1 s q f in
        record { tally = y.tally; run = children y.run; small = y.small }
    meet depth (alternative c bs) r h s =
        meet_alternative world known c bs (alone (suc depth) c h.1 (meet (suc depth) c nowhere h.1 s.0))
        (each (suc depth) bs (as_branch r) h.2 s.1 s.2) h.3 s.2
    meet depth (head_loop l i c b o) r h s = λ q f.
        let t = tested (alone (suc depth) c h.2 (meet (suc depth) c nowhere h.2 s.1)) in
        let over = alone (suc depth) o h.4 (meet (suc depth) o nowhere h.4 s.3) in
        let body = meet (suc depth) b (as_body l.scope r) h.3 s.2 in
        let y = loops world known l b c o 0 (omega arith) body t over l.scope refl s.4 q f in
        let n = value known (head_loop l i c b o) + excess_of q (all_branches (charges known (head_loop l i c b o))) in
        let init = alone (suc depth) i h.1 (meet (suc depth) i nowhere h.1 s.0) in
        record { tally = y.tally; run = head {n = n} init t y.run (omega arith); small = y.small }
    meet depth (tail_loop l b c o) r h s = λ q f.
        let t = tested (alone (suc depth) c h.2 (meet (suc depth) c nowhere h.2 s.1)) in
        let over = alone (suc depth) o h.3 (meet (suc depth) o nowhere h.3 s.2) in
        let body = meet (suc depth) b (as_body l.scope r) h.1 s.0 in
        let y = loops world known l b c o 1 (tail_count depth l b c o h.0) body t over l.scope refl s.3 q f in
        record { tally = y.tally; run = tail y.run; small = y.small }
    meet depth (timed_loop w o) r h s =
        meet_bare world known (timed_loop w o) (timeout {x = w.time} (omega arith) (alone (suc depth) o h.1 (meet (suc depth) o nowhere h.1 s)) refl) refl
    meet depth (call k) r h s = meet_bare world known (call k) (enter (along_at earlier k.routine (inr (omega arith)))) refl
    meet depth (marker m) r h s = meet_bare world known (marker m) (pass (spends_all m.cost)) refl

    meet_in : (depth : ℕ) (cs : Constructs) (f r : Reach) → Legals before depth f r cs → Singles cs → MeetsIn world known cs
    meet_in depth end f r h s = λ q g. rw (paired_nil (fits_paired g)) (record { tally = []; run = done; small = empty })
    meet_in depth (c then cs) f r h s = meet_next world known c cs (meet depth c f h.0 s.0) (meet_in depth cs r r h.1 s.1)

    each : (depth : ℕ) (bs : Constructs) (r : Reach) → Legals before depth r r bs → Singles bs → limits_in bs ≡ [] → Each world known bs
    each depth end r h s e = tt
    each depth (b then bs) r h s e =
        let bare = bare_both b bs e in
        (exactly world known b (meet depth b r h.0 s.0) bare.0, each depth bs r h.1 s.1 bare.1)

-- of a routine, and of the routines of a sheet, also through calls
reached_routine : (world : World) (known : Known) (before : ℕ) → before ≡ length known.bounds → Along Attains world.earlier known.bounds →
    (r : Routine) → Legal before 1 nowhere r.body → Single r.body → Takes world r (bound known r)
unfolding bound
reached_routine world known before all earlier r h s =
    takes (spends_all r.organisation) (alone world known before all earlier 1 r.body h (meet world known before all earlier 1 r.body nowhere h s))

reached_routines : {world : World} {known : Known} (before : ℕ) → before ≡ length known.bounds → (rs : List Routine) → LegalRoutines before rs →
    SingleRoutines rs → Along Attains world.earlier known.bounds → Along Attains (allowed world rs).earlier (bounds known rs).bounds
unfolding allowed bounds
reached_routines before all [] h s a = a
reached_routines {world = world} {known = known} before all (r ∷ rs) h s a =
    reached_routines {world = joined world (Takes world r)} {known = knowing known (bound known r)} (before + 1)
    (let n = length-append known.bounds (bound known r ∷ []) in omega arith) rs h.2 s.1 (along_end a (reached_routine world known before all a r h.1 s.0))

-- every routine has a bound
pub length_bounds : (known : Known) (rs : List Routine) → length (bounds known rs).bounds ≡ length known.bounds + length rs
unfolding bounds
length_bounds known [] = omega arith
length_bounds known (r ∷ rs) =
    let e = length_bounds (knowing known (bound known r)) rs in
    let n = length-append known.bounds (bound known r ∷ []) in
    omega arith

pub sheet_reached : (s : Sheet) → LegalSheet s → SingleSheet s → (number : ℕ) → 1 ≤ number → number ≤ length s.routines →
    RoutineTakes s number (bound_at s number)
sheet_reached s h single number first last =
    along_at (reached_routines 0 refl s.routines h.1 single none') number (inr (omega (arith, length_bounds nothing s.routines)))
