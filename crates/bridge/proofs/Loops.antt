-- Loops are read by the code as by the judgement.
use Prim.Native.Nat.{ℕ, ◌+◌, ◌≤◌, min}
use mathlib.Core.Path.{◌≡◌, refl, sym, ap, ◌∙◌}
use mathlib.Core.Bool.{Bool, true, false}
use mathlib.Core.List.{List, [], ◌∷◌, ◌++◌, append_assoc, append-nil}
use lib.ListN.{length, length-append}
use lib.Dec.{eqb}
use native.Mathlib.Omega.{arith}
use Rattle.std.specs.Prelude.{None}
use Rattle.std.specs.Option.{option_or}
use Rattle.meaning.specs.Tree.{Loop, Construct, Constructs, head_loop, tail_loop, timed_loop, end, ◌then◌, itself, mark, seen_outside}
use Rattle.meaning.specs.Format.{pick, record_of}
use Rattle.meaning.specs.Legal.{Reach, nowhere, as_body, Legal}
use Rattle.meaning.specs.Value.{Known, total, times, charged, value, charges, charges_in}
use Rattle.meaning.specs.Judgement.{found, ConstructReader, head_loop_at, tail_loop_at, timed_loop_at}
use Rattle.meaning.specs.Work.{records, records_in}
use Rattle.meaning.specs.Answer.{ended, ended_in, ends}
use Rattle.demands.proofs.Good.{Unmarked}
use Rattle.records.specs.declared.Cursor.{Cursor}
use Rattle.records.specs.declared.standings.Standing.{Standing}
use Rattle.records.specs.declared.standings.Standing.TheVariants.{Outside}
use Rattle.reader.specs.Tallies.{Tally, value_cap, charges_of, counted, is_branch, no_tally, with_of, kept_of, value_of, ended_of, close_of}
use Rattle.reader.specs.Ways.{body_of, inner_of, ways_of}
use Rattle.reader.specs.Reader.{ChildReader, Owner, owner_of, list_of}
use Rattle.bridge.proofs.Agree.{standing_of, occurs, limit_of, over_in, Same}
use Rattle.bridge.proofs.Standings.{body_occurs, body_law, way_fixed, down_to, inner_law}
use Rattle.bridge.proofs.Ends.{ended_law}
use Rattle.bridge.proofs.Charges.{total_append, total_times, unreached, Each}
use Rattle.bridge.proofs.Children.{Adds, no_more, one_more, counted_in, adds_over, adds_added, adds_sum, adds_same, adds_mark, adds_constructs}
use Rattle.bridge.proofs.Marks.{unmarked}
use Rattle.bridge.proofs.Readers.{Alike, Sure, next_child}

-- what holds at the end of a counted loop c with the children cs, of which b is its body
record Ending (known : Known) (kind count product start e : ℕ) (scope : Bool) (c b : Construct) (cs : Constructs) : Type 0 where
  listed : ended known start c ≡ ended_in known e cs ++ ends known start c
  table : value known c ≡ counted_in known kind count 0 cs + charged scope (times count (charges known b))
  handed : charges known c ≡ seen_outside scope (times count (charges known b))
  only : total (times (down_to scope count product) (charges_in known cs)) ≡ total (times (down_to scope count product) (charges known b))
  bare : option_or (limit_of (itself c)) (limit_of (mark c)) ≡ None
  records_are : records c ≡ record_of c ∷ records_in cs
  children : Each Unmarked cs

module _ (known : Known) (kind count held product start e past : ℕ) (c b : Construct) (cs : Constructs) {t : Tally} {marks : List ℕ} (next : Cursor)
    (plain : (i : ℕ) → is_branch kind i ≡ false) (h : eqb kind 7 ≡ false) (q : next.at ≡ past) where
  loop_ends : (scope : Bool) (v x : ℕ) → Ending known kind count product start e scope c b cs →
      Adds known kind count (down_to scope count product) 0 e no_tally [] cs past t marks →
      (over_in (ended_in known e cs) ≡ None → min value_cap v ≡ min value_cap (value known c)) →
      (over_in (ended_in known e cs) ≡ None → x ≡ min value_cap (total (times product (charges known c)))) →
      Same known product start (ended_of v t.over x t.mark t.constructs start next) (found c past)
  loop_ends scope v x k adds amount added = ended_law (ended_in known e cs) (record {
    listed = k.listed;
    first = adds_over adds;
    amount = amount;
    added = added;
    marked = adds_mark plain adds k.children ∙ sym k.bare;
    inside = (let many = ap length k.records_are in omega (arith, adds_constructs adds));
  }) q

  -- a scope keeps what its markers add, any other loop hands it on
  loop_closed : (scope : Bool) → Ending known kind count product start e scope c b cs →
      Adds known kind count (down_to scope count product) 0 e no_tally [] cs past t marks → Same known product start
      (pick scope (ended_of (value_of kind count t + min value_cap (t.added + charges_of held t.top 0 marks)) t.over 0 t.mark t.constructs start next)
      (ended_of (value_of kind count t) t.over (min value_cap (t.added + charges_of held t.top 0 marks)) t.mark t.constructs start next)) (found c past)
  unfolding charges_of times total
  loop_closed true k adds =
      let (x, y) = adds_same plain adds in
      loop_ends true _ _ k adds (λ z. rw (h, x, y, adds_sum plain adds z, adds_added adds z 0 refl, k.only, k.table) (omega arith)) (λ z. rw k.handed)
  loop_closed false k adds =
      let (x, y) = adds_same plain adds in
      loop_ends false _ _ k adds (λ z. rw (h, x, adds_sum plain adds z, k.table) (omega arith))
      (λ z. rw (y, adds_added adds z 0 refl, k.only, k.handed, total_times product count (charges known b)) (omega arith))

body_bare : (scope : Bool) (r : Reach) → ((as_body scope r).lead ≡ false) × ((as_body scope r).branch ≡ false)
body_bare true r = (refl, refl)
body_bare false r = (refl, refl)

module _ (known : Known) (s : List ℕ) (before own : ℕ) (number : own ≡ before + 1) (depth : ℕ) (read : ChildReader) (g : ConstructReader) (alike : Alike known read g)
    (sure : Sure s before own number depth g) (count : ℕ) (scope : Bool) (product held start : ℕ) (cap : held ≡ min 1000000 product) (r : Reach) (lies : occurs r ≡ true)
    (last : Bool) (few : count ≤ 1000000) where
  -- the body, and any other child
  at_body : (standing : Standing) (at : ℕ) (c : Cursor) → standing ≡ body_of scope (standing_of r last) → c.at ≡ at →
      Same known (down_to scope count product) at (read standing (inner_of count scope held) c) (g (as_body scope r) false at)
  at_body standing at c h q =
      alike (as_body scope r) false _ _ _ at c (body_occurs scope r) (h ∙ body_law scope r lies last) (inner_law count scope product held few cap) q

  at_nowhere : (standing : Standing) (at : ℕ) (c : Cursor) → standing ≡ Outside → c.at ≡ at →
      Same known (down_to scope count product) at (read standing (inner_of count scope held) c) (g nowhere false at)
  at_nowhere standing at c h q = alike nowhere false _ _ _ at c refl h (inner_law count scope product held few cap) q

  abbrev owner : ℕ → Owner
  owner kind = owner_of kind count scope start (standing_of r last) held

  abbrev loop : Loop
  loop = record { count = count; scope = scope }

  bare : (c : Construct) → Legal before depth nowhere c → Unmarked c
  bare c h = unmarked before depth nowhere c refl refl h

  bare_body : (b : Construct) → Legal before depth (as_body scope r) b → Unmarked b
  bare_body b h = let (x, y) = body_bare scope r in unmarked before depth (as_body scope r) b x y h

  free : (c : Construct) → Legal before depth nowhere c → total (times (down_to scope count product) (charges known c)) ≡ 0
  free c h = unreached known before depth _ nowhere c refl h

  head_ending : (i c b o : Construct) → Legal before depth nowhere i → Legal before depth nowhere c → Legal before depth (as_body scope r) b →
      Legal before depth nowhere o →
      Ending known 5 count product start (start + 12) scope (head_loop loop i c b o) b (i then c then b then o then end)
  unfolding ended value counted times total records
  head_ending i c b o hi hc hb ho = record {
    listed = simp append_assoc;
    table = omega arith;
    handed = refl;
    only = simp (total_append, free i hi, free c hc, free o ho) (omega arith);
    bare = refl;
    records_are = rw append-nil;
    children = (bare i hi, (bare c hc, (bare_body b hb, (bare o ho, tt))));
  }

  tail_ending : (b c o : Construct) → Legal before depth (as_body scope r) b → Legal before depth nowhere c → Legal before depth nowhere o →
      Ending known 6 count product start (start + 12) scope (tail_loop loop b c o) b (b then c then o then end)
  unfolding ended value counted times total records
  tail_ending b c o hb hc ho = record {
    listed = simp append_assoc;
    table = omega arith;
    handed = refl;
    only = simp (total_append, free c hc, free o ho) (omega arith);
    bare = refl;
    records_are = rw append-nil;
    children = (bare_body b hb, (bare c hc, (bare o ho, tt)));
  }

  pub head_loop_law : Same known product start (list_of read (owner 5) 4 0 (record { at = start + 12 }) no_tally []) (head_loop_at g r loop (start + 12))
  unfolding list_of close_of ways_of head_loop_at
  head_loop_law =
      next_child _ _ (at_nowhere _ (start + 12) _ (way_fixed _ _ _ _ 0 0) refl) (sure nowhere false (start + 12)) (λ p1 i d1 a1 x1.
      next_child _ _ (at_nowhere _ d1 p1.next (way_fixed _ _ _ _ 1 _) a1.reached) (sure nowhere false d1) (λ p2 c d2 a2 x2.
      next_child _ _ (at_body _ d2 p2.next (way_fixed _ _ _ _ 2 _) a2.reached) (sure (as_body scope r) false d2) (λ p3 b d3 a3 x3.
      next_child (λ v o e m w next. list_of read (owner 5) 0 4 next (with_of 5 count 3 _ v o e m w) (kept_of 5 3 v m _)) _
      (at_nowhere _ d3 p3.next (way_fixed _ _ _ _ 3 _) a3.reached) (sure nowhere false d3) (λ p4 o d4 a4 x4.
      loop_closed known 5 count held product start (start + 12) d4 (head_loop loop i c b o) b (i then c then b then o then end) p4.next
      (λ _. refl) refl a4.reached scope (head_ending i c b o x1.legal x2.legal x3.legal x4.legal)
      (one_more a1 x1.span.long (one_more a2 x2.span.long (one_more a3 x3.span.long (one_more a4 x4.span.long no_more))))))))

  pub tail_loop_law : Same known product start (list_of read (owner 6) 3 0 (record { at = start + 12 }) no_tally []) (tail_loop_at g r loop (start + 12))
  unfolding list_of close_of ways_of tail_loop_at
  tail_loop_law =
      next_child _ _ (at_body _ (start + 12) _ (way_fixed _ _ _ _ 0 0) refl) (sure (as_body scope r) false (start + 12)) (λ p1 b d1 a1 x1.
      next_child _ _ (at_nowhere _ d1 p1.next (way_fixed _ _ _ _ 1 _) a1.reached) (sure nowhere false d1) (λ p2 c d2 a2 x2.
      next_child (λ v o e m w next. list_of read (owner 6) 0 3 next (with_of 6 count 2 _ v o e m w) (kept_of 6 2 v m _)) _
      (at_nowhere _ d2 p2.next (way_fixed _ _ _ _ 2 _) a2.reached) (sure nowhere false d2) (λ p3 o d3 a3 x3.
      loop_closed known 6 count held product start (start + 12) d3 (tail_loop loop b c o) b (b then c then o then end) p3.next
      (λ _. refl) refl a3.reached scope (tail_ending b c o x1.legal x2.legal x3.legal)
      (one_more a1 x1.span.long (one_more a2 x2.span.long (one_more a3 x3.span.long no_more))))))

-- a timed loop, whose statement no scope reaches
module _ (known : Known) (s : List ℕ) (before own : ℕ) (number : own ≡ before + 1) (depth : ℕ) (read : ChildReader) (g : ConstructReader) (alike : Alike known read g)
    (sure : Sure s before own number depth g) (time product held start : ℕ) (standing : Standing) where
  timed_closed : (o : Construct) (past : ℕ) (t : Tally) (marks : List ℕ) (next : Cursor) → Adds known 7 time 0 0 (start + 8) no_tally [] (o then end) past t marks →
      Legal before depth nowhere o → next.at ≡ past →
      Same known product start (close_of 7 time false t (charges_of held t.top 0 marks) start next) (found (timed_loop (record { time = time }) o) past)
  unfolding close_of charges_of ended value counted times total records
  timed_closed o past t marks next adds h q =
      let (x, y) = adds_same (λ _. refl) adds in
      let bare = unmarked before depth nowhere o refl refl h in
      ended_law (ended_in known (start + 8) (o then end)) (record {
        listed = simp append_assoc;
        first = adds_over adds;
        amount = λ z. rw (x, adds_sum (λ _. refl) adds z) (omega arith);
        added = λ z. rw (y, adds_added adds z 0 refl, total_append, unreached known before depth 0 nowhere o refl h);
        marked = adds_mark (λ _. refl) adds (bare, tt);
        inside = (let none = length-append (records o) [] in omega (arith, adds_constructs adds));
      }) q

  pub timed_loop_law : Same known product start (list_of read (owner_of 7 time false start standing held) 1 0 (record { at = start + 8 }) no_tally [])
      (timed_loop_at g time (start + 8))
  unfolding list_of ways_of timed_loop_at
  timed_loop_law =
      next_child _ _ (alike nowhere false 0 _ 0 (start + 8) _ refl (way_fixed Outside Outside Outside 0 0 0) refl refl) (sure nowhere false (start + 8))
      (λ p c d a x. timed_closed c d _ _ p.next (one_more a x.span.long no_more) x.legal a.reached)
