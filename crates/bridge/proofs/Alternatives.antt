-- An alternative is read by the code as by the judgement.
use Prim.Native.Nat.{ℕ, zero, suc, ◌+◌, ◌≤◌, min}
use mathlib.Core.Path.{◌≡◌, refl, ap, ◌∙◌}
use mathlib.Core.Bool.{Bool, true, false}
use mathlib.Core.List.{List, [], ◌++◌}
use mathlib.Core.Option.{Option as Maybe, some, none}
use lib.ListN.{length, length-append}
use lib.Dec.{eqb}
use borrow.Author.Tests.{eq-eqb, ne_eqb}
use native.Mathlib.Omega.{arith}
use native.Mathlib.Nat.{mul-one}
use Rattle.std.specs.Prelude.{None}
use Rattle.meaning.specs.Tree.{Marker, Construct, Constructs, alternative, end, ◌then◌, mark}
use Rattle.meaning.specs.Format.{pick}
use Rattle.meaning.specs.Legal.{Reach, nowhere, as_branch}
use Rattle.meaning.specs.Value.{Known, pays, total, times, value, largest, marked_in, charges, charges_in}
use Rattle.meaning.specs.Judgement.{found, and_then, ConstructReader, is_marked, branches, alternative_at}
use Rattle.meaning.specs.Work.{records}
use Rattle.meaning.specs.Answer.{ended, ended_in}
use Rattle.demands.proofs.Good.{Good}
use Rattle.records.specs.declared.Cursor.{Cursor}
use Rattle.reader.specs.Tallies.{Parsed, Share, Tally, value_cap, charges_of, counted, no_tally, with_of, kept_with, kept_of, close_of}
use Rattle.reader.specs.Ways.{ways_of}
use Rattle.reader.specs.Reader.{ChildReader, Owner, owner_of, list_of}
use Rattle.bridge.proofs.Agree.{standing_of, occurs, limit_of, Agrees, Same}
use Rattle.bridge.proofs.Standings.{way_condition, way_branch, alternative_inner}
use Rattle.bridge.proofs.Ends.{ended_law}
use Rattle.bridge.proofs.Charges.{total_append, unreached, Branch, Each, kept_in, charges_law}
use Rattle.bridge.proofs.Children.{Adds, no_more, one_more, none_first, adds_over, adds_added, adds_constructs, kept_law, branch_mark, branches_same, branches_top, branches_kept}
use Rattle.bridge.proofs.Marks.{no_marker, mark_limited, unmarked}
use Rattle.bridge.proofs.Readers.{Alike, Sure, then_assoc, next_child}

-- before branch i so many branches are marked: all, or not
abbrev Marking : Bool → ℕ → ℕ → Type 0
Marking true k i = k + 1 ≡ i
Marking false k i = k + 2 ≤ i

one_branch : (all : Bool) (k i v : ℕ) (o : Maybe Marker) → Marking all k i → Marking (pick all (is_marked o) false) (k + length (kept_with v (limit_of o) [])) (i + 1)
one_branch true k i v none h = omega arith
one_branch true k i v (some m) h = omega arith
one_branch false k i v none h = omega arith
one_branch false k i v (some m) h = omega arith

-- the last branch, and all others marked
last_marked : (all : Bool) (k i n first : ℕ) → Marking all k i → i + n ≡ first → eqb (k + 1) first ≡ pick (eqb n 0) all false
last_marked true k i zero first h e = eq-eqb (k + 1) first (omega arith)
last_marked false k i zero first h e = ne_eqb (k + 1) first (λ q. omega arith)
last_marked true k i (suc n) first h e = ne_eqb (k + 1) first (λ q. omega arith) ∙ rw (ne_eqb (suc n) 0 (λ q. omega arith))
last_marked false k i (suc n) first h e = ne_eqb (k + 1) first (λ q. omega arith) ∙ rw (ne_eqb (suc n) 0 (λ q. omega arith))

module _ (known : Known) (s : List ℕ) (before own : ℕ) (number : own ≡ before + 1) (depth : ℕ) (read : ChildReader) (g : ConstructReader) (alike : Alike known read g)
    (sure : Sure s before own number depth g) (n product held start : ℕ) (cap : held ≡ min 1000000 product) (r : Reach) (lies : occurs r ≡ true) (last : Bool) where
  abbrev owner : Owner
  owner = owner_of 4 n false start (standing_of r last) held

  abbrev closing : Tally → List ℕ → Cursor → Parsed
  closing t marks next = close_of 4 n false t (charges_of held t.top 0 marks) start next

  held_inner : (ways_of 4 n false (standing_of r last) held).inner ≡ min 1000000 product
  held_inner = alternative_inner n held (standing_of r last) ∙ cap

  branches_law : (k i at : ℕ) (c : Cursor) (t : Tally) (marks : List ℕ) (all : Bool) (make : Constructs → Construct) → 1 ≤ i → i + k ≡ n + 1 →
      Marking all (length marks) i → c.at ≡ at →
      ((bs : Constructs) (past : ℕ) (t' : Tally) (marks' : List ℕ) (next : Cursor) → Adds known 4 n product i at t marks bs past t' marks' → Each Branch bs →
      next.at ≡ past → Same known product start (closing t' marks' next) (found (make bs) past)) →
      Same known product start (list_of read owner k i c t marks) (and_then (branches g r all k at) (λ bs. found (make bs)))
  unfolding list_of branches
  branches_law zero i at c t marks all make h e marking q close = close end at t marks c no_more tt q
  branches_law (suc k) i at c t marks all make h e marking q close =
      let f = pick (eqb k 0) all false in
      let way = way_branch n held i (length marks) r lies last h ∙ ap (standing_of (as_branch r)) (last_marked all (length marks) i k n marking (omega arith)) in
      rw (then_assoc (g (as_branch r) f at) (λ b d. and_then (branches g r (pick all (is_marked (mark b)) false) k d) (λ bs. found (b then bs))) (λ bs. found (make bs)))
      (next_child _ _ (alike (as_branch r) f product _ _ at c refl way held_inner q) (sure (as_branch r) f at) (λ p b d a x.
      let is : Branch b = (no_marker before depth (as_branch r) b refl x.legal, mark_limited before depth (as_branch r) b x.legal) in
      let more = kept_with p.value (limit_of (mark b)) [] in
      let kept : kept_of 4 i p.value p.mark marks ≡ marks ++ more = rw (branch_mark b a.marked is.0) (kept_law _ i p.value marks h) in
      rw (then_assoc (branches g r (pick all (is_marked (mark b)) false) k d) (λ bs. found (b then bs)) (λ bs. found (make bs)))
      (branches_law k (i + 1) d p.next _ _ (pick all (is_marked (mark b)) false) (λ bs. make (b then bs)) (omega arith) (omega arith)
      (rw (kept, length-append marks more) (one_branch all (length marks) i p.value (mark b) marking)) a.reached
      (λ bs past t' marks' next' adds each z. close (b then bs) past t' marks' next' (one_more a x.span.long adds) (is, each) z))))

  -- the condition, then the branches, and the end
  module _ (p : Share) (c : Construct) (d : ℕ) (a : Agrees known product (start + 8) c d p) (x : Good s before own number depth nowhere false (start + 8) c d) where
    abbrev first : Tally
    first = with_of 4 n 0 no_tally p.value p.over p.added p.mark p.constructs

    bare : p.mark ≡ None
    bare = let h = unmarked before depth nowhere c refl refl x.legal in a.marked ∙ rw (h.0, h.1)

    closed : (bs : Constructs) (past : ℕ) (t : Tally) (marks : List ℕ) (next : Cursor) → Adds known 4 n product 1 d first [] bs past t marks →
        Each Branch bs → next.at ≡ past → Same known product start (closing t marks next) (found (alternative c bs) past)
    unfolding close_of ended value with_of kept_of counted times total records
    closed bs past t marks next adds each q =
        let (same, mark_kept) = branches_same adds (omega arith) in
        let all : Adds known 4 n product 0 (start + 8) no_tally [] (c then bs) past t marks = one_more a x.span.long adds in
        ended_law (ended_in known (start + 8) (c then bs)) (record {
          listed = refl;
          first = adds_over all;
          amount = λ z.
              let (y, w) = none_first known (start + 8) d c bs x.span.long z in
              let top = branches_top adds (omega arith) each w in
              let amount = a.amount y in
              omega arith;
          added = λ z.
              let w = (none_first known (start + 8) d c bs x.span.long z).1 in
              let top : t.top ≡ largest known bs = branches_top adds (omega arith) each w ∙ omega arith in
              let kept : marks ≡ kept_in known bs = branches_kept adds (omega arith) each w in
              let paid : charges_of held t.top 0 marks ≡ min value_cap (pays product (marked_in known (largest known bs) bs)) =
              rw (top, kept) (charges_law product held (largest known bs) cap known bs each) in
              let inside = adds_added all z 0 refl in
              let both = total_append product (charges known c) (charges_in known bs) in
              let free = unreached known before depth product nowhere c refl x.legal in
              rw (mul-one product) (omega arith);
          marked = mark_kept ∙ rw bare;
          inside = omega (arith, adds_constructs all);
        }) q

    rest_law : Same known product start (list_of read owner n 1 p.next first []) (and_then (branches g r true n d) (λ bs. found (alternative c bs)))
    rest_law = branches_law n 1 d p.next first [] true (alternative c) (omega arith) (omega arith) refl a.reached closed

  pub alternative_law : Same known product start (list_of read owner (suc n) 0 (record { at = start + 8 }) no_tally []) (alternative_at g r n (start + 8))
  unfolding list_of kept_of alternative_at
  alternative_law =
      next_child _ _ (alike nowhere false product _ _ (start + 8) _ refl (way_condition n held 0 (standing_of r last)) held_inner refl)
      (sure nowhere false (start + 8)) rest_law
