-- A sequence is read by the code as by the judgement.
use Prim.Native.Nat.{ℕ, zero, suc, ◌+◌, ◌≤◌, min}
use mathlib.Core.Path.{◌≡◌, refl, ap, ◌∙◌}
use mathlib.Core.Bool.{Bool, true, false}
use mathlib.Core.List.{List, []}
use mathlib.Core.Option.{none}
use lib.ListN.{length}
use native.Mathlib.Omega.{arith}
use Rattle.meaning.specs.Tree.{Construct, Constructs, sequence, end, ◌then◌, itself, leading, mark}
use Rattle.meaning.specs.Legal.{Reach, first_child, later_child}
use Rattle.meaning.specs.Value.{Known, value, sum}
use Rattle.meaning.specs.Judgement.{found, and_then, ConstructReader, list, sequence_at}
use Rattle.meaning.specs.Work.{records}
use Rattle.meaning.specs.Answer.{ended, ended_in}
use Rattle.demands.proofs.Good.{Unmarked, Good}
use Rattle.records.specs.declared.Cursor.{Cursor}
use Rattle.reader.specs.Tallies.{Parsed, Share, Tally, charges_of, counted, no_tally, with_of, kept_of, close_of}
use Rattle.reader.specs.Ways.{ways_of, way_of}
use Rattle.reader.specs.Reader.{ChildReader, Owner, owner_of, list_of}
use Rattle.reader.proofs.Laws.{or_none}
use Rattle.bridge.proofs.Agree.{standing_of, occurs, limit_of, Agrees, Same}
use Rattle.bridge.proofs.Standings.{first_occurs, way_first, way_later}
use Rattle.bridge.proofs.Ends.{ended_law}
use Rattle.bridge.proofs.Charges.{Each}
use Rattle.bridge.proofs.Children.{Adds, no_more, one_more, counted_in, adds_over, adds_added, adds_sum, adds_same, adds_mark, adds_constructs}
use Rattle.bridge.proofs.Marks.{no_mark, unmarked}
use Rattle.bridge.proofs.Readers.{Alike, Sure, then_assoc, next_child}

-- only the first child is a marker, and none is a marked branch
abbrev Led : Constructs → Type 0
Led end = Unit {0}
Led (c then cs) = (mark c ≡ none) × Each Unmarked cs

all_counted : (known : Known) (n i : ℕ) (cs : Constructs) → counted_in known 3 n i cs ≡ sum known cs
unfolding counted value
all_counted known n i end = refl
all_counted known n i (c then cs) = ap (λ z. value known c + z) (all_counted known n (i + 1) cs)

led_mark : {known : Known} {n product at past : ℕ} {t : Tally} {marks : List ℕ} {cs : Constructs} → Adds known 3 n product 0 at no_tally [] cs past t marks →
    Led cs → t.mark ≡ limit_of (leading cs)
unfolding with_of
led_mark no_more h = refl
led_mark (one_more {p = p} {c = c} g q rest) h = adds_mark (λ _. refl) rest h.1 ∙ or_none p.mark ∙ g.marked ∙ rw h.0 (or_none (limit_of (itself c)))

module _ (known : Known) (s : List ℕ) (before own : ℕ) (number : own ≡ before + 1) (depth : ℕ) (read : ChildReader) (g : ConstructReader) (alike : Alike known read g)
    (sure : Sure s before own number depth g) (n product held start : ℕ) (cap : held ≡ min 1000000 product) (r : Reach) (lies : occurs r ≡ true) (last : Bool) where
  abbrev owner : Owner
  owner = owner_of 3 n false start (standing_of r last) held

  abbrev closing : Tally → List ℕ → Cursor → Parsed
  closing t marks next = close_of 3 n false t (charges_of held t.top 0 marks) start next

  -- one child, then the later ones
  one_child : (f : Reach) (t : Bool) (k i at : ℕ) (c : Cursor) (tally : Tally) (marks : List ℕ) (make : Constructs → Construct) → occurs f ≡ true →
      way_of (ways_of 3 n false (standing_of r last) held) i (length marks) ≡ standing_of f t → c.at ≡ at →
      ((p : Share) (b : Construct) (d : ℕ) → Agrees known product at b d p → Good s before own number depth f t at b d →
      Same known product start (list_of read owner k (i + 1) p.next (with_of 3 n i tally p.value p.over p.added p.mark p.constructs) (kept_of 3 i p.value p.mark marks))
      (and_then (list g (later_child r) false (later_child r) k d) (λ cs. found (make (b then cs))))) →
      Same known product start (list_of read owner (suc k) i c tally marks) (and_then (list g f t (later_child r) (suc k) at) (λ cs. found (make cs)))
  unfolding list_of list ways_of
  one_child f t k i at c tally marks make h way q rest =
      rw (then_assoc (g f t at) (λ b d. and_then (list g (later_child r) false (later_child r) k d) (λ cs. found (b then cs))) (λ cs. found (make cs)))
      (next_child _ _ (alike f t product _ held at c h way cap q) (sure f t at) (λ p b d a x.
      rw (then_assoc (list g (later_child r) false (later_child r) k d) (λ cs. found (b then cs)) (λ cs. found (make cs))) (rest p b d a x)))

  later_law : (k i at : ℕ) (c : Cursor) (t : Tally) (marks : List ℕ) (make : Constructs → Construct) → 1 ≤ i → c.at ≡ at →
      ((cs : Constructs) (past : ℕ) (t' : Tally) (marks' : List ℕ) (next : Cursor) → Adds known 3 n product i at t marks cs past t' marks' → Each Unmarked cs →
      next.at ≡ past → Same known product start (closing t' marks' next) (found (make cs) past)) →
      Same known product start (list_of read owner k i c t marks) (and_then (list g (later_child r) false (later_child r) k at) (λ cs. found (make cs)))
  unfolding list_of list
  later_law zero i at c t marks make h q close = close end at t marks c no_more tt q
  later_law (suc k) i at c t marks make h q close =
      one_child (later_child r) false k i at c t marks make refl (way_later n held i (length marks) r lies last h) q (λ p b d a x.
      later_law k (i + 1) d p.next _ _ (λ cs. make (b then cs)) (omega arith) a.reached (λ cs past t' marks' next' adds each z.
      close (b then cs) past t' marks' next' (one_more a x.span.long adds) (unmarked before depth (later_child r) b refl refl x.legal, each) z))

  closed : (cs : Constructs) (past : ℕ) (t : Tally) (marks : List ℕ) (next : Cursor) → Adds known 3 n product 0 (start + 8) no_tally [] cs past t marks → Led cs →
      next.at ≡ past → Same known product start (closing t marks next) (found (sequence cs) past)
  unfolding close_of charges_of ended value records
  closed cs past t marks next adds led q =
      let (x, y) = adds_same (λ _. refl) adds in
      ended_law (ended_in known (start + 8) cs) (record {
        listed = refl;
        first = adds_over adds;
        amount = λ z. rw (adds_sum (λ _. refl) adds z, all_counted known n 0 cs, x) (omega arith);
        added = λ z. rw (adds_added adds z 0 refl, y) (omega arith);
        marked = led_mark adds led;
        inside = omega (arith, adds_constructs adds);
      }) q

  first_law : (k : ℕ) → Same known product start (list_of read owner k 0 (record { at = start + 8 }) no_tally [])
      (and_then (list g (first_child r) last (later_child r) k (start + 8)) (λ cs. found (sequence cs)))
  unfolding list_of list
  first_law zero = closed end (start + 8) no_tally [] (record { at = start + 8 }) no_more tt refl
  first_law (suc k) =
      one_child (first_child r) last k 0 (start + 8) _ no_tally [] sequence (first_occurs r lies) (way_first n held 0 r lies last) refl (λ p b d a x.
      later_law k 1 d p.next _ _ (λ cs. sequence (b then cs)) (omega arith) a.reached (λ cs past t' marks' next' adds each z.
      closed (b then cs) past t' marks' next' (one_more a x.span.long adds) (no_mark before depth (first_child r) b refl x.legal, each) z))

  pub sequence_law : Same known product start (list_of read owner n 0 (record { at = start + 8 }) no_tally []) (sequence_at g r last n (start + 8))
  unfolding sequence_at
  sequence_law = first_law n
