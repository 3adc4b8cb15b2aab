-- The law of constructs: what the code reads and tells of a construct agrees with document 01's judgement and values.
use Prim.Native.Nat.{ℕ, zero, suc, ◌+◌, ◌-◌, ◌≤◌, min}
use mathlib.Core.Path.{◌≡◌, refl, sym}
use mathlib.Core.Bool.{Bool, true, false≢true}
use mathlib.Core.List.{List, []}
use lib.ListN.{length}
use lib.Dec.{leb, eqb}
use borrow.Author.Tests.{le-ltb, leb-false, eqb-false}
use native.Mathlib.Omega.{arith}
use native.Mathlib.Numerals.{add-one}
use Rattle.std.specs.Prelude.{Option, Some, None}
use Rattle.std.specs.Option.{option_or}
use Rattle.meaning.specs.Tree.{Construct, primitive, call, marker, itself, mark}
use Rattle.meaning.specs.Format.{ranges_of, Record}
use Rattle.meaning.specs.Legal.{Reach}
use Rattle.meaning.specs.Value.{Known, total, times, value, charges}
use Rattle.meaning.specs.Work.{records}
use Rattle.meaning.specs.Judgement.{Reading, refused, found, and_then, construct, ConstructReader, owned, construct_at}
use Rattle.meaning.specs.Answer.{value_limit, ended, ends, too_big}
use Rattle.meaning.proofs.Laws.{pick_false}
use Rattle.demands.proofs.Found.{Found, not_read, was_read}
use Rattle.demands.proofs.Limit.{NoneOverLimit}
use Rattle.demands.proofs.Good.{good}
use Rattle.demands.proofs.Records.{Judged, judged_good, Sort, sort}
use Rattle.demands.proofs.Records.{a_primitive, a_sequence, an_alternative, a_head_loop, a_tail_loop, a_timed_loop, a_call, a_marker}
use Rattle.records.specs.Records.{found_of}
use Rattle.reader.specs.Tallies.{Refused, share}
use Rattle.reader.specs.Reader.{ChildReader, owned_by, owned_of, construct_of}
use Rattle.bridge.proofs.Agree.{standing_of, limit_of, over_in, occurs, Agrees, Same, both_refused, read_done, Finds}
use Rattle.bridge.proofs.Standings.{judged_alike}
use Rattle.bridge.proofs.Marks.{first_most}
use Rattle.bridge.proofs.Readers.{Alike, Sure, past_record_lem}
use Rattle.bridge.proofs.Sequences.{sequence_law}
use Rattle.bridge.proofs.Alternatives.{alternative_law}
use Rattle.bridge.proofs.Loops.{head_loop_law, tail_loop_law, timed_loop_law}

-- a construct that owns nothing has its value and at most a mark
leaf : (known : Known) (product at next v : ℕ) (m : Option ℕ) (c : Construct) → v ≡ value known c → v ≤ value_limit → ended known at c ≡ ends known at c →
    charges known c ≡ [] → m ≡ option_or (limit_of (itself c)) (limit_of (mark c)) → 1 ≡ length (records c) →
    Agrees known product at c next (share v None 0 m 0 (record { at = next }))
unfolding too_big times total
leaf known product at next v m c e h alone free marked only =
    let small : over_in (ended known at c) ≡ None = rw (alone, ← e, le-ltb value_limit v h) in
    record { reached = refl; over = rw small; amount = λ z. e; small = h; added = λ z. rw free; marked = marked; inside = only }

module _ (known : Known) (s bounds : List ℕ) (before own : ℕ) (number : own ≡ before + 1) (finds : Finds known bounds before) (small : NoneOverLimit bounds) where
  module _ (depth left : ℕ) (read : ChildReader) (g : ConstructReader) (alike : Alike known read g) (sure : Sure s before own number (suc depth) g)
      (r : Reach) (lies : occurs r ≡ true) (last : Bool) (product held at : ℕ) (cap : held ≡ min 1000000 product) where
    owned_law : {x : Record} {next : ℕ} → Sort x → Judged s (construct own left r last) at x next →
        Same known product at (owned_of read bounds at (standing_of r last) held (found_of (found x next))) (owned g r last x next)
    unfolding owned_by ranges_of ended value records
    owned_law {next = next} (a_primitive cost) j =
        let few = (first_most _ _ cost _ j.range).0 in
        read_done (leaf known product at next cost None (primitive (record { cost = cost })) refl (omega arith) refl refl refl refl)
    owned_law (a_sequence n) j =
        rw (past_record_lem j) (sequence_law known s before own number (suc depth) read g alike sure n product held at cap r lies last)
    owned_law (an_alternative n h) j =
        rw (past_record_lem j, add-one n) (alternative_law known s before own number (suc depth) read g alike sure n product held at cap r lies last)
    owned_law (a_head_loop count scope h) j =
        let few = (first_most _ _ count _ j.range).0 in
        rw (past_record_lem j) (head_loop_law known s before own number (suc depth) read g alike sure count (eqb scope 1) product held at cap r lies last few)
    owned_law (a_tail_loop count scope h) j =
        let few = (first_most _ _ count _ j.range).0 in
        rw (past_record_lem j) (tail_loop_law known s before own number (suc depth) read g alike sure count (eqb scope 1) product held at cap r lies last few)
    owned_law (a_timed_loop time) j =
        rw (past_record_lem j) (timed_loop_law known s before own number (suc depth) read g alike sure time product held at (standing_of r last))
    owned_law {next = next} (a_call k) j =
        let (x, y) = pick_false (eqb k 0) (leb own k) j.place.0 in
        let low = eqb-false k 0 x in
        let high = leb-false own k y in
        read_done (leaf known product at next _ None (call (record { routine = k })) (finds k (omega arith) (omega arith)) (small (k - 1)) refl refl refl refl)
    owned_law {next = next} (a_marker limit cost) j =
        let rest = (first_most _ _ limit _ j.range).1 in
        let few = (first_most _ _ cost _ rest).0 in
        read_done (leaf known product at next cost (Some limit) (marker (record { limit = limit; cost = cost })) refl (omega arith) refl refl refl refl)

    -- what is judged good is owned; at depth 25 nothing is
    record_law : {j : Reading Record} → Found (Judged s (construct own left r last) at) j →
        Same known product at (owned_of read bounds at (standing_of r last) held (found_of j)) (and_then j (owned g r last))
    record_law (not_read n) = both_refused
    record_law (was_read {a = x} j) = owned_law (sort x j.kind j.range) j

  too_deep : (r : Reach) (last : Bool) (product held at : ℕ) {j : Reading Record} → Found (Judged s (construct own 0 r last) at) j →
      Same known product at (owned_of (λ _ _ d. Refused 8 d.at) bounds at (standing_of r last) held (found_of j)) (and_then j (λ x. refused 8))
  too_deep r last product held at (not_read n) = both_refused
  too_deep r last product held at (was_read j) = absurd (false≢true (sym j.place.1))

  -- a construct is read by the code as by the judgement, at any reach and place
  pub construct_law : (depth left : ℕ) → depth + left ≡ 25 → Alike known (construct_of left s bounds own) (construct_at left s own)
  unfolding construct_of construct_at
  construct_law depth zero e r last product standing held at c lies way cap q =
      rw (way, q, judged_alike s own 0 at r lies last) (too_deep r last product held at (judged_good s (construct own 0 r last) at))
  construct_law depth (suc left) e r last product standing held at c lies way cap q =
      let alike = construct_law (suc depth) left (omega arith) in
      let sure = good s before own number (suc depth) left (omega arith) in
      rw (way, q, judged_alike s own (suc left) at r lies last)
      (record_law depth (suc left) (construct_of left s bounds own) (construct_at left s own) alike sure r lies last product held at cap
      (judged_good s (construct own (suc left) r last) at))
