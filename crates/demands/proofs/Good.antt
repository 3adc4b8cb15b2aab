-- What is read from bytes is legal, and its bytes are those that were read.
use Prim.Native.Nat.{ℕ, zero, suc, ◌+◌, ◌≤◌}
use mathlib.Core.Path.{◌≡◌, refl, sym, ap, subst, ◌∙◌}
use mathlib.Core.Bool.{Bool, true, false, false≢true}
use mathlib.Core.List.{List, [], ◌∷◌}
use mathlib.Core.Logic.{◌⊎◌, inl, inr}
use mathlib.Core.Option.{Option, some, none}
use lib.Dec.{leb, eqb}
use borrow.Author.Tests.{leb-false, eqb-false, not-false}
use native.Mathlib.Omega.{arith}
use Rattle.meaning.specs.Tree.{Marker, Loop, Construct, Constructs, itself, leading, mark}
use Rattle.meaning.specs.Tree.{primitive, sequence, alternative, head_loop, tail_loop, timed_loop, call, marker, end, ◌then◌}
use Rattle.meaning.specs.Format.{pick, construct_rows, Record, InRange, of, flag, how_many, record_of, record_bytes, bytes, bytes_in}
use Rattle.meaning.specs.Legal.{Reach, nowhere, first_child, later_child, as_branch, as_body, Plain, Fit, Legal, Legals}
use Rattle.meaning.specs.Judgement.{construct, ConstructReader, list, is_marked, branches}
use Rattle.meaning.specs.Judgement.{sequence_at, alternative_at, head_loop_at, tail_loop_at, timed_loop_at, owned, construct_at}
use Rattle.meaning.proofs.Laws.{pick_false}
use Rattle.demands.proofs.Found.{Found, not_read, was_read, found_then}
use Rattle.demands.proofs.Span.{Span, span_none, span_then}
use Rattle.demands.proofs.Records.{Judged, judged_good, Sort, sort}
use Rattle.demands.proofs.Records.{a_primitive, a_sequence, an_alternative, a_head_loop, a_tail_loop, a_timed_loop, a_call, a_marker}

nonzero : (k : ℕ) → (k ≡ 0 → ⊥) → 1 ≤ k
nonzero zero h = absurd (h refl)
nonzero (suc k) h = omega arith

unmarked : (o : Option Marker) → is_marked o ≡ false → o ≡ none
unmarked none e = refl
unmarked (some m) e = absurd (false≢true (sym e))

flag_of : (b : ℕ) → b ≤ 1 → flag (eqb b 1) ≡ b
flag_of zero h = refl
flag_of (suc zero) h = refl
flag_of (suc (suc b)) h = absurd (omega arith)

-- of a branch whose marker would leave no plain one
abbrev pub Unmarked : Construct → Type 0
Unmarked c = (itself c ≡ none) × (mark c ≡ none)

module _ (s : List ℕ) (before own : ℕ) (number : own ≡ before + 1) where
  -- a construct read at a place up to another
  pub record Good (depth : ℕ) (r : Reach) (last : Bool) (at : ℕ) (c : Construct) (past : ℕ) : Type 0 where
    pub legal : Legal before depth r c
    pub plain : last ≡ true → Unmarked c
    pub span : Span s at past (bytes c)

  -- n constructs
  pub record Goods (depth : ℕ) (f l : Reach) (n at : ℕ) (cs : Constructs) (past : ℕ) : Type 0 where
    pub legal : Legals before depth f l cs
    pub many : how_many cs ≡ n
    pub span : Span s at past (bytes_in cs)

  no_goods : (depth : ℕ) (f l : Reach) (at : ℕ) → Goods depth f l 0 at end at
  unfolding bytes
  no_goods depth f l at = record { legal = tt; many = refl; span = span_none s at }

  more_goods : {depth n at next past : ℕ} {f l : Reach} {last : Bool} {c : Construct} {cs : Constructs} → Good depth f last at c next →
      Goods depth l l n next cs past → Goods depth f l (suc n) at (c then cs) past
  unfolding bytes
  more_goods x y = record { legal = (x.legal, y.legal); many = ap suc y.many; span = span_then x.span y.span }

  abbrev GoodReader : ℕ → ConstructReader → Type 0
  GoodReader depth read = (r : Reach) (last : Bool) (at : ℕ) → Found (Good depth r last at) (read r last at)

  abbrev GoodList : ℕ → Reach → Bool → Reach → ℕ → ℕ → Constructs → ℕ → Type 0
  GoodList depth f last l n at cs past = Goods depth f l n at cs past × (last ≡ true → leading cs ≡ none)

  good_list : (depth : ℕ) (read : ConstructReader) → GoodReader depth read → (f : Reach) (last : Bool) (l : Reach) (n at : ℕ) →
      Found (GoodList depth f last l n at) (list read f last l n at)
  unfolding list
  good_list depth read g f last l zero at = was_read (no_goods depth f l at, λ _. refl)
  good_list depth read g f last l (suc n) at =
      found_then (g f last at) (λ c next x. found_then (good_list depth read g l false l n next) (λ cs past y. was_read (more_goods x y.0, λ q. (x.plain q).0)))

  -- if all branches before are marked, one of these is plain
  abbrev GoodBranches : ℕ → Reach → Bool → ℕ → ℕ → Constructs → ℕ → Type 0
  GoodBranches depth r marked n at bs past = Goods depth (as_branch r) (as_branch r) n at bs past × (marked ≡ true → 1 ≤ n → Plain bs)

  some_plain : (n : ℕ) (marked : Bool) (b : Construct) (bs : Constructs) → marked ≡ true →
      (pick (eqb n 0) marked false ≡ true → Unmarked b) → (pick marked (is_marked (mark b)) false ≡ true → 1 ≤ n → Plain bs) → (mark b ≡ none) ⊎ Plain bs
  some_plain zero marked b bs q h k = inl (h q).1
  some_plain (suc n) marked b bs q h k = go (is_marked (mark b)) refl
    where
      go : (t : Bool) → is_marked (mark b) ≡ t → (mark b ≡ none) ⊎ Plain bs
      go true e = inr (k (rw (q, e)) (omega arith))
      go false e = inl (unmarked (mark b) e)

  good_branches : (depth : ℕ) (read : ConstructReader) → GoodReader depth read → (r : Reach) (marked : Bool) (n at : ℕ) →
      Found (GoodBranches depth r marked n at) (branches read r marked n at)
  unfolding branches
  good_branches depth read g r marked zero at = was_read (no_goods depth (as_branch r) (as_branch r) at, λ _ h. absurd (omega arith))
  good_branches depth read g r marked (suc n) at =
      found_then (g _ _ at) (λ b next x.
      found_then (good_branches depth read g r _ n next) (λ bs past y.
      was_read (more_goods x y.0, λ q _. some_plain n marked b bs q x.plain y.1)))

  -- what a construct's own record gives: its fields and depth, and its first bytes
  record Headed (depth at next : ℕ) (c : Construct) : Type 0 where
    fit : Fit depth c
    span : Span s at next (record_bytes (record_of c))

  module _ (depth left : ℕ) (r : Reach) (last : Bool) (at next : ℕ) (deep : depth ≤ 24) where
    headed : {x : Record} → Judged s (construct own left r last) at x next → (c : Construct) → record_of c ≡ x → Headed depth at next c
    headed j c e = record { fit = (subst (InRange construct_rows) (sym e) j.range, deep); span = subst (λ z. Span s at next (record_bytes z)) (sym e) j.span }

    module _ (read : ConstructReader) (g : GoodReader (suc depth) read) where
      good_owned : {x : Record} → Sort x → Judged s (construct own left r last) at x next → Found (Good depth r last at) (owned read r last x next)
      unfolding bytes sequence_at alternative_at head_loop_at tail_loop_at timed_loop_at
      good_owned (a_primitive a) j =
          let c = primitive (record { cost = a }) in
          let h = headed j c refl in
          was_read {a = c} (record { legal = h.fit; plain = λ _. (refl, refl); span = h.span })
      good_owned (a_sequence n) j =
          found_then (good_list (suc depth) read g (first_child r) last (later_child r) n next) (λ cs past y.
          let h = headed j (sequence cs) (ap (λ z. of 3 (z ∷ [])) y.0.many) in
          was_read {a = sequence cs} (record { legal = (h.fit, y.0.legal); plain = λ q. (refl, y.1 q); span = span_then h.span y.0.span }))
      good_owned (an_alternative n k) j =
          found_then (g nowhere false next) (λ c d x.
          found_then (good_branches (suc depth) read g r true n d) (λ bs past y.
          let h = headed j (alternative c bs) (ap (λ z. of 4 (z ∷ [])) y.0.many) in
          was_read {a = alternative c bs} (record {
            legal = (h.fit, x.legal, y.0.legal, y.1 refl (omega arith));
            plain = λ _. (refl, refl);
            span = span_then h.span (span_then x.span y.0.span);
          })))
      good_owned (a_head_loop n b k) j =
          found_then (g nowhere false next) (λ i d1 x1.
          found_then (g nowhere false d1) (λ c d2 x2.
          found_then (g (as_body (eqb b 1) r) false d2) (λ t d3 x3.
          found_then (g nowhere false d3) (λ o past x4.
          let l : Loop = record { count = n; scope = eqb b 1 } in
          let h = headed j (head_loop l i c t o) (ap (λ z. of 5 (n ∷ z ∷ [])) (flag_of b k)) in
          was_read {a = head_loop l i c t o} (record {
            legal = (h.fit, x1.legal, x2.legal, x3.legal, x4.legal);
            plain = λ _. (refl, refl);
            span = span_then h.span (span_then x1.span (span_then x2.span (span_then x3.span x4.span)));
          })))))
      good_owned (a_tail_loop n b k) j =
          found_then (g (as_body (eqb b 1) r) false next) (λ t d1 x1.
          found_then (g nowhere false d1) (λ c d2 x2.
          found_then (g nowhere false d2) (λ o past x3.
          let l : Loop = record { count = n; scope = eqb b 1 } in
          let h = headed j (tail_loop l t c o) (ap (λ z. of 6 (n ∷ z ∷ [])) (flag_of b k)) in
          was_read {a = tail_loop l t c o} (record {
            legal = (h.fit, x1.legal, x2.legal, x3.legal);
            plain = λ _. (refl, refl);
            span = span_then h.span (span_then x1.span (span_then x2.span x3.span));
          }))))
      good_owned (a_timed_loop a) j =
          found_then (g nowhere false next) (λ o past x.
          let c = timed_loop (record { time = a }) o in
          let h = headed j c refl in
          was_read {a = c} (record { legal = (h.fit, x.legal); plain = λ _. (refl, refl); span = span_then h.span x.span }))
      good_owned (a_call a) j =
          let c = call (record { routine = a }) in
          let h = headed j c refl in
          let (x, y) = pick_false (eqb a 0) (leb own a) j.place.0 in
          let z = leb-false own a y in
          was_read {a = c} (record { legal = (h.fit, nonzero a (eqb-false a 0 x), omega arith); plain = λ _. (refl, refl); span = h.span })
      good_owned (a_marker a b) j =
          let c = marker (record { limit = a; cost = b }) in
          let h = headed j c refl in
          was_read {a = c} (record { legal = (h.fit, not-false _ j.place.2); plain = λ q. absurd (false≢true (sym j.place.3 ∙ q)); span = h.span })

  -- the construct at a place: so many depths are left
  pub good : (depth left : ℕ) → depth + left ≡ 25 → GoodReader depth (construct_at left s own)
  unfolding construct_at
  good depth zero e r last at = found_then (judged_good s (construct own 0 r last) at) (λ x next j. not_read (omega arith))
  good depth (suc left) e r last at =
      found_then (judged_good s (construct own (suc left) r last) at) (λ x next j.
      good_owned depth (suc left) r last at next (omega arith) (construct_at left s own) (good (suc depth) left (omega arith)) (sort x j.kind j.range) j)
