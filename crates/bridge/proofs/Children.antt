-- The children that the code has added up, against the constructs that they are.
use Prim.Native.Nat.{ℕ, ◌+◌, ◌≤◌, min, max}
use mathlib.Core.Path.{◌≡◌, refl, sym, ◌∙◌}
use mathlib.Core.Bool.{false}
use mathlib.Core.List.{List, [], ◌++◌, append_assoc, append-nil}
use mathlib.Core.Option.{Option as Maybe, some, none}
use lib.ListN.{length, length-append}
use borrow.Author.Tests.{ne_eqb}
use native.Mathlib.Omega.{arith}
use Rattle.std.specs.Prelude.{Option, Some, None}
use Rattle.std.specs.Option.{option_or}
use Rattle.meaning.specs.Tree.{Marker, Construct, Constructs, end, ◌then◌, itself, mark}
use Rattle.meaning.specs.Format.{bytes}
use Rattle.meaning.specs.Value.{Known, larger, total, times, value, largest, charges, charges_in}
use Rattle.meaning.specs.Work.{records, records_in}
use Rattle.meaning.specs.Answer.{ended, ended_in, too_big}
use Rattle.demands.proofs.Good.{Unmarked}
use Rattle.reader.specs.Tallies.{Share, Tally, value_cap, counted, is_branch, topped_of, with_of, kept_with, kept_of}
use Rattle.reader.proofs.Laws.{or_none, or_assoc}
use Rattle.bridge.proofs.Agree.{limit_of, over_in, Agrees}
use Rattle.bridge.proofs.Ends.{big_append, neither}
use Rattle.bridge.proofs.Charges.{total_append, Branch, Each, kept_in}

-- Adds .. i at t marks cs past t' marks': the children cs, from child i on, read from a place up to another, bring a tally and the marks kept
-- to these
pub data Adds (known : Known) (kind count inner : ℕ) : ℕ → ℕ → Tally → List ℕ → Constructs → ℕ → Tally → List ℕ → Type 0 where
  no_more : {i at : ℕ} {t : Tally} {marks : List ℕ} → Adds known kind count inner i at t marks end at t marks
  one_more : {i at d past : ℕ} {p : Share} {t t' : Tally} {marks marks' : List ℕ} {c : Construct} {cs : Constructs} →
      Agrees known inner at c d p → d ≡ at + length (bytes c) →
      Adds known kind count inner (i + 1) d (with_of kind count i t p.value p.over p.added p.mark p.constructs) (kept_of kind i p.value p.mark marks) cs past t' marks' →
      Adds known kind count inner i at t marks (c then cs) past t' marks'

-- what the children add to their owner's value
abbrev pub counted_in : Known → ℕ → ℕ → ℕ → Constructs → ℕ
counted_in known kind count i end = 0
counted_in known kind count i (c then cs) = counted kind count i (value known c) + counted_in known kind count (i + 1) cs

pub none_first : (known : Known) (at d : ℕ) (c : Construct) (cs : Constructs) → d ≡ at + length (bytes c) → over_in (ended_in known at (c then cs)) ≡ None →
    (over_in (ended known at c) ≡ None) × (over_in (ended_in known d cs) ≡ None)
unfolding ended
none_first known at d c cs q z = rw q (neither _ _ (sym (big_append (ended known at c) (ended_in known (at + length (bytes c)) cs)) ∙ z))

module _ {known : Known} {kind count inner : ℕ} where
  -- the first too big
  pub adds_over : {i at past : ℕ} {t t' : Tally} {marks marks' : List ℕ} {cs : Constructs} → Adds known kind count inner i at t marks cs past t' marks' →
      t'.over ≡ option_or t.over (over_in (ended_in known at cs))
  unfolding with_of ended too_big
  adds_over {t = t} no_more = sym (or_none t.over)
  adds_over {at = at} {t = t} (one_more {c = c} {cs = cs} g q rest) =
      adds_over rest
      ∙ rw (big_append (ended known at c) (ended_in known (at + length (bytes c)) cs), g.over, q) (or_assoc t.over (over_in (ended known at c)) _)

  -- what their markers add
  pub adds_added : {i at past : ℕ} {t t' : Tally} {marks marks' : List ℕ} {cs : Constructs} → Adds known kind count inner i at t marks cs past t' marks' →
      over_in (ended_in known at cs) ≡ None → (u : ℕ) → t.added ≡ min value_cap u → t'.added ≡ min value_cap (u + total (times inner (charges_in known cs)))
  unfolding with_of value times total
  adds_added no_more z u h = omega arith
  adds_added {at = at} (one_more {d = d} {c = c} {cs = cs} g q rest) z u h =
      let (x, y) = none_first known at d c cs q z in
      let e = g.added x in
      adds_added rest y (u + total (times inner (charges known c))) (omega arith) ∙ rw (total_append inner (charges known c) (charges_in known cs)) (omega arith)

  -- how many constructs they are, with those that they own
  pub adds_constructs : {i at past : ℕ} {t t' : Tally} {marks marks' : List ℕ} {cs : Constructs} → Adds known kind count inner i at t marks cs past t' marks' →
      t'.constructs ≡ t.constructs + length (records_in cs)
  unfolding with_of records
  adds_constructs no_more = omega arith
  adds_constructs (one_more {c = c} {cs = cs} g q rest) =
      let more = length-append (records c) (records_in cs) in
      let later = adds_constructs rest in
      omega (arith, g.inside)

  -- of a record that is no alternative
  module _ (plain : (i : ℕ) → is_branch kind i ≡ false) where
    pub adds_sum : {i at past : ℕ} {t t' : Tally} {marks marks' : List ℕ} {cs : Constructs} → Adds known kind count inner i at t marks cs past t' marks' →
        over_in (ended_in known at cs) ≡ None → t'.sum ≡ t.sum + counted_in known kind count i cs
    unfolding with_of
    adds_sum no_more z = omega arith
    adds_sum {i = i} {at = at} (one_more {d = d} {c = c} {cs = cs} g q rest) z =
        let (x, y) = none_first known at d c cs q z in
        adds_sum rest y ∙ rw (plain i, g.amount x) (omega arith)

    pub adds_same : {i at past : ℕ} {t t' : Tally} {marks marks' : List ℕ} {cs : Constructs} → Adds known kind count inner i at t marks cs past t' marks' →
        (t'.top ≡ t.top) × (marks' ≡ marks)
    unfolding with_of kept_of
    adds_same no_more = (refl, refl)
    adds_same {i = i} (one_more g q rest) =
        let (x, y) = adds_same rest in
        (x ∙ rw (plain i), y ∙ rw (plain i))

    pub adds_mark : {i at past : ℕ} {t t' : Tally} {marks marks' : List ℕ} {cs : Constructs} → Adds known kind count inner i at t marks cs past t' marks' →
        Each Unmarked cs → t'.mark ≡ t.mark
    unfolding with_of
    adds_mark no_more h = refl
    adds_mark {i = i} (one_more g q rest) h = adds_mark rest h.1 ∙ rw (plain i, g.marked, h.0.0, h.0.1)

-- Of an alternative's branches: the largest plain one, and the marked ones kept.
larger_law : (o : Maybe Marker) (t v l : ℕ) → max (topped_of t v (limit_of o)) l ≡ max t (larger o v l)
larger_law none t v l = omega arith
larger_law (some m) t v l = refl

pub kept_law : (o : Option ℕ) (i v : ℕ) (marks : List ℕ) → 1 ≤ i → kept_of 4 i v o marks ≡ marks ++ kept_with v o []
unfolding kept_of
kept_law None i v marks h = rw (ne_eqb i 0 (λ e. omega arith)) (sym (append-nil marks))
kept_law (Some limit) i v marks h = rw (ne_eqb i 0 (λ e. omega arith))

-- what a branch tells of its mark
pub branch_mark : (b : Construct) {m : Option ℕ} → m ≡ option_or (limit_of (itself b)) (limit_of (mark b)) → itself b ≡ none → m ≡ limit_of (mark b)
branch_mark b e h = e ∙ rw h

module _ {known : Known} {count inner : ℕ} where
  pub branches_same : {i at past : ℕ} {t t' : Tally} {marks marks' : List ℕ} {bs : Constructs} → Adds known 4 count inner i at t marks bs past t' marks' →
      1 ≤ i → (t'.sum ≡ t.sum) × (t'.mark ≡ t.mark)
  unfolding with_of
  branches_same no_more h = (refl, refl)
  branches_same {i = i} (one_more g q rest) h =
      let (x, y) = branches_same rest (omega arith) in
      (x ∙ rw (ne_eqb i 0 (λ e. omega arith)), y ∙ rw (ne_eqb i 0 (λ e. omega arith)))

  pub branches_top : {i at past : ℕ} {t t' : Tally} {marks marks' : List ℕ} {bs : Constructs} → Adds known 4 count inner i at t marks bs past t' marks' →
      1 ≤ i → Each Branch bs → over_in (ended_in known at bs) ≡ None → t'.top ≡ max t.top (largest known bs)
  unfolding with_of value
  branches_top no_more h each z = omega arith
  branches_top {i = i} {at = at} {t = t} (one_more {d = d} {c = b} {cs = bs} g q rest) h each z =
      let (x, y) = none_first known at d b bs q z in
      branches_top rest (omega arith) each.1 y
      ∙ rw (ne_eqb i 0 (λ e. omega arith), branch_mark b g.marked each.0.0, g.amount x) (larger_law (mark b) t.top (value known b) (largest known bs))

  pub branches_kept : {i at past : ℕ} {t t' : Tally} {marks marks' : List ℕ} {bs : Constructs} → Adds known 4 count inner i at t marks bs past t' marks' →
      1 ≤ i → Each Branch bs → over_in (ended_in known at bs) ≡ None → marks' ≡ marks ++ kept_in known bs
  branches_kept {marks = marks} no_more h each z = sym (append-nil marks)
  branches_kept {i = i} {at = at} {marks = marks} (one_more {d = d} {p = p} {c = b} {cs = bs} g q rest) h each z =
      let (x, y) = none_first known at d b bs q z in
      branches_kept rest (omega arith) each.1 y
      ∙ rw (kept_law p.mark i p.value marks h, branch_mark b g.marked each.0.0, g.amount x)
      (append_assoc marks (kept_with (value known b) (limit_of (mark b)) []) (kept_in known bs))
