-- Laws of what the private functions on values come to: how far each sum can grow, one child more, and the marked branches kept.
use Prim.Native.Nat.{ℕ, ◌+◌, ◌*◌, ◌/◌, ◌%◌, ◌≤◌, ◌<◌, min}
use mathlib.Core.Path.{◌≡◌, refl, sym, ◌∙◌}
use mathlib.Core.Bool.{Bool, true, false, false≢true}
use mathlib.Core.List.{List}
use lib.Dec.{eqb}
use lib.ListN.{length, take, drop, get_or, drop_of_length-le, length-take}
use lib.Seq.{drop-cons}
use native.Mathlib.Omega.{arith}
use native.Mathlib.Nat.{mul-le-mul}
use native.Mathlib.Numerals.{add-one}
use Rattle.meaning.specs.Format.{pick}
use Rattle.std.specs.Prelude.{Option, Some, None}
use Rattle.std.specs.Option.{option_or}
use Rattle.reader.specs.Tallies.{value_cap, charge_of, charges_of, is_loop, counted, is_branch, Tally, topped_of, with_of, kept_of, heaviest, heaviest_sum, Counts, Limited, Held}

-- what holds of both holds of either
pub picked : {A : Type 0} {a b : A} (P : A → Type 0) (t : Bool) → P a → P b → P (pick t a b)
picked P true h k = h
picked P false h k = k

pub pick_most : {a b most : ℕ} (t : Bool) → a ≤ most → b ≤ most → pick t a b ≤ most
pick_most {most = most} = picked (λ x. x ≤ most)

pub pick_same : {A : Type 0} (t : Bool) (a : A) → pick t a a ≡ a
pick_same t a = picked (λ x. x ≡ a) t refl refl

-- a product stays in 64 bits
pub rounds_small : {v count : ℕ} → v ≤ 1099511627775 → count ≤ 1000000 → v * count ≤ 1099511627775000000
rounds_small p q = mul-le-mul p q

-- the marked branches from one on
pub charges_more : (product plain sum i : ℕ) (marks : List ℕ) → i < length marks →
    charges_of product plain sum (drop i marks)
    ≡ charges_of product plain (min value_cap (sum + charge_of product (get_or marks i 0 % 1048576) (get_or marks i 0 / 1048576) plain)) (drop (i + 1) marks)
unfolding charges_of
charges_more product plain sum i marks h = rw (add-one i, drop-cons marks i 0 h)

pub charges_end : (product plain sum i : ℕ) (marks : List ℕ) → length marks ≤ i → charges_of product plain sum (drop i marks) ≡ sum
unfolding charges_of
charges_end product plain sum i marks h = rw (drop_of_length-le marks h)

-- what a child adds is at most the heaviest of its owner's
pub child_small : (kind count i v : ℕ) → Counts kind count → v ≤ 1099511627775 → counted kind count i v ≤ heaviest kind
unfolding counted
child_small kind count i v h small = go (eqb kind 5) (eqb kind 6) (eqb i 1) (eqb i 2) h.loop
  where
    go : (five six one two : Bool) → (pick five true six ≡ true → count ≤ 1000000) →
        pick five (pick one (v + v * count) (pick two (v * count) v)) (pick six (pick two v (v * count)) v)
        ≤ pick (pick five true six) 1099512727286627775 1099511627775
    go true six true two k = let x = rounds_small small (k refl) in omega arith
    go true six false true k = let x = rounds_small small (k refl) in omega arith
    go true six false false k = omega arith
    go false true one true k = omega arith
    go false true one false k = let x = rounds_small small (k refl) in omega arith
    go false false one two k = omega arith

-- n children add no more than the heaviest n
pub fewer_small : (i n kind : ℕ) → i ≤ n → n * heaviest kind ≤ heaviest_sum → i * heaviest kind ≤ heaviest_sum
fewer_small i n kind h k = let m : i * heaviest kind ≤ n * heaviest kind = mul-le-mul h (omega arith) in omega arith

-- no limit on what is counted once
pub no_loop : {kind count : ℕ} → is_loop kind ≡ false → Counts kind count
no_loop e = record { loop = λ f. absurd (false≢true (sym e ∙ f)) }

next_heavier : (i h : ℕ) → (i + 1) * h ≡ i * h + h
next_heavier i h = omega arith

pub sum_fits : (kind i : ℕ) {t : Tally} → Held kind i t → (i + 1) * heaviest kind ≤ heaviest_sum → t.sum + heaviest kind ≤ heaviest_sum
sum_fits kind i h k = omega (arith, next_heavier i (heaviest kind), h.sum)

-- of optional things, the first that is there; what holds of all of them holds of it
pub or_none : {A : Type 0} (a : Option A) → option_or a None ≡ a
or_none None = refl
or_none (Some x) = refl

pub or_assoc : {A : Type 0} (a b c : Option A) → option_or (option_or a b) c ≡ option_or a (option_or b c)
or_assoc None b c = refl
or_assoc (Some x) b c = refl

limited_or : (a b : Option ℕ) → Limited a → Limited b → Limited (option_or a b)
limited_or None b h k = k
limited_or (Some limit) b h k = h

topped_most : {top v most : ℕ} (mark : Option ℕ) → top ≤ most → v ≤ most → topped_of top v mark ≤ most
topped_most None h k = omega arith
topped_most (Some limit) h k = h

-- what is held after one child more
pub held_more : {kind count i : ℕ} {t : Tally} {v : ℕ} (m o : Option ℕ) (e k : ℕ) → Counts kind count → Held kind i t → v ≤ 1099511627775 → Limited m →
    Held kind (i + 1) (with_of kind count i t v o e m k)
unfolding with_of
held_more {kind} {count} {i} {t} {v} m o e k counts h small few =
    let n = next_heavier i (heaviest kind) in
    let c = child_small kind count i v counts small in
    let none : t.sum ≤ (i + 1) * heaviest kind = omega (arith, h.sum) in
    let one : t.sum + counted kind count i v ≤ (i + 1) * heaviest kind = omega (arith, h.sum) in
    record {
      sum = picked (λ x. x ≤ (i + 1) * heaviest kind) (is_branch kind i) none one;
      top = pick_most (is_branch kind i) (topped_most m h.top small) h.top;
      added = omega arith;
      mark = picked Limited (is_branch kind i) h.mark (limited_or m t.mark few h.mark);
    }

-- The list `marks` up to `held` after a child: as it was, or with one marked branch more.
module _ (kind i value : ℕ) (mark : Option ℕ) (held : ℕ) (marks : List ℕ) where
  abbrev pub Kept : ℕ → List ℕ → Type 0
  Kept r after =
      (r ≡ length (kept_of kind i value mark (take held marks))) × ((take r after ≡ kept_of kind i value mark (take held marks)) × (length after ≡ length marks))

  pub kept_other : is_branch kind i ≡ false → held ≤ length marks → Kept held marks
  unfolding kept_of
  kept_other b h = rw b (let n = length-take held marks in (omega arith, (refl, refl)))

-- what is no branch is not kept, whatever its mark
pub kept_alike : (kind i value : ℕ) (mark other : Option ℕ) (marks : List ℕ) → is_branch kind i ≡ false → kept_of kind i value mark marks ≡ kept_of kind i value other marks
unfolding kept_of
kept_alike kind i value mark other marks b = rw b
