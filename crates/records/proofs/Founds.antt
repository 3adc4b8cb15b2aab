-- What is known of a construct's record by what is found of it, for the callers of `Cursor` in other crates: its ranges, and where it ends.
use Prim.Native.Nat.{ℕ, ◌+◌, ◌≤◌, ◌<◌}
use mathlib.Core.Path.{◌≡◌, refl, subst}
use mathlib.Core.Bool.{Bool, true, false}
use mathlib.Core.List.{List}
use lib.ListN.{length, length-drop}
use lib.Dec.{leb, eqb}
use native.Mathlib.Nat.{pos_of_ne-zero}
use native.Mathlib.Omega.{arith}
use borrow.Author.Tests.{leb-false, eqb-false}
use Rattle.std.specs.Prelude.{Option, Some, None}
use Rattle.meaning.specs.Format.{Range, length_of, in_ranges, of}
use Rattle.meaning.specs.Judgement as judgement
use Rattle.meaning.specs.Judgement.{Reading, found, bad_call, judged}
use Rattle.meaning.proofs.Laws.{pick_false}
use Rattle.records.specs.declared.Cursor.{Cursor}
use Rattle.records.specs.declared.Found.{Found}
use Rattle.records.specs.declared.Found.TheVariants as found
use Rattle.records.specs.declared.Leaf.{Leaf}
use Rattle.records.specs.declared.Leaf.TheVariants as leaf
use Rattle.records.specs.declared.standings.Standing.{Standing}
use Rattle.records.specs.Records.{construct_as, found_of, leaf_of}
use Rattle.records.proofs.Good.{Row, by_judgement, one_field, two_fields}
use Rattle.records.proofs.Table.{◌&◌}

-- a record that stands no deeper than it may, and ends in the sheet
pub record Past (s : List ℕ) (left at next : ℕ) : Type 0 where
  pub deep : 1 ≤ left
  pub past : at + 8 ≤ next
  pub inside : next ≤ length s

pub data Ranged (s : List ℕ) (own left at : ℕ) : Reading Found → Type 0 where
  a_primitive : {cost next : ℕ} → Past s left at next → cost ≤ 4294967295 → Ranged s own left at (found (found.Primitive cost) next)
  a_sequence : {n next : ℕ} → Past s left at next → n ≤ 1000 → Ranged s own left at (found (found.Sequence n) next)
  an_alternative : {n next : ℕ} → Past s left at next → 2 ≤ n → n ≤ 256 → Ranged s own left at (found (found.Alternative n) next)
  a_head_loop : {count : ℕ} {scope : Bool} {next : ℕ} → Past s left at next → count ≤ 1000000 → Ranged s own left at (found (found.HeadLoop count scope) next)
  a_tail_loop : {count : ℕ} {scope : Bool} {next : ℕ} → Past s left at next → 1 ≤ count → count ≤ 1000000 →
      Ranged s own left at (found (found.TailLoop count scope) next)
  a_timed_loop : {time next : ℕ} → Past s left at next → time ≤ 4294967295 → Ranged s own left at (found (found.TimedLoop time) next)
  a_call : {number next : ℕ} → Past s left at next → 1 ≤ number → number < own → Ranged s own left at (found (found.Call number) next)
  a_marker : {limit cost next : ℕ} → Past s left at next → limit ≤ 1000000 → cost ≤ 4294967295 →
      Ranged s own left at (found (found.Marker limit cost) next)
  refused : {number place : ℕ} → Ranged s own left at (judgement.refused number place)

module _ (s : List ℕ) (own left : ℕ) (standing : Standing) (at : ℕ) where
  abbrev Of : ℕ → ℕ → List ℕ → Type 0
  Of kind past fields = Past s left at past → bad_call own (of kind fields) ≡ false → Ranged s own left at (found_of (found (of kind fields) past))

  row : (kind : ℕ) (ranges : List Range) → 1 ≤ length ranges →
      ((fields : List ℕ) → in_ranges ranges fields ≡ true → Of kind (at + length_of (length ranges)) fields) →
      Row s (construct_as own left standing) at (λ j. Ranged s own left at (found_of j)) kind ranges
  row kind ranges some sorts fields inside room keeps =
      let l = length-drop at s in
      sorts fields inside (record { deep = keeps.1; past = omega arith; inside = omega arith }) keeps.0

  pub ranged : Ranged s own left at (found_of (judged s (construct_as own left standing) at))
  ranged = by_judgement s (construct_as own left standing) at (λ j. Ranged s own left at (found_of j)) (λ _. refused) (
      row 2 _ (omega arith) (one_field (Of 2 _) _ (λ a _ high p _. a_primitive p high))
      & row 3 _ (omega arith) (one_field (Of 3 _) _ (λ a _ high p _. a_sequence p high))
      & row 4 _ (omega arith) (one_field (Of 4 _) _ (λ a low high p _. an_alternative p low high))
      & row 5 _ (omega arith) (two_fields (Of 5 _) _ _ (λ a b _ high _ _ p _. a_head_loop p high))
      & row 6 _ (omega arith) (two_fields (Of 6 _) _ _ (λ a b low high _ _ p _. a_tail_loop p low high))
      & row 7 _ (omega arith) (one_field (Of 7 _) _ (λ a _ high p _. a_timed_loop p high))
      & row 8 _ (omega arith) (one_field (Of 8 _) _ (λ a _ _ p h.
      let (named, before) = pick_false (eqb a 0) (leb own a) h in a_call p (pos_of_ne-zero (eqb-false a 0 named)) (leb-false own a before)))
      & row 9 _ (omega arith) (two_fields (Of 9 _) _ _ (λ a b _ high _ most p _. a_marker p high most))
      & tt)

-- what is found where a leaf is read
abbrev FoundAs : Reading Found → Option (Leaf × Cursor) → Type 0
FoundAs f None = Unit {0}
FoundAs f (Some (leaf.Primitive cost, next)) = f ≡ found (found.Primitive cost) next.at
FoundAs f (Some (leaf.Call number, next)) = f ≡ found (found.Call number) next.at
FoundAs f (Some (leaf.Marker limit cost, next)) = f ≡ found (found.Marker limit cost) next.at

leaf_found : (f : Reading Found) → FoundAs f (leaf_of f)
leaf_found (found (found.Primitive cost) next) = refl
leaf_found (found (found.Sequence n) next) = tt
leaf_found (found (found.Alternative n) next) = tt
leaf_found (found (found.HeadLoop count scope) next) = tt
leaf_found (found (found.TailLoop count scope) next) = tt
leaf_found (found (found.TimedLoop time) next) = tt
leaf_found (found (found.Call number) next) = refl
leaf_found (found (found.Marker limit cost) next) = refl
leaf_found (judgement.refused number place) = tt

pub leaf_primitive : (f : Reading Found) {cost : ℕ} {next : Cursor} → leaf_of f ≡ Some (leaf.Primitive cost, next) → f ≡ found (found.Primitive cost) next.at
leaf_primitive f e = subst (FoundAs f) e (leaf_found f)

pub leaf_call : (f : Reading Found) {number : ℕ} {next : Cursor} → leaf_of f ≡ Some (leaf.Call number, next) → f ≡ found (found.Call number) next.at
leaf_call f e = subst (FoundAs f) e (leaf_found f)

pub leaf_marker : (f : Reading Found) {limit cost : ℕ} {next : Cursor} → leaf_of f ≡ Some (leaf.Marker limit cost, next) →
    f ≡ found (found.Marker limit cost) next.at
leaf_marker f e = subst (FoundAs f) e (leaf_found f)
