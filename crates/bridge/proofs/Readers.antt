-- How a record and a child are read, by the code and by the judgement, and the rest after it.
use Prim.Native.Nat.{ℕ, ◌+◌, min}
use mathlib.Core.Path.{◌≡◌, refl, ap, ◌∙◌}
use mathlib.Core.Bool.{Bool, true}
use mathlib.Core.List.{List}
use Rattle.std.specs.Prelude.{Option}
use Rattle.meaning.specs.Tree.{Construct}
use Rattle.meaning.specs.Format.{Record}
use Rattle.meaning.specs.Legal.{Reach}
use Rattle.meaning.specs.Value.{Known}
use Rattle.meaning.specs.Judgement.{Reading, Reader, refused, found, and_then, Owed, ConstructReader}
use Rattle.meaning.specs.Answer.{past_record}
use Rattle.meaning.proofs.Laws.{length_record}
use Rattle.demands.proofs.Found.{Found, not_read, was_read}
use Rattle.demands.proofs.Records.{Judged}
use Rattle.demands.proofs.Good.{Good}
use Rattle.records.specs.declared.Cursor.{Cursor}
use Rattle.records.specs.declared.standings.Standing.{Standing}
use Rattle.reader.specs.Tallies.{Refused, Parsed, Share}
use Rattle.reader.specs.Reader.{on_parsed, ChildReader}
use Rattle.bridge.proofs.Agree.{standing_of, occurs, Agrees, Same, both_refused, read_done}

-- how children are read by the code and by the judgement, and what the judgement finds
abbrev pub Alike : Known → ChildReader → ConstructReader → Type 0
Alike known read g =
    (r : Reach) (last : Bool) (product : ℕ) (standing : Standing) (held at : ℕ) (c : Cursor) → occurs r ≡ true → standing ≡ standing_of r last →
    held ≡ min 1000000 product → c.at ≡ at → Same known product at (read standing held c) (g r last at)

abbrev pub Sure : (s : List ℕ) (before own : ℕ) → own ≡ before + 1 → ℕ → ConstructReader → Type 0
Sure s before own number depth g = (r : Reach) (last : Bool) (at : ℕ) → Found (Good s before own number depth r last at) (g r last at)

pub then_assoc : {A B C : Type 0} (x : Reading A) (f : A → Reader B) (g : B → Reader C) → and_then (and_then x f) g ≡ and_then x (λ a next. and_then (f a next) g)
then_assoc (refused number place) f g = refl
then_assoc (found a next) f g = refl

-- the place past a record that was judged good
pub past_record_lem : {s : List ℕ} {owed : Owed} {at next : ℕ} {x : Record} → Judged s owed at x next → next ≡ past_record at x
past_record_lem {at = at} {x = x} j = j.span.long ∙ ap (λ z. at + z) (length_record x)

-- one child, then the rest
pub next_child : {known : Known} {product at inner at' : ℕ} {P : Construct → ℕ → Type 0} {q : Parsed} {x : Reading Construct}
    (f : ℕ → Option ℕ → ℕ → Option ℕ → ℕ → Cursor → Parsed) (k : Construct → Reader Construct) → Same known inner at' q x → Found P x →
    ((p : Share) (c : Construct) (past : ℕ) → Agrees known inner at' c past p → P c past →
    Same known product at (f p.value p.over p.added p.mark p.constructs p.next) (k c past)) →
    Same known product at (on_parsed q Refused f) (and_then x k)
next_child f k both_refused (not_read n) h = both_refused
next_child f k (read_done a) (was_read g) h = h _ _ _ a g
