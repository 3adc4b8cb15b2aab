-- Texts put on a page one after the other.
use Prim.Native.Nat.{ℕ, suc, ◌+◌, ◌≤◌, ◌<◌}
use mathlib.Core.Path.{◌≡◌, refl, ◌∙◌}
use mathlib.Core.List.{List, [], ◌∷◌, ◌++◌, append_assoc, append-nil}
use lib.ListN.{length, get_or, take, length-append}
use lib.Seq.{length-take-le}
use native.Mathlib.Omega.{arith}
use native.Mathlib.Nat.{add-zero, le_of_lt}
use Rattle.std.proofs.lemmas.List.{take_more}
use Rattle.std.proofs.lemmas.List.Edits.{paste-paste}
use Rattle.lines.specs.declared.Page.{Page}
use Rattle.lines.specs.Output.{routine_line, routine_lines}
use Rattle.lines.specs.Page.{Put}

-- two texts are put as one
pub then : {old mid new : Page} (a b : List ℕ) → old.at ≤ length old.bytes.now → Put old mid a → Put mid new b → Put old new (a ++ b)
then {old} {mid} {new} a b h p q =
    let long = length-append a b in
    record {
      same_page = q.same_page ∙ p.same_page;
      room = q.room ∙ p.room;
      at = omega arith;
      bytes = q.bytes ∙ rw (p.bytes, p.at, long) (paste-paste old.bytes.now old.at a b (length a) (length b) refl refl h);
    }

-- one routine line more
lines_snoc : (number : ℕ) (bounds : List ℕ) (b : ℕ) →
    routine_lines number (bounds ++ (b ∷ [])) ≡ routine_lines number bounds ++ routine_line (number + length bounds) b
lines_snoc number [] b = rw (append-nil (routine_line number b), add-zero number)
lines_snoc number (x ∷ bounds) b =
    let e : number + suc (length bounds) ≡ number + 1 + length bounds = omega arith in
    rw (
      lines_snoc (number + 1) bounds b,
      e,
      append_assoc (routine_line number x) (routine_lines (number + 1) bounds) (routine_line (number + 1 + length bounds) b),
    )

pub lines_more : (number : ℕ) (table : List ℕ) (i : ℕ) → i < length table →
    routine_lines number (take (i + 1) table) ≡ routine_lines number (take i table) ++ routine_line (number + i) (get_or table i 0)
lines_more number table i h =
    rw (take_more table i 0 h) (rw (length-take-le i table (le_of_lt h)) at (lines_snoc number (take i table) (get_or table i 0)))
