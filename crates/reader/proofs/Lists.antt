-- Laws of what the readers of lists come to, child by child.
use Prim.Native.Nat.{ℕ, suc, ◌+◌, ◌-◌, ◌≤◌, ◌<◌}
use mathlib.Core.Path.{◌≡◌}
use mathlib.Core.List.{List}
use lib.ListN.{length}
use native.Mathlib.Omega.{arith}
use Rattle.records.specs.declared.Cursor.{Cursor}
use Rattle.reader.specs.Tallies.{Share, Done, Refused, Tally, charges_of, with_of, kept_of, close_of}
use Rattle.reader.specs.Reader.{on_parsed, Owner, ChildReader, child_of, list_of}

-- a list from its ith construct on
module _ (read : ChildReader) (o : Owner) (n i : ℕ) (c : Cursor) (t : Tally) (marks : List ℕ) where
  list_step : i < n →
      list_of read o (n - i) i c t marks
      ≡ on_parsed (child_of read o i (length marks) c) Refused (λ value over added mark constructs next.
      list_of read o (n - (i + 1)) (i + 1) next (with_of o.kind o.first i t value over added mark constructs) (kept_of o.kind i value mark marks))
  unfolding list_of
  list_step h = let e : n - i ≡ suc (n - (i + 1)) = omega arith in rw e

  pub list_refused : {number place : ℕ} → i < n → child_of read o i (length marks) c ≡ Refused number place →
      list_of read o (n - i) i c t marks ≡ Refused number place
  list_refused h e = rw (list_step h, e)

  pub list_done : {p : Share} → i < n → child_of read o i (length marks) c ≡ Done p →
      list_of read o (n - i) i c t marks
      ≡ list_of read o (n - (i + 1)) (i + 1) p.next
      (with_of o.kind o.first i t p.value p.over p.added p.mark p.constructs) (kept_of o.kind i p.value p.mark marks)
  list_done h e = rw (list_step h, e)

  pub list_end : n ≤ i →
      list_of read o (n - i) i c t marks
      ≡ close_of o.kind o.first o.scope t (charges_of o.product t.top 0 marks) o.start c
  unfolding list_of
  list_end h = let e : n - i ≡ 0 = omega arith in rw e
