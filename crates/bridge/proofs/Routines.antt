-- A routine is read by the code as by the judgement: as the timed loop of its organisation and its body.
use Prim.Native.Nat.{ℕ, ◌+◌}
use mathlib.Core.Path.{◌≡◌, refl, sym, ap, ◌∙◌}
use mathlib.Core.Bool.{false}
use mathlib.Core.List.{List, []}
use native.Mathlib.Omega.{arith}
use Rattle.meaning.specs.Tree.{Routine}
use Rattle.meaning.specs.Format.{Record, field, words, record_bytes, routine_bytes}
use Rattle.meaning.specs.Legal.{nowhere}
use Rattle.meaning.specs.Value.{Known}
use Rattle.meaning.specs.Judgement.{Reading, Reader, found, and_then, routine, timed_loop_at, construct_at, routine_at}
use Rattle.meaning.specs.Answer.{past_record}
use Rattle.demands.proofs.Found.{Found, not_read, was_read, found_then}
use Rattle.demands.proofs.Records.{Judged, judged_good, routine_is}
use Rattle.demands.proofs.Limit.{NoneOverLimit}
use Rattle.demands.proofs.Good.{good}
use Rattle.records.specs.declared.Cursor.{Cursor}
use Rattle.records.specs.declared.standings.Standing.TheVariants.{Outside}
use Rattle.records.specs.Records.{read_as, as_routine}
use Rattle.reader.specs.Tallies.{Refused, no_tally}
use Rattle.reader.specs.Reader.{on_reading, owner_of, list_of, construct_of, routine_of}
use Rattle.bridge.proofs.Agree.{Same, both_refused, Finds}
use Rattle.bridge.proofs.Readers.{then_assoc, past_record_lem}
use Rattle.bridge.proofs.Loops.{timed_loop_law}
use Rattle.bridge.proofs.Constructs.{construct_law}
use Rattle.bridge.proofs.More.{as_loop, Long}

-- the place past a routine's record, and past the routine
past_routine : {s : List ℕ} {at next : ℕ} {x : Record} → Judged s routine at x next → next ≡ at + 8
past_routine {at = at} {x = x} j = past_record_lem j ∙ ap (past_record at) (sym (routine_is x j.kind j.range))

module _ (s : List ℕ) (before own : ℕ) (number : own ≡ before + 1) where
  pub routine_long : (at : ℕ) → Found (Long at) (routine_at s own at)
  unfolding routine_at routine_bytes record_bytes words
  routine_long at =
      found_then (judged_good s routine at) (λ x next j.
      found_then (good s before own number 1 24 refl nowhere false next) (λ c past y.
      let r : Routine = record { organisation = field x 0; body = c } in
      let first = past_routine j in
      let rest = y.span.long in
      was_read {a = r} (omega arith)))

  module _ (known : Known) (bounds : List ℕ) (finds : Finds known bounds before) (small : NoneOverLimit bounds) where
    -- what follows the record, as the judgement reads it
    abbrev body : Record → Reader Routine
    body x next = and_then (construct_at 24 s own nowhere false next) (λ c past. found (record { organisation = field x 0; body = c }) past)

    read_routine : (at : ℕ) {j : Reading Record} → Found (Judged s routine at) j →
        Same known 0 at (on_reading (read_as as_routine j) Refused (λ r next.
        list_of (construct_of 24 s bounds own) (owner_of 7 r.organisation false at Outside 0) 1 0 next no_tally []))
        (and_then (and_then j body) (λ r. found (as_loop r)))
    unfolding timed_loop_at
    read_routine at (not_read n) = both_refused
    read_routine at (was_read {a = x} j) =
        rw (past_routine j, then_assoc) (timed_loop_law known s before own number 1 (construct_of 24 s bounds own) (construct_at 24 s own)
        (construct_law known s bounds before own number finds small 1 24 refl) (good s before own number 1 24 refl) (field x 0) 0 0 at Outside)

    pub routine_law : (c : Cursor) → Same known 0 c.at (routine_of s bounds own c) (and_then (routine_at s own c.at) (λ r. found (as_loop r)))
    unfolding routine_of routine_at
    routine_law c = read_routine c.at (judged_good s routine c.at)
