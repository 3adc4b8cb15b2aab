-- The list of a timed loop, and of a routine: one child, whose value and the time or the organisation add up.
use Prim.Native.Nat.{ℕ, ◌+◌, ◌≤◌}
use mathlib.Core.Path.{◌≡◌, refl, ◌∙◌}
use mathlib.Core.Bool.{false}
use mathlib.Core.List.{List}
use lib.ListN.{length, take}
use native.Mathlib.Omega.{arith}
use Rattle.std.specs.Prelude.{Ok}
use Rattle.records.specs.declared.Cursor.{Cursor}
use Rattle.records.specs.declared.standings.Standing.{Standing}
use Rattle.records.specs.declared.standings.Standing.TheVariants.{Outside}
use Rattle.reader.specs.Tallies.{Aside, Refused, counted, value_cap, value_told, aside_told, Valued}
use Rattle.reader.specs.Reader.{Owner, owner_of, ChildReader, list_from, Lent, Within}
use Rattle.reader.proofs.Laws.{no_loop}
use Rattle.reader.proofs.Tells.{told_as}
use Rattle.reader.proofs.Children.{timed_child}
use Rattle.reader.proofs.Going.{child_refused, few_valued}
use Rattle.reader.proofs.Summing.{Summing, summing_first, summing_more, summing_ends}

-- a record of kind 7
abbrev timed : ℕ → ℕ → Standing → ℕ → Owner
timed time start standing product = owner_of 7 time false start standing product

module _ (read : ChildReader) (time : ℕ) (standing : Standing) (product : ℕ) (from : Cursor) (a : Aside) {s lent : List ℕ} {held start : ℕ}
    (lends : Lent s lent a.constructs held start) (small : a.added ≤ value_cap) (within : Within s start from.at) where
  first : Summing read (timed time start standing product) s lent 1 held from a lent 0 from 0 a
  first = summing_first read (timed time start standing product) s lent 1 held from a lends.kept within small lends.valued

  pub timed_refused : {number place : ℕ} → read Outside 0 from ≡ Refused number place → list_from read (timed time start standing product) 1 from ≡ Refused number place
  timed_refused e = child_refused first.going lends.room (omega arith) (timed_child read start standing product _ from time ∙ e)

  -- its statement was read
  module _ {v : ℕ} {next : Cursor} {b : Aside} (after : List ℕ) (w : Valued (length s) from.at a (read Outside 0 from) (Ok (v, next)) b)
      (still : take held after ≡ take held lent) (long : length after ≡ length lent) where
    all : Summing read (timed time start standing product) s lent 1 held from a after (0 + v) next (0 + 1) b
    unfolding counted
    all =
        let child = told_as (timed_child read start standing product _ from time) w in
        summing_more first after child {x = v} refl lends.room (no_loop refl) (omega arith) refl still long

    pub timed_few : length s ≤ 60000 → b.constructs + 1 ≤ 7500
    timed_few short = few_valued all.going short

    pub timed_ends : Valued (length s) start a (list_from read (timed time start standing product) 1 from) (Ok (value_told (v + time), next)) (aside_told b (v + time) 1 start)
    timed_ends = summing_ends all {value = v + time} (omega arith) small refl (omega arith)
