-- Demand 3, first half: no allowed run takes more than the value.
use Prim.Native.Nat.{ℕ, suc, ◌+◌, ◌*◌, ◌-◌, ◌≤◌}
use mathlib.Core.Path.{◌≡◌}
use mathlib.Core.List.{List, [], ◌∷◌, ◌++◌}
use mathlib.Core.Logic.{inl}
use mathlib.Core.Option.{Option, some, none}
use native.Mathlib.Omega.{arith}
use native.Mathlib.Nat.{mul-le-mul_right, le_trans}
use Rattle.meaning.specs.Tree.{Loop, Marker, Construct, Constructs, Routine, Sheet, mark, seen_outside}
use Rattle.meaning.specs.Value.{Marked, Charge, total, times, marked, larger, charged, evaluation, rounds, Known}
use Rattle.meaning.specs.Value.{value, sum, largest, marked_in, charges, charges_in, bound, knowing, bounds, bound_at}
use Rattle.runs.specs.Run.{Tally, never, once, ◌⊕◌, limits, Entry, handed, scope, World, Never, Run}
use Rattle.runs.specs.Run.{Runs, Taken, Rounds, Again, Tested, Takes, takes, joined, allowed, RoutineTakes}
use Rattle.runs.specs.Run.{act, pass, children, choose, head, tail, wait, timeout, enter}
use Rattle.runs.specs.Run.{done, next, this, other, without, overrun, stop, again, tested}
use Rattle.runs.proofs.Tallies.{excess_of, all_branches, all_limits, all_passes, Paired, pair, pairs, Fits}
use Rattle.runs.proofs.Tallies.{fit, fits, paired_append, fits_append, branches_append, passes_append, excess_append}
use Rattle.runs.proofs.Tallies.{fits_paired, branches_times, times_paired, excess_never, passes_never}
use Rattle.runs.proofs.Tallies.{paired_never, fits_never, excess_add, fits_add, fits_more}
use Rattle.runs.proofs.Pays.{total_most}
use Rattle.runs.proofs.Counted.{marked_counted, own_counted, counted, counted_in_lem}
use Rattle.runs.proofs.Routines.{Along, none', along_end, along_at}

-- n cycles are at most v and what the passes of the tally cost beyond it; the tally fits
record Covered (n v : ℕ) (t : Tally) (as' : List Charge) : Type 0 where
  most : n ≤ v + excess_of t (all_branches as')
  place : Fits t as'

-- a part that holds no marker of a scope around it
bare : {n v : ℕ} → n ≤ v → Covered n v [] []
bare h = record { most = omega arith; place = fit }

at_most : {n v : ℕ} {as' : List Charge} → Covered n v [] as' → n ≤ v
at_most s = let a = s.most in omega arith

-- one part after another; a part after one of x cycles that counts for no scope
and_then : {n x y v w : ℕ} {t p q : Tally} {as' bs : List Charge} → Covered x v p as' → Covered y w q bs → n ≡ x + y → t ≡ p ++ q →
    Covered n (v + w) t (as' ++ bs)
and_then {q = q} {as' = as'} {bs = bs} r s e e' = rw e' (record {
  most = rw (branches_append as' bs, excess_append q (all_branches bs) (fits_paired r.place)) (let a = r.most in let b = s.most in omega arith);
  place = fits_append r.place s.place;
})

after : {n x y v w : ℕ} {t : Tally} {as' : List Charge} → x ≤ v → Covered y w t as' → n ≡ x + y → Covered n (v + w) t as'
after h s e = record { most = (let b = s.most in omega arith); place = s.place }

-- one branch of several, against the largest plain one: t is of the markers of the branches, u of those inside them
record OneOf (n plain : ℕ) (t u : Tally) (ms : List Marked) (as' : List Charge) : Type 0 where
  most : n ≤ plain + excess_of t ms + excess_of u (all_branches as')
  paired : Paired t ms
  few : all_passes t ≤ 1
  place : Fits u as'

one_of : {n plain : ℕ} {t u v : Tally} {ms : List Marked} {as' : List Charge} → OneOf n plain u v ms as' → t ≡ u ++ v →
    Covered n plain t (record { product = 1; branches = ms } ∷ as')
one_of {v = v} {as' = as'} r e = record {
  most = rw (e, excess_append v (all_branches as') r.paired) (let a = r.most in omega arith);
  place = fits r.paired r.few r.place e;
}

-- a first branch and the others, of which one is taken
beside : {n plain : ℕ} {t t' u u' : Tally} {ms ms' : List Marked} {as' bs : List Charge} → Paired t ms → Paired t' ms' → Fits u as' → Fits u' bs →
    all_passes t + all_passes t' ≤ 1 → n ≤ plain + (excess_of t ms + excess_of t' ms') + (excess_of u (all_branches as') + excess_of u' (all_branches bs)) →
    OneOf n plain (t ++ t') (u ++ u') (ms ++ ms') (as' ++ bs)
beside {t = t} {t' = t'} {u' = u'} {ms' = ms'} {as' = as'} {bs = bs} f g p q few h = record {
  most = rw (excess_append t' ms' f, branches_append as' bs, excess_append u' (all_branches bs) (fits_paired p)) h;
  paired = paired_append f g;
  few = rw (passes_append t t') few;
  place = fits_append p q;
}

-- the marker of a branch that is taken, and the branch's cost against the largest plain one
paired_once : (o : Option Marker) (excess : ℕ) → Paired (once o) (marked o excess)
paired_once none excess = pair
paired_once (some m) excess = pairs pair

passes_once : (o : Option Marker) → all_passes (once o) ≤ 1
passes_once none = omega arith
passes_once (some m) = omega arith

excess_once : (o : Option Marker) (v others plain : ℕ) → larger o v others ≤ plain → v ≤ plain + excess_of (once o) (marked o (v - plain))
excess_once none v others plain h = omega arith
excess_once (some m) v others plain h = omega arith

larger_others : (o : Option Marker) (v others : ℕ) → others ≤ larger o v others
larger_others none v others = omega arith
larger_others (some m) v others = omega arith

-- the first branch is taken; another is
taken_this : (o : Option Marker) (v plain others n : ℕ) (t : Tally) (ms : List Marked) (as' bs : List Charge) → Covered n v t as' →
    larger o v others ≤ plain →
    OneOf n plain (once o ++ never (all_limits ms)) (t ++ never (all_limits (all_branches bs))) (marked o (v - plain) ++ ms) (as' ++ bs)
taken_this o v plain others n t ms as' bs r h =
    beside (paired_once o (v - plain)) (paired_never ms) r.place (fits_never bs) (omega (arith, passes_once o, passes_never (all_limits ms)))
    (let a = r.most in omega (arith, excess_once o v others plain h, excess_never (all_limits ms) ms, excess_never (all_limits (all_branches bs)) (all_branches bs)))

taken_other : (o : Option Marker) (excess n plain : ℕ) (t u : Tally) (ms : List Marked) (as' bs : List Charge) → OneOf n plain t u ms bs →
    OneOf n plain (never (all_limits (marked o excess)) ++ t) (never (all_limits (all_branches as')) ++ u) (marked o excess ++ ms) (as' ++ bs)
taken_other o excess n plain t u ms as' bs r =
    let ls = all_limits (marked o excess) in
    beside (paired_never (marked o excess)) r.paired (fits_never as') r.place (let a = r.few in omega (arith, passes_never ls))
    (let a = r.most in omega (arith, excess_never ls (marked o excess), excess_never (all_limits (all_branches as')) (all_branches as')))

-- k rounds of v cycles each
record Repeated (n k v : ℕ) (t : Tally) (as' : List Charge) : Type 0 where
  most : n ≤ k * v + excess_of t (all_branches as')
  place : Fits t (times k as')

no_round : (v : ℕ) {t : Tally} (as' : List Charge) → t ≡ never (all_limits (all_branches as')) → Repeated 0 0 v t as'
no_round v as' e = rw e (record { most = omega arith; place = rw (branches_times 0 as') at (fits_never (times 0 as')) })

one_more : {n k x y z v w : ℕ} {t p q : Tally} {as' : List Charge} → Covered x v p as' → y ≤ w → Repeated z k (v + w) q as' → n ≡ x + y + z →
    t ≡ p ⊕ q → Repeated n (suc k) (v + w) t as'
one_more {k = k} {as' = as'} r h a e e' = rw e' (record {
  most = rw (excess_add (fits_paired r.place) (times_paired k as' a.place)) (let f = r.most in let g = a.most in omega arith);
  place = fits_add k r.place a.place;
})

-- one entry of a loop: a scope charges for the passes, another loop hands them on
entered : {l : Loop} {b : Construct} {t u : Tally} (as' : List Charge) → all_limits (all_branches as') ≡ limits b → Fits t (times l.count as') →
    Entry l b t u → Covered (excess_of t (all_branches as')) (charged l.scope (times l.count as')) u (seen_outside l.scope (times l.count as'))
entered {l} as' e f (handed s) = rw s (record { most = rw (branches_times l.count as') (omega arith); place = f })
entered {l} {b} {t} as' e f (scope s w) =
    let charge = times l.count as' in
    let h : excess_of t (all_branches charge) ≤ total charge = total_most charge f (rw (branches_times l.count as', e) w) in
    rw s (bare (rw (branches_times l.count as') at h))

-- a whole loop: at most count rounds, and at most w cycles of overrun
looped : {l : Loop} {b : Construct} {n x y k v w : ℕ} {t u : Tally} {as' : List Charge} → Repeated x k v u as' → k ≤ l.count →
    all_limits (all_branches as') ≡ limits b → Entry l b u t → y ≤ w → n ≡ x + y →
    Covered n (l.count * v + w + charged l.scope (times l.count as')) t (seen_outside l.scope (times l.count as'))
looped {v = v} {as' = as'} a h e en h' e' =
    let r = entered as' e (fits_more as' h a.place) en in
    record { most = (let f = a.most in let g = r.most in let m = mul-le-mul_right v h in omega arith); place = r.place }

-- every run of a routine takes at most its bound
abbrev AtMost : (ℕ → Type 0) → ℕ → Type 0
AtMost P v = (n : ℕ) → P n → n ≤ v

no_run : AtMost Never 0
no_run n h = absurd h

module _ (world : World) (known : Known) (earlier : Along AtMost world.earlier known.bounds) where
  -- the value of a construct covers every run of it
  mutual
    unfolding value

    covered : {c : Construct} {n : ℕ} {t : Tally} → Run world c n t → Covered n (value known c) t (charges known c)
    covered (act e) = bare (omega arith)
    covered (pass e) = bare (omega arith)
    covered (children r) = covered_in r
    covered (choose {bs = bs} r s e e') = after (at_most (covered r)) (one_of (covered_taken s (largest known bs) (omega arith)) e') e
    covered (head {x = x} {y = y} r s z e) = after (let a = at_most (covered r) in let b = covered_test s in omega arith) (covered_rounds z) e
    covered (tail z) = covered_rounds z
    covered (wait h) = bare (omega arith)
    covered (timeout h r e) = bare (let a = at_most (covered r) in omega arith)
    covered (enter {k = k} {n = n} h) = bare (along_at earlier k.routine (inl no_run) n h)

    covered_in : {cs : Constructs} {n : ℕ} {t : Tally} → Runs world cs n t → Covered n (sum known cs) t (charges_in known cs)
    covered_in done = bare (omega arith)
    covered_in (next r s e e') = and_then (covered r) (covered_in s) e e'

    covered_taken : {bs : Constructs} {n : ℕ} {t u : Tally} → Taken world bs n t u → (plain : ℕ) → largest known bs ≤ plain →
        OneOf n plain t u (marked_in known plain bs) (charges_in known bs)
    covered_taken (this {b = b} {bs = bs} {n = n} {v = v} r e e') plain h =
        rw (e, e', ← own_counted known plain bs, ← counted_in_lem known bs)
        (taken_this (mark b) (value known b) plain (largest known bs) n v (marked_in known plain bs) (charges known b) (charges_in known bs) (covered r) h)
    covered_taken (other {b = b} {bs = bs} {n = n} {v = v} {w = w} s e e') plain h =
        rw (e, e', ← marked_counted (mark b) (value known b - plain), ← counted known b)
        (taken_other (mark b) (value known b - plain) n plain v w (marked_in known plain bs) (charges known b) (charges_in known bs)
        (covered_taken s plain (le_trans (larger_others (mark b) (value known b) (largest known bs)) h)))

    covered_rounds : {l : Loop} {b c o : Construct} {least n : ℕ} {t : Tally} → Rounds world l b c o least n t →
        Covered n (rounds l (value known b) (value known c) (value known o) (charges known b)) t (seen_outside l.scope (times l.count (charges known b)))
    covered_rounds (without {b = b} h h' a e) = looped {y = 0} (covered_again a) (omega arith) (counted known b) e (omega arith) (omega arith)
    covered_rounds (overrun {b = b} h a e r e') = looped (covered_again a) (omega arith) (counted known b) e (at_most (covered r)) e'

    covered_again : {l : Loop} {b c : Construct} {k n : ℕ} {t : Tally} → Again world l b c k n t →
        Repeated n k (value known b + evaluation l (value known c)) t (charges known b)
    covered_again (stop {l = l} {b = b} {c = c} e) = no_round (value known b + evaluation l (value known c)) (charges known b) (rw (counted known b) e)
    covered_again (again r s a e e') = one_more (covered r) (covered_test s) (covered_again a) e e'

    covered_test : {l : Loop} {c : Construct} {n : ℕ} → Tested world l c n → n ≤ evaluation l (value known c)
    covered_test (tested r) = at_most (covered r)

-- of a routine, and of the routines of a sheet, also through calls
sound_routine : (world : World) (known : Known) → Along AtMost world.earlier known.bounds → (r : Routine) → AtMost (Takes world r) (bound known r)
unfolding bound
sound_routine world known earlier r n (takes e s) = let a = at_most (covered world known earlier s) in omega arith

sound_routines : {world : World} {known : Known} (rs : List Routine) → Along AtMost world.earlier known.bounds →
    Along AtMost (allowed world rs).earlier (bounds known rs).bounds
unfolding allowed bounds
sound_routines [] a = a
sound_routines {world = world} {known = known} (r ∷ rs) a =
    sound_routines {world = joined world (Takes world r)} {known = knowing known (bound known r)} rs (along_end a (sound_routine world known a r))

pub sheet_sound : (s : Sheet) (number n : ℕ) → RoutineTakes s number n → n ≤ bound_at s number
sheet_sound s number = along_at (sound_routines s.routines none') number (inl no_run)
