-- A run's tally has a place for each marker. So where no scope reaches it is [], and to ask for [] there excludes no run.
use Prim.Native.Nat.{ℕ}
use mathlib.Core.Path.{◌≡◌, refl, ap, ◌∙◌}
use mathlib.Core.Bool.{Bool, true, false}
use mathlib.Core.List.{List, [], ◌∷◌}
use mathlib.Core.Option.{Option, some, none}
use lib.ListN.{length, length-append}
use native.Mathlib.Omega.{arith}
use Rattle.meaning.specs.Tree.{Loop, Marker, Construct, Constructs, itself, leading, mark, seen_outside}
use Rattle.meaning.specs.Tree.{primitive, sequence, alternative, head_loop, tail_loop, timed_loop, call, marker, end, ◌then◌}
use Rattle.meaning.specs.Format.{pick}
use Rattle.meaning.specs.Legal.{Reach, as_body, Legal, Legals}
use Rattle.runs.specs.Run.{Tally, never, once, ◌⊕◌, limit_of, own, limits, limits_in, Entry}
use Rattle.runs.specs.Run.{handed, scope, World, Run, Runs, Taken, Rounds, Again}
use Rattle.runs.specs.Run.{act, pass, children, choose, head, tail, wait, timeout, enter}
use Rattle.runs.specs.Run.{done, next, this, other, without, overrun, stop, again}

-- a legal construct that no scope reaches is no marker; nor is it a marked branch
no_marker : (before depth : ℕ) (r : Reach) (c : Construct) → r.scope ≡ false → Legal before depth r c → itself c ≡ none
no_marker before depth r (primitive p) e h = refl
no_marker before depth r (sequence cs) e h = refl
no_marker before depth r (alternative c bs) e h = refl
no_marker before depth r (head_loop l i c b o) e h = refl
no_marker before depth r (tail_loop l b c o) e h = refl
no_marker before depth r (timed_loop w o) e h = refl
no_marker before depth r (call k) e h = refl
no_marker before depth r (marker m) e h = let clash : false ≡ true = rw e at h.1 in cc

no_leading : (before depth : ℕ) (f r : Reach) (cs : Constructs) → f.scope ≡ false → Legals before depth f r cs → leading cs ≡ none
no_leading before depth f r end e h = refl
no_leading before depth f r (c then cs) e h = no_marker before depth f c e h.0

unmarked : (before depth : ℕ) (r : Reach) (b : Construct) → r.scope ≡ false → Legal before depth r b → mark b ≡ none
unmarked before depth r (primitive p) e h = refl
unmarked before depth r (sequence cs) e h = no_leading before _ _ _ cs e h.1
unmarked before depth r (alternative c bs) e h = refl
unmarked before depth r (head_loop l i c b o) e h = refl
unmarked before depth r (tail_loop l b c o) e h = refl
unmarked before depth r (timed_loop w o) e h = refl
unmarked before depth r (call k) e h = refl
unmarked before depth r (marker m) e h = refl

no_own : (before depth : ℕ) (r : Reach) (bs : Constructs) → r.scope ≡ false → Legals before depth r r bs → own bs ≡ []
no_own before depth r end e h = refl
no_own before depth r (b then bs) e h = rw (unmarked before depth r b e h.0, no_own before depth r bs e h.1)

-- nor does it hold a marker of a scope around it
none_outside : (before depth : ℕ) (s : Bool) (r : Reach) (b : Construct) → r.scope ≡ false → Legal before depth (as_body s r) b →
    ((r' : Reach) → r'.scope ≡ false → Legal before depth r' b → limits b ≡ []) → seen_outside s (limits b) ≡ []
none_outside before depth true r b e h f = refl
none_outside before depth false r b e h f = f (as_body false r) (either r.alternative) h
  where
    either : (inside : Bool) → pick inside false r.scope ≡ false
    either true = refl
    either false = e

mutual
  unfolding limits

  pub free : (before depth : ℕ) (r : Reach) (c : Construct) → r.scope ≡ false → Legal before depth r c → limits c ≡ []
  free before depth r (primitive p) e h = refl
  free before depth r (sequence cs) e h = free_in before _ _ _ cs e e h.1
  free before depth r (alternative c bs) e h = rw (no_own before _ _ bs e h.2, free_in before _ _ _ bs e e h.2)
  free before depth r (head_loop l i c b o) e h = none_outside before _ l.scope r b e h.3 (λ r'. free before _ r' b)
  free before depth r (tail_loop l b c o) e h = none_outside before _ l.scope r b e h.1 (λ r'. free before _ r' b)
  free before depth r (timed_loop w o) e h = refl
  free before depth r (call k) e h = refl
  free before depth r (marker m) e h = refl

  free_in : (before depth : ℕ) (f r : Reach) (cs : Constructs) → f.scope ≡ false → r.scope ≡ false → Legals before depth f r cs → limits_in cs ≡ []
  free_in before depth f r end e e' h = refl
  free_in before depth f r (c then cs) e e' h = rw (free before depth f c e h.0, free_in before depth r r cs e' e' h.1)

-- the tallies that runs are made of have a place for each marker
length_never : (ls : List ℕ) → length (never ls) ≡ length ls
unfolding never
length_never [] = refl
length_never (l ∷ ls) = let e = length_never ls in omega arith

length_once : (o : Option Marker) → length (once o) ≡ length (limit_of o)
length_once none = refl
length_once (some m) = refl

length_add : (t u : Tally) (n : ℕ) → length t ≡ n → length u ≡ n → length (t ⊕ u) ≡ n
unfolding ◌⊕◌
length_add [] u n e e' = e'
length_add (t ∷ ts) [] n e e' = e
length_add (t ∷ ts) (u ∷ us) n e e' = let f = length_add ts us (length ts) refl (omega arith) in omega arith

shape_entry : {l : Loop} {b : Construct} {t u : Tally} → Entry l b t u → length t ≡ length (limits b) →
    length u ≡ length (seen_outside l.scope (limits b))
shape_entry (handed s) e = rw s e
shape_entry (scope s w) e = rw s

module _ (world : World) where
  mutual
    unfolding limits

    shape : {c : Construct} {n : ℕ} {t : Tally} → Run world c n t → length t ≡ length (limits c)
    shape (act e) = refl
    shape (pass e) = refl
    shape (children r) = shape_in r
    shape (choose {bs = bs} {u = u} {v = v} r s e e') = let (a, b) = shape_taken s in rw e' (simp length-append (omega arith))
    shape (head r s z e) = shape_rounds z
    shape (tail z) = shape_rounds z
    shape (wait h) = refl
    shape (timeout h r e) = refl
    shape (enter h) = refl

    shape_in : {cs : Constructs} {n : ℕ} {t : Tally} → Runs world cs n t → length t ≡ length (limits_in cs)
    shape_in done = refl
    shape_in (next r s e e') = let a = shape r in let b = shape_in s in rw e' (simp length-append (omega arith))

    shape_taken : {bs : Constructs} {n : ℕ} {t u : Tally} → Taken world bs n t u → (length t ≡ length (own bs)) × (length u ≡ length (limits_in bs))
    shape_taken (this {b = b} {bs = bs} r e e') =
        let a = shape r in
        (rw e (simp (length-append, length_once, length_never) (omega arith)), rw e' (simp (length-append, length_never) (omega arith)))
    shape_taken (other {b = b} {bs = bs} s e e') =
        let (a, a') = shape_taken s in
        (rw e (simp (length-append, length_never) (omega arith)), rw e' (simp (length-append, length_never) (omega arith)))

    shape_rounds : {l : Loop} {b c o : Construct} {least n : ℕ} {t : Tally} → Rounds world l b c o least n t →
        length t ≡ length (seen_outside l.scope (limits b))
    shape_rounds (without h h' a e) = shape_entry e (shape_again a)
    shape_rounds (overrun h a e r e') = shape_entry e (shape_again a)

    shape_again : {l : Loop} {b c : Construct} {k n : ℕ} {t : Tally} → Again world l b c k n t → length t ≡ length (limits b)
    shape_again (stop {b = b} e) = rw e (length_never (limits b))
    shape_again (again {b = b} {u = u} {v = v} r s a e e') = rw e' (length_add u v (length (limits b)) (shape r) (shape_again a))

none_left : (t : Tally) → length t ≡ 0 → t ≡ []
none_left [] e = refl
none_left (x ∷ xs) e = absurd (omega arith)

pub unreached : (world : World) (before depth : ℕ) (r : Reach) (c : Construct) (n : ℕ) (t : Tally) → r.scope ≡ false → Legal before depth r c →
    Run world c n t → t ≡ []
unreached world before depth r c n t e h run = none_left t (shape world run ∙ ap length (free before depth r c e h))
