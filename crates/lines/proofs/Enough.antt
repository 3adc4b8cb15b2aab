-- The first 60,001 bytes of an input decide what is printed, so `maxt` reads no more.
use Prim.Native.Nat.{ℕ}
use mathlib.Core.Path.{◌≡◌, refl, ap}
use mathlib.Core.Bool.{Bool, true, false}
use mathlib.Core.List.{List}
use lib.Dec.{ltb}
use lib.ListN.{length, take, length-take}
use lib.Seq.{take_all}
use borrow.Author.Tests.{lt-ltb, ltb-true, ltb-false}
use native.Mathlib.Omega.{arith}
use Rattle.meaning.specs.Answer.{outcome}
use Rattle.lines.specs.Output.{output}

pub enough : (s : List ℕ) → output (take 60001 s) ≡ output s
unfolding outcome output
enough s = by_length (ltb 60000 (length s)) refl
  where
    by_length : (t : Bool) → ltb 60000 (length s) ≡ t → output (take 60001 s) ≡ output s
    by_length true e =
        let n = length-take 60001 s in
        let long = ltb-true 60000 (length s) e in
        rw (lt-ltb 60000 (length (take 60001 s)) (omega arith), e)
    by_length false e = ap output (take_all 60001 s (omega (arith, ltb-false 60000 (length s) e)))
