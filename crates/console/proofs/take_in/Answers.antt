use Rattle.std.proofs.Common.{◌++◌, take, drop, sym, ap, ◌∙◌, subst, arith}
use Rattle.std.proofs.Math.Seq.{take-add}
use Rattle.std.specs.Io.KnownBytes.{Consumes}
use Rattle.std.proofs.KnownBytes.{Consumes-trans}
use Rattle.console.proofs.take_in.Goals as goal

-- what one more read gave stands behind what was read before
pub loop-count-preserved : goal.loop-count-preserved
loop-count-preserved g c =
    let before = c.loop-count.count in
    let n = c.in-Ok.n in
    let after = c.read_some.new.input in
    let joined = ap (λ l. l ++ take n (drop before after)) (sym c.read_some.ensures.front) ∙ sym (take-add before n after) in (
      omega arith,
      omega (arith, c.in-Ok.ensures.within, c.loop-count.invariant.0),
      subst (Consumes _ _) joined (Consumes-trans _ _ _ _ _ c.loop-count.invariant.2 c.in-Ok.ensures.gives.0),
    )
