-- Reading accepts exactly the bytes of sheets that are legal, at most 60,000 bytes long and without a value over the limit.
use Prim.Native.Nat.{ℕ, ◌≤◌}
use mathlib.Core.Path.{◌≡◌, ap, subst, ◌∙◌}
use mathlib.Core.Logic.{◌↔◌}
use mathlib.Core.List.{List}
use lib.ListN.{length}
use Rattle.meaning.specs.Tree.{Sheet}
use Rattle.meaning.specs.Format.{bytes_of}
use Rattle.meaning.specs.Legal.{LegalSheet}
use Rattle.meaning.specs.Judgement.{sheet_at}
use Rattle.meaning.specs.Answer.{accepted, outcome}
use Rattle.demands.proofs.Found.{Found, found_at}
use Rattle.demands.proofs.Span.{AreBytes}
use Rattle.demands.proofs.Sheets.{GoodSheet, good_sheet}
use Rattle.demands.proofs.Back.{read_back}
use Rattle.demands.proofs.Limit.{SmallSheet}
use Rattle.demands.proofs.Outcome.{accepted_is}

-- what is accepted is legal, and is its own bytes
pub accepted_good : (s : List ℕ) (t : Sheet) (e : outcome s ≡ accepted t) → GoodSheet s t ((accepted_is s t).0 e).past
accepted_good s t e = found_at (subst (Found (GoodSheet s)) ((accepted_is s t).0 e).read (good_sheet s))

pub round_trip : (s : List ℕ) → AreBytes s → (t : Sheet) → (outcome s ≡ accepted t) ↔ ((s ≡ bytes_of t) × LegalSheet t × (length s ≤ 60000) × SmallSheet t)
round_trip s are t = (to, from)
  where
    to : outcome s ≡ accepted t → (s ≡ bytes_of t) × LegalSheet t × (length s ≤ 60000) × SmallSheet t
    to e = let a = (accepted_is s t).0 e in let g = accepted_good s t e in (g.same are, g.legal, a.short, a.small)

    from : (s ≡ bytes_of t) × LegalSheet t × (length s ≤ 60000) × SmallSheet t → outcome s ≡ accepted t
    from (e, legal, short, small) =
        let read = ap (λ z. sheet_at z 0) e ∙ read_back t legal in
        (accepted_is s t).1 (record { short = short; past = length (bytes_of t); read = read; small = small })
