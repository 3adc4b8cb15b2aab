-- Document 01, "What comes back": the refusals 1 to 5 and 11, and which of two faults decides.
use Prim.Native.Nat.{ℕ}
use mathlib.Core.Path.{◌≡◌, refl}
use mathlib.Core.List.{List, [], ◌∷◌, ◌++◌, map}
use lib.ListN.{length, take, replicate}
use Rattle.meaning.specs.Format.{word, bytes}
use Rattle.meaning.specs.Judgement.{sheet_at}
use Rattle.meaning.specs.Answer.{Verdict, accepted, judgement, outcome, answer}
use Rattle.meaning.proofs.Notation.{P, S, A, H, T, W, M, C, R}
use Rattle.meaning.proofs.Rows.{Case, routines, body, rec, start, opened, large, ◌gives◌, ◌refused◌at◌, answers, stated}

-- case b: the sheet record, the routine record at 12, the body at 20, 28 bytes in all
abbrev b : List ℕ
b = routines (R 5 (P 7) ∷ [])

pub cut : List Case
cut =
    [] refused 3 at 0  -- no bytes: before the sheet record
    ∷ take 3 b refused 3 at 0  -- under four bytes of it
    ∷ take 4 b refused 3 at 0  -- the rest missing
    ∷ take 11 b refused 3 at 0  -- but for one byte
    ∷ take 12 b refused 3 at 12  -- before the owed routine record
    ∷ take 15 b refused 3 at 12  -- inside it
    ∷ take 19 b refused 3 at 12  -- but for one byte
    ∷ take 20 b refused 3 at 20  -- before the owed body
    ∷ take 27 b refused 3 at 20  -- inside it
    ∷ b gives 12  -- whole
    ∷ take 36 (body (S (P 1 ∷ P 2 ∷ []))) refused 3 at 36  -- before the second child
    ∷ take 36 (body (A (P 1) (P 2 ∷ P 3 ∷ []))) refused 3 at 36  -- before the first branch
    ∷ take 44 (body (A (P 1) (P 2 ∷ P 3 ∷ []))) refused 3 at 44  -- before the last branch
    ∷ take 56 (body (H 1 (P 1) (P 2) (P 3) (P 4))) refused 3 at 56  -- before a head loop's overrun
    ∷ take 48 (body (T 1 (P 1) (P 2) (P 3))) refused 3 at 48  -- before a tail loop's overrun
    ∷ take 28 (body (W 1 (P 1))) refused 3 at 28  -- before a timeout statement
    ∷ take 28 (routines (R 0 (P 1) ∷ R 0 (P 2) ∷ [])) refused 3 at 28  -- before the second routine
    ∷ []

pub cut_holds : answers cut ≡ stated cut
unfolding cut answers
cut_holds = refl

pub kinds : List Case
kinds =
    rec 101 (1 ∷ 1 ∷ []) refused 4 at 0  -- unknown, where the sheet record is owed
    ∷ rec 356 (1 ∷ 1 ∷ []) refused 4 at 0  -- 100 and a bit of the second byte
    ∷ rec 1 (0 ∷ []) refused 4 at 0  -- a routine there
    ∷ (rec 100 (1 ∷ 1 ∷ []) ++ rec 2 (0 ∷ [])) refused 4 at 12  -- a construct where a routine is owed
    ∷ (rec 100 (1 ∷ 1 ∷ []) ++ rec 100 (1 ∷ 1 ∷ [])) refused 4 at 12  -- a sheet there
    ∷ opened (rec 0 (0 ∷ [])) refused 4 at 20  -- unknown, where a construct is owed
    ∷ opened (rec 10 (0 ∷ [])) refused 4 at 20  -- one above the highest
    ∷ opened (rec 258 (0 ∷ [])) refused 4 at 20  -- 2 and a bit of the second byte
    ∷ opened (rec 1 (0 ∷ [])) refused 4 at 20  -- a routine there
    ∷ opened (rec 100 (1 ∷ 1 ∷ [])) refused 4 at 20  -- a sheet there
    ∷ opened (rec 3 (2 ∷ []) ++ rec 2 (1 ∷ []) ++ rec 1 (0 ∷ [])) refused 4 at 36  -- a routine where the second child is owed
    ∷ []

pub kinds_hold : answers kinds ≡ stated kinds
unfolding kinds answers
kinds_hold = refl

pub lengths : List Case
lengths =
    start 8 100 refused 5 at 0  -- the sheet record's 12 is not 8
    ∷ (rec 100 (1 ∷ 1 ∷ []) ++ start 12 1) refused 5 at 12  -- the routine record's 8 is not 12
    ∷ opened (start 7 2) refused 5 at 20  -- a construct's 8 is not 7
    ∷ opened (start 9 2) refused 5 at 20  -- nor 9
    ∷ opened (start 264 2) refused 5 at 20  -- 8 and a bit of the second byte
    ∷ opened (start 0 2) refused 5 at 20  -- nor 0
    ∷ opened (start 12 3) refused 5 at 20  -- a sequence's 8 is not 12
    ∷ opened (start 12 4) refused 5 at 20  -- an alternative's
    ∷ opened (start 8 5) refused 5 at 20  -- a head loop's 12 is not 8
    ∷ opened (start 16 6) refused 5 at 20  -- a tail loop's 12 is not 16
    ∷ opened (start 12 7) refused 5 at 20  -- a timed loop's 8 is not 12
    ∷ opened (start 12 8) refused 5 at 20  -- a call's
    ∷ opened (start 8 9) refused 5 at 20  -- a marker's 12 is not 8
    ∷ []

pub lengths_hold : answers lengths ≡ stated lengths
unfolding lengths answers
lengths_hold = refl

pub order : List Case
order =
    opened (10 ∷ 0 ∷ 99 ∷ []) refused 3 at 20  -- under four bytes is CUT before 4
    ∷ opened (start 10 99) refused 4 at 20  -- 4 before 5
    ∷ opened (start 10 2) refused 5 at 20  -- 5 before the rest missing
    ∷ opened (start 12 5 ++ word 1000001) refused 3 at 20  -- the rest missing before 6
    ∷ opened (start 8 8) refused 3 at 20  -- the rest missing before 7
    ∷ body (M 1000001 1) refused 6 at 20  -- 6 before 9; Edges has 6 before 8, 7 before 8 and 8 before 9, Markers has 9 before 10
    ∷ opened (rec 6 (0 ∷ 0 ∷ [])) refused 6 at 20  -- a record before its missing children
    ∷ opened (rec 3 (2 ∷ []) ++ rec 8 (0 ∷ []) ++ rec 99 []) refused 7 at 28  -- an earlier 7 before a later 4
    ∷ body (S (M 1 1 ∷ P 1 ∷ C 1 ∷ [])) refused 9 at 28  -- an earlier 9 before a later 7
    ∷ take 40 (body (S (M 1 1 ∷ P 1 ∷ []))) refused 9 at 28  -- and before a later CUT
    ∷ routines (R 0 (C 1) ∷ R 0 (T 0 (P 1) (P 1) (P 1)) ∷ []) refused 7 at 20  -- of the first routine before one of the second
    ∷ (b ++ (0 ∷ [])) refused 11 at 28  -- one byte behind the last routine
    ∷ (b ++ rec 1 (0 ∷ []) ++ rec 2 (1 ∷ [])) refused 11 at 28  -- a good routine that the sheet record does not count
    ∷ (b ++ b) refused 11 at 28  -- a second sheet
    ∷ (body (C 1) ++ (0 ∷ [])) refused 7 at 20  -- EXTRA only behind good routines
    ∷ body large refused 12 at 20  -- TOO BIG
    ∷ (body large ++ (0 ∷ [])) refused 11 at 56  -- a later 11 before 12
    ∷ opened (rec 3 (2 ∷ []) ++ bytes large ++ rec 99 []) refused 4 at 64  -- a later 4
    ∷ body (S (large ∷ M 1 1 ∷ [])) refused 9 at 64  -- a later 9
    ∷ take 56 (routines (R 0 large ∷ R 0 (P 1) ∷ [])) refused 3 at 56  -- a later CUT, in the next routine
    ∷ []

pub order_holds : answers order ≡ stated order
unfolding order answers
order_holds = refl

-- 2, TOO LONG: 60,001 bytes, whatever they are; 60,000 are judged by their records
pub too_long : (s : List ℕ) → length s ≡ 60001 → answer s 64 ≡ Verdict.refused 2 0
unfolding answers
too_long s e = rw e

pub not_too_long : (s : List ℕ) → length s ≡ 60000 → outcome s ≡ judgement (sheet_at s 0)
unfolding outcome
not_too_long s e = rw e

-- 1, NO ROOM: case b and tables of these lengths; then sheets refused for 2, 3 and 12, which 1 comes before
pub rooms : map (answer b) (0 ∷ 63 ∷ 64 ∷ 65 ∷ []) ≡ Verdict.refused 1 0 ∷ Verdict.refused 1 0 ∷ accepted 12 ∷ accepted 12 ∷ []
unfolding answers
rooms = refl

pub room_first : map (λ s. answer s 63) (replicate 60001 0 ∷ [] ∷ body large ∷ []) ≡ replicate 3 (Verdict.refused 1 0)
unfolding answers
room_first = refl
