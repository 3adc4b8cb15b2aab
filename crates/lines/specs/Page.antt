-- What the private functions of this crate come to. No public contract cites these.
use Rattle.std.specs.Prelude.{ℕ, ◌+◌, ◌≡◌, List, length}
use Rattle.std.proofs.Math.Seq.{paste}
use Rattle.lines.specs.declared.Page.{Page}

-- a text is put on a page, which stays the same one with the same room, behind what was put there before
pub record Put (old new : Page) (text : List ℕ) : Type 0 where
  pub same_page : new.bytes.ghost_name ≡ old.bytes.ghost_name
  pub room : length new.bytes.now ≡ length old.bytes.now
  pub at : new.at ≡ old.at + length text
  pub bytes : new.bytes.now ≡ paste old.bytes.now old.at text (length text)
