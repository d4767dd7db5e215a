-- What a call that appends to a list of bytes leaves when memory runs out.
use Rattle.std.specs.Prelude.{◌≡◌, ℕ, List, ◌++◌}

-- the old bytes stand, and after them a prefix of the text that was to be appended
pub record AppendsFront (old new text : List ℕ) : Type 0 where
  pub written : List ℕ
  pub lost : List ℕ
  pub whole : text ≡ written ++ lost
  pub after : new ≡ old ++ written
