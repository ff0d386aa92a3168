-- What a reader still has.
use Rattle.std.specs.Prelude.{ℕ, List}

-- the bytes still to be read, and the number of the line where they begin
pub record Unread : Type 0 where
  pub rest : List ℕ
  pub line : ℕ
