-- A hold, as its callers see it.
use Rattle.std.specs.Prelude.{ℕ, ◌≤◌, Option}

-- the rule below, how often a choice may be repeated, the last choice, and how often that one may still be
pub record Holding (R : Type 0) : Type 0 where
  pub below : R
  pub repeats : ℕ
  pub choice : Option ℕ
  pub left : ℕ
  pub few : left ≤ repeats
