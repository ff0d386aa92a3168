-- The order of the numbers, going round.
use Rattle.std.specs.Prelude.{◌≡◌, ℕ, ◌+◌, ◌-◌, ◌<◌, ◌≤◌, Bool, true, false, cond, nat_lt}

-- a rule that goes round, as its callers see it: whom it named last, one of the sixteen
pub record LastNamed : Type 0 where
  pub last : ℕ
  pub known : last < 16

-- how many activities come between the one that was named last and another
abbrev pub between : ℕ → ℕ → ℕ
between last a = cond (nat_lt last a) (a - (last + 1)) (a + 15 - last)

-- nobody from one number up to another is ready
abbrev pub NoneFrom : (ℕ → Bool) → ℕ → ℕ → Type 0
NoneFrom ready from to = (k : ℕ) → from ≤ k → k < to → ready k ≡ false

-- a is the first ready one from one number up to another
pub record FirstFrom (ready : ℕ → Bool) (from to a : ℕ) : Type 0 where
  pub low : from ≤ a
  pub high : a < to
  pub member : ready a ≡ true
  pub before : NoneFrom ready from a
