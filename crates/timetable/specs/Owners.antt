-- Owners of ticks: an activity, or nobody.
use Rattle.std.specs.Prelude.{ℕ, ◌<◌, ℤ, ◌-ℤ◌, Some, None, Option}

-- an owner is one of the sixteen activities, or the tick is free
abbrev pub Known : Option ℕ → Type 0
Known None = Unit {0}
Known (Some a) = a < 16

-- the owners moved k ticks later: the tick t has the owner that t - k had
abbrev pub shifted : (ℤ → Option ℕ) → ℤ → ℤ → Option ℕ
shifted owner k t = owner (t -ℤ k)
