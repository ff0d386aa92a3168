-- Counts that cannot run over: none exceeds the ticks from the least clock on.
use Rattle.std.specs.Prelude.{◌≡◌, ℕ, ◌<◌, List, ℤ, pos, ◌+ℤ◌, ◌≤ℤ◌, Some, Option, slice_index}
use Rattle.level.specs.declared.constraint.Constraint.{Constraint}
use Rattle.level.specs.Seats.{seat_at}

-- a count is at most the ticks from the least clock to this one
abbrev pub AtMost : ℤ → ℕ → Type 0
AtMost clock n = pos n ≤ℤ (clock +ℤ pos 2147483648)

-- no seat's constraint has run more
abbrev pub RanBound : ℤ → List (Option Constraint) → Type 0
RanBound clock seats = (s : ℕ) (h : Constraint) → seat_at seats s ≡ Some h → AtMost clock h.ran

-- no activity has
abbrev pub UsedBound : ℤ → List ℕ → Type 0
UsedBound clock used = (a : ℕ) → a < 16 → AtMost clock (slice_index used a)
