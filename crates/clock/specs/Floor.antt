-- Division of whole numbers that rounds toward minus infinity, on both sides of zero.
use Rattle.std.specs.Prelude.{◌≡◌, ℕ, ◌-◌, ◌/◌, ◌%◌, ◌<◌, ℤ, pos, negsuc, ◌+ℤ◌, ◌*ℤ◌}

-- the quotient; negsuc a is the number -(a + 1)
abbrev pub floor_div : ℤ → ℕ → ℤ
floor_div (pos a) n = pos (a / n)
floor_div (negsuc a) n = negsuc (a / n)

-- the remainder, from 0 up to but not including n
abbrev pub floor_mod : ℤ → ℕ → ℕ
floor_mod (pos a) n = a % n
floor_mod (negsuc a) n = n - 1 - a % n

-- in frames of b ticks, the tick t lies in the frame f, at the offset o
pub record Lies (t : ℤ) (b : ℕ) (f : ℤ) (o : ℕ) : Type 0 where
  pub whole : (f *ℤ pos b) +ℤ pos o ≡ t
  pub within : o < b
