-- Which character stands in which column of a line.
use Rattle.std.specs.Prelude.{◌≡◌, ℕ, ◌+◌, ◌*◌, ◌<◌, cond, ◌⊎◌, List, length, ℤ, pos, ◌-ℤ◌, Some, None, Option, ◌==◌, slice_index}

-- `#` for a tick of that owner, and `.` for any other
abbrev pub mark : Option ℕ → Option ℕ → ℕ
mark (Some a) (Some b) = cond (a == b) 35 46
mark (Some a) None = 46
mark None (Some b) = 46
mark None None = 35

-- the column shows the tick t: left of column `cycle` stand the ticks up to -1, and right of it those from 0 on
abbrev pub Shows : ℕ → ℕ → ℤ → Type 0
Shows cycle column t =
    ((column < cycle) × (t ≡ pos column -ℤ pos cycle)) ⊎ ((cycle < column) × (t ≡ pos column -ℤ pos (cycle + 1)))

-- the character in a column: the mark of the tick that it shows, and a stroke in column `cycle`, which shows none
pub record Column (owner : ℤ → Option ℕ) (cycle : ℕ) (who : Option ℕ) (column char : ℕ) : Type 0 where
  pub tick : (t : ℤ) → Shows cycle column t → char ≡ mark (owner t) who
  pub stroke : column ≡ cycle → char ≡ 124

-- a whole line: a cycle on each side of zero
pub record Line (owner : ℤ → Option ℕ) (cycle : ℕ) (who : Option ℕ) (text : List ℕ) : Type 0 where
  pub columns : length text ≡ 2 * cycle + 1
  pub each : (k : ℕ) → k < 2 * cycle + 1 → Column owner cycle who k (slice_index text k)
