-- Who each tick is marked for.
use Rattle.std.specs.Prelude.{ℕ, cond, ℤ, Some, None, Option, ◌==◌, slice_index_or}
use Rattle.clock.specs.Floor.{floor_mod}
use Rattle.level.specs.declared.board.Board.{Board}

-- the cell of a tick
abbrev pub slot : ℤ → ℕ
slot t = floor_mod t 1024

-- the seat that has a tick marked
abbrev pub holder : Board → ℤ → Option ℕ
holder b t = slice_index_or b.cells (slot t) None

-- the same but at the ticks of one cell
abbrev pub turned : (ℤ → Option ℕ) → ℤ → Option ℕ → ℤ → Option ℕ
turned before t to u = cond (slot u == slot t) to (before u)

-- what is left of a mark when a seat's marks go
abbrev pub without : ℕ → Option ℕ → Option ℕ
without s None = None
without s (Some r) = cond (r == s) None (Some r)
