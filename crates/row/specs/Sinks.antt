-- What sinks are handed.
use Rattle.std.specs.Prelude.{ℕ, List, [], ◌∷◌, ◌++◌, Ok, Result}
use Rattle.row.specs.declared.row.Row.{Row}
use Rattle.row.specs.Rows.{row_text}

-- the texts of rows, one after another
abbrev pub rows_text : List Row → List ℕ
rows_text [] = []
rows_text (row ∷ rows) = row_text row ++ rows_text rows

-- a sink is handed bytes, one part after another, and takes them all; `hands` is what one such call does
pub data Handed {S F : Type 0} (hands : S → List ℕ → Result (Unit {0}) F → S → Type 0) (s : S) : List ℕ → S → Type 0 where
  nothing : Handed hands s [] s
  more : {front : List ℕ} {m : S} (part : List ℕ) (u : S) → Handed hands s front m → hands m part (Ok tt) u → Handed hands s (front ++ part) u
