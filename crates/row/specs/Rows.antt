-- What rows look like, and what writing one does to a buffer.
use Rattle.std.specs.Prelude.{◌≡◌, ℕ, ◌≤◌, cond, List, [], ◌∷◌, ◌++◌, length, drop, Some, None, Ok, Err, codes, decimal, Option, Result, nat_le}
use Rattle.std.specs.Fmt.{signed_decimal}
use Rattle.level.specs.declared.ticked.Letter.{Letter}
use Rattle.level.specs.declared.ticked.Letter.TheVariants.{Constrained, Reserved, Spare, Idle}
use Rattle.row.specs.declared.row.Row.{Row}
use Rattle.row.specs.declared.row.Row.TheVariants.{Ran, Began, Ended, BeginRefused, EndRefused, WakeRefused, BlockRefused, TickRefused, Malformed}
use Rattle.row.specs.declared.row.RowFault.{RowFault}
use Rattle.row.specs.declared.row.RowFault.TheVariants.{Full}

abbrev pub row_number : RowFault → ℕ
row_number Full = 36

-- c, r, s and i
abbrev pub letter_byte : Letter → ℕ
letter_byte (Constrained s) = 99
letter_byte Reserved = 114
letter_byte Spare = 115
letter_byte Idle = 105

-- who ran a tick, with - for nobody
abbrev pub runner_text : Option ℕ → List ℕ
runner_text None = codes "-"
runner_text (Some a) = decimal a

-- a row without its byte 10
abbrev pub row_line : Row → List ℕ
row_line (Ran t o l) = signed_decimal t ++ (codes " " ++ (runner_text o ++ (codes " " ++ (letter_byte l ∷ []))))
row_line (Began s) = codes "c " ++ (decimal s ++ codes " ok")
row_line (Ended s n) = codes "e " ++ (decimal s ++ (codes " " ++ decimal n))
row_line (BeginRefused s n) = codes "c " ++ (decimal s ++ (codes " no " ++ decimal n))
row_line (EndRefused s n) = codes "e " ++ (decimal s ++ (codes " no " ++ decimal n))
row_line (WakeRefused a n) = codes "w " ++ (decimal a ++ (codes " no " ++ decimal n))
row_line (BlockRefused a n) = codes "b " ++ (decimal a ++ (codes " no " ++ decimal n))
row_line (TickRefused n) = codes "t no " ++ decimal n
row_line (Malformed k) = codes "? " ++ decimal k

-- a row and byte 10
abbrev pub row_text : Row → List ℕ
row_text r = row_line r ++ (10 ∷ [])

-- What a buffer holds after.

-- the buffer with the text at its front, where it has room, and else as it was
abbrev pub placed : List ℕ → List ℕ → List ℕ
placed t xs = cond (nat_le (length t) (length xs)) (t ++ drop (length t) xs) xs

-- the length of a row's text, or the refusal
abbrev pub row_room : List ℕ → List ℕ → Result ℕ RowFault
row_room t xs = cond (nat_le (length t) (length xs)) (Ok (length t)) (Err Full)

-- a text of a row is written at the front of a buffer, and all that stands behind it stays; or it has no room, and all stays
pub record Writes (text old : List ℕ) (r : Result ℕ RowFault) (new : List ℕ) : Type 0 where
  pub value : r ≡ row_room text old
  pub after : new ≡ placed text old
  pub short : length text ≤ 99
