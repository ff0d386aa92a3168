use Rattle.std.proofs.Common.{◌≡◌, ℕ, ◌<◌, length, get_or, string_bytes}
use Rattle.bars.specs.Lines.{Column}
use Rattle.bars.proofs.line.Given as goal

abbrev pub invariant-loop-column : goal.invariant-loop-column
invariant-loop-column g l =
    (length (string_bytes l.text) ≡ l.column)
    × ((k : ℕ) → k < l.column → Column (g.T.Timetable.owner l.timetable) (g.T.Timetable.cycle l.timetable) l.who k (get_or (string_bytes l.text) k 0))
