use Rattle.std.proofs.Common.{◌≡◌, ℕ, ◌<◌, ◌≤◌, length, get_or}
use Rattle.level.specs.declared.level.Level.{Level}
use Rattle.level.specs.Levels.{meaning}
use Rattle.scripts.specs.Rows.{TickedOnce}
use Rattle.scripts.proofs.row.tick_all.Given as goal

abbrev pub invariant-loop-level : goal.invariant-loop-level
invariant-loop-level g l =
    (length l.levels ≡ length l.initial.levels)
    × ((j : ℕ) (d : Level g.row.T.Denot g.row.R.Denot) → j < l.level-index → TickedOnce (meaning g.T.Timetable g.R.SpareRule (get_or l.initial.levels j d)) (meaning g.T.Timetable g.R.SpareRule (get_or l.levels j d)))
    × ((j : ℕ) (d : Level g.row.T.Denot g.row.R.Denot) → l.level-index ≤ j → get_or l.levels j d ≡ get_or l.initial.levels j d)
