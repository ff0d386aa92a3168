use Rattle.std.proofs.Common.{◌≡◌, ℕ, ◌<◌, ◌≤◌, pos}
use Rattle.reservation.specs.Windows.{owned}
use Rattle.reservation.proofs.window.first_short.Given as goal

abbrev pub invariant-loop-start : goal.invariant-loop-start
invariant-loop-start g l =
    (l.found ≡ owned (g.T.Timetable.owner l.timetable) l.reservation.activity (pos l.start) l.reservation.period)
    × (l.found ≤ l.reservation.period)
    × ((s : ℕ) → s < l.start → l.reservation.ticks ≤ owned (g.T.Timetable.owner l.timetable) l.reservation.activity (pos s) l.reservation.period)
