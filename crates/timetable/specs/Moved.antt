-- A timetable that is moved along the clock, and by how many ticks.
use Rattle.std.specs.Prelude.{ℤ}
use Rattle.timetable.specs.declared.shift.Shift.{Shift}

-- the timetable that a shift moves
abbrev pub timetable_of : {T : Type 0} → Shift T → T
timetable_of s = s.below

-- how many ticks later it moves that
abbrev pub ticks_of : {T : Type 0} → Shift T → ℤ
ticks_of s = s.by
