use Rattle.std.proofs.Common.{◌+◌, ◌*◌, length}
use Rattle.rehearsal.specs.Onwards.{standing}
use Rattle.rehearsal.proofs.Running.{SoFar}
use Rattle.rehearsal.proofs.rehearsal.Rehearsal.run.Given as goal

abbrev pub invariant-loop-row : goal.invariant-loop-row
invariant-loop-row g l =
    SoFar g.R.SpareRule g.S.Sink.hands
    (standing g.T.Timetable g.R.SpareRule l.initial.self) l.initial.sink
    (standing g.T.Timetable g.R.SpareRule l.self) l.sink l.rows.bytes

-- a line has at least its byte 10, and says at most 9,999 ticks
abbrev pub decreases-loop-row : goal.decreases-loop-row
decreases-loop-row g l = 10000 * length l.self.reader.rest + l.self.ticks
