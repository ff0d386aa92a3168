use Rattle.std.proofs.Common.{◌≡◌, pos, ◌-ℤ◌, ◌≤ℤ◌}
use Rattle.level.specs.Board.{holder}
use Rattle.level.specs.Ticks.{between}
use Rattle.level.specs.Pass.{own_at, free_at}
use Rattle.level.proofs.marking.survey.Given as goal

abbrev pub invariant-loop-t : goal.invariant-loop-t
invariant-loop-t g l = record {
  from : l.constraint.start ≤ℤ l.t;
  to : l.t ≤ℤ l.constraint.deadline;
  own : l.found.own ≡ between (own_at (holder l.board) (g.T.Timetable.owner l.timetable) l.constraint.activity) l.constraint.start l.t;
  free : l.found.free ≡ between (free_at (holder l.board) (g.T.Timetable.owner l.timetable) l.constraint.activity) l.constraint.start l.t;
  few_own : pos l.found.own ≤ℤ (l.t -ℤ l.constraint.start);
  few_free : pos l.found.free ≤ℤ (l.t -ℤ l.constraint.start);
}
