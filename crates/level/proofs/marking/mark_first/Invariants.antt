use Rattle.std.proofs.Common.{◌-ℤ◌, ◌≤ℤ◌, nat_abs}
use Rattle.level.specs.Board.{holder}
use Rattle.level.specs.Pass.{own_from, free_from, Passed}
use Rattle.level.proofs.marking.mark_first.Given as goal

abbrev pub invariant-loop-t : goal.invariant-loop-t
invariant-loop-t g l = record {
  from : l.constraint.start ≤ℤ l.t;
  to : l.t ≤ℤ l.constraint.deadline;
  pass : Passed (own_from (holder l.initial.board) (g.T.Timetable.owner l.timetable) l.constraint.activity l.constraint.start)
      (free_from (holder l.initial.board) (g.T.Timetable.owner l.timetable) l.constraint.activity l.constraint.start)
      l.constraint.start (nat_abs (l.t -ℤ l.constraint.start)) l.initial.left.own l.initial.left.free l.left.own l.left.free l.seat (holder l.initial.board) (holder l.board);
}
