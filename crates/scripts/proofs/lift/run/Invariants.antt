use Rattle.scripts.specs.Plays.{LevelPlays}
use Rattle.scripts.proofs.lift.run.Given as goal

abbrev pub invariant-loop : goal.invariant-loop
invariant-loop g l = LevelPlays g.T.Timetable g.R.SpareRule l.initial.level l.level
