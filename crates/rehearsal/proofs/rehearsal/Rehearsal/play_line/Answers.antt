use Rattle.std.proofs.Common.{refl, ap}
use Rattle.level.specs.Levels.{meaning}
use Rattle.rehearsal.specs.Onwards.{standing}
use Rattle.rehearsal.specs.Rehearsals.{state}
use Rattle.rehearsal.specs.Stages.{stage}
use Rattle.rehearsal.proofs.Going.{line_goes}
use Rattle.rehearsal.proofs.GoingOn.{line_goes_on}
use Rattle.rehearsal.proofs.rehearsal.Rehearsal.play_line.Goals as goal

pub returns-in-Ok-clause-goes : goal.returns-in-Ok-clause-goes
returns-in-Ok-clause-goes g c =
    let e = c.in-Ok.ensures in
    line_goes
    (state g.T.Timetable g.R.SpareRule c.args.self.now)
    (state g.T.Timetable g.R.SpareRule c.read_line.new.self)
    (state g.T.Timetable g.R.SpareRule c.play.new.self)
    c.in-Ok.line c.in-Ok.command c.play.result
    (record {
      due = c.requires.0;
      some = c.requires.1;
      number = e.reads.0;
      says = e.reads.1;
      line = e.line refl;
      level = ap (meaning g.T.Timetable g.R.SpareRule) e.level;
    })
    e.once c.play.ensures.goes

pub returns-in-Ok-clause-runs : goal.returns-in-Ok-clause-runs
returns-in-Ok-clause-runs g c =
    let e = c.in-Ok.ensures in
    line_goes_on
    g.R.SpareRule
    (standing g.T.Timetable g.R.SpareRule c.args.self.now)
    (standing g.T.Timetable g.R.SpareRule c.read_line.new.self)
    (standing g.T.Timetable g.R.SpareRule c.play.new.self)
    c.in-Ok.line c.in-Ok.command c.play.result
    (record {
      due = c.requires.0;
      some = c.requires.1;
      number = e.reads.0;
      says = e.reads.1;
      line = e.line refl;
      on = ap (stage g.T.Timetable g.R.SpareRule) e.level;
    })
    e.once c.play.ensures.runs
