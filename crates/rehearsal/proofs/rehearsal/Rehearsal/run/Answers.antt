use Rattle.std.proofs.Common.{[], refl}
use Rattle.std.proofs.lemmas.Result.{err_from_is_err_and}
use Rattle.rehearsal.specs.declared.rehearsal.Progress.TheVariants.{Silent}
use Rattle.rehearsal.specs.Onwards.{standing}
use Rattle.rehearsal.proofs.Running.{told_falls, line_falls, begins, goes_silently, tells, breaks, finishes, runs_broken}
use Rattle.rehearsal.proofs.rehearsal.Rehearsal.run.Goals as goal

pub loop-row-init : goal.loop-row-init
loop-row-init g c = begins c.new-rows.result.bytes c.new-rows.ensures

pub loop-row-smaller-in-Continue-1 : goal.loop-row-smaller-in-Continue-1
loop-row-smaller-in-Continue-1 g c = told_falls g.R.SpareRule (standing g.T.Timetable g.R.SpareRule c.loop-row.self) c.in-Told.row (standing g.T.Timetable g.R.SpareRule c.advance.new.self) c.in-Told.ensures.runs

pub loop-row-preserved-in-Continue-1 : goal.loop-row-preserved-in-Continue-1
loop-row-preserved-in-Continue-1 g c =
    let p = c.in_ok-put-in-Told.ensures.puts in
    tells c.loop-row.invariant c.in-Told.row (standing g.T.Timetable g.R.SpareRule c.advance.new.self) c.in-Told.ensures.runs p.0 c.put.new.sink c.put.new.self.bytes p.1 p.2

pub returns-in_err-put-in-Told : goal.returns-in_err-put-in-Told
returns-in_err-put-in-Told g c =
    let p = err_from_is_err_and c.from_residual.result c.from_residual.ensures.1 in
    runs_broken c.from_residual.result p.0 c.in_err-put-in-Told.field-0.0 (standing g.T.Timetable g.R.SpareRule c.advance.new.self) c.put.new.sink p.1 p.2
    (breaks c.loop-row.invariant c.in-Told.row (standing g.T.Timetable g.R.SpareRule c.advance.new.self) c.in-Told.ensures.runs c.in_err-put-in-Told.field-0.0 c.put.new.sink c.in_err-put-in-Told.ensures.puts.0)

pub loop-row-smaller : goal.loop-row-smaller
loop-row-smaller g c = line_falls g.R.SpareRule (standing g.T.Timetable g.R.SpareRule c.loop-row.self) [] (standing g.T.Timetable g.R.SpareRule c.advance.new.self) c.in-Silent.ensures.runs

pub loop-row-preserved : goal.loop-row-preserved
loop-row-preserved g c = goes_silently c.loop-row.invariant Silent (standing g.T.Timetable g.R.SpareRule c.advance.new.self) c.in-Silent.ensures.runs refl

pub returns-in-Over : goal.returns-in-Over
returns-in-Over g c =
    finishes c.loop-row.invariant (standing g.T.Timetable g.R.SpareRule c.advance.new.self) c.in-Over.ensures.runs c.loop-row.rows.bytes c.flush.new.self.bytes refl c.flush.result c.flush.new.sink c.flush.ensures
