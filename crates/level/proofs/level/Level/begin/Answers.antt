use Rattle.std.proofs.lemmas.Result.{err_from_is_err_and}
use Rattle.std.proofs.lemmas.Int.{to_z-of_z}
use Rattle.level.proofs.Handing.{calls, begins, begins_not}
use Rattle.level.proofs.level.Level.begin.Goals as goal

pub returns-in_err-seat : goal.returns-in_err-seat
returns-in_err-seat g c =
    let fs = c.ranges.start in
    let fd = c.ranges.deadline in
    let p = err_from_is_err_and c.from_residual.result c.from_residual.ensures.1 in
    rw (p.1, p.2) (calls g.T.Timetable g.R.SpareRule c.args.self.now _ _ (simp to_z-of_z at c.in_err-seat.ensures))

pub returns-in_err-give : goal.returns-in_err-give
returns-in_err-give g c =
    let fs = c.ranges.start in
    let fd = c.ranges.deadline in
    let fine = simp to_z-of_z at c.in_ok-seat.ensures in
    let p = err_from_is_err_and c.from_residual-in_err-give.result c.from_residual-in_err-give.ensures.1 in
    rw (p.1, p.2) (calls g.T.Timetable g.R.SpareRule c.args.self.now _ _ (begins_not g.T.Timetable g.R.SpareRule c.args.self.now c.args.seat c.args.activity c.args.start c.args.estimate c.args.deadline fine.0 c.give.new.board _ _ _ fine.1 c.in_err-give.ensures))

pub returns : goal.returns
returns g c =
    let fs = c.ranges.start in
    let fd = c.ranges.deadline in
    let fine = simp to_z-of_z at c.in_ok-seat.ensures in
    calls g.T.Timetable g.R.SpareRule c.args.self.now _ _ (begins g.T.Timetable g.R.SpareRule c.args.self.now c.args.seat c.args.activity c.args.start c.args.estimate c.args.deadline fine.0 c.give.new.board _ _ _ _ _ fine.1 c.in_ok-give.ensures c.take_seat.ensures)
