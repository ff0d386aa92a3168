use Rattle.std.proofs.Common.{subst, arith}
use Rattle.reservation.specs.Told.{Told}
use Rattle.reservation.proofs.Shares.{never_overbooked}
use Rattle.reservation.proofs.check.check.Goals as goal

pub returns-clause-never : goal.returns-clause-never
returns-clause-never g c = λ e.
    let owner = g.T.Timetable.owner c.args.timetable.now in
    let t = subst (Told owner (g.T.Timetable.cycle c.args.timetable.now) c.args.list.now) e c.examine.ensures in
    let n = never_overbooked owner c.args.list.now t.0 t.1 in
    let m = t.2 in
    omega arith
