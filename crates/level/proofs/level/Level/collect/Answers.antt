use Rattle.std.proofs.Common.{ap}
use Rattle.level.proofs.Refusing.{collect_refused}
use Rattle.level.proofs.Handing.{calls, collects}
use Rattle.level.proofs.level.Level.collect.Goals as goal

pub returns-then-not-has_left : goal.returns-then-not-has_left
returns-then-not-has_left g c = calls g.T.Timetable g.R.SpareRule c.args.self.now _ _ (collect_refused _ c.args.seat c.if-not-has_left.ensures)

pub returns : goal.returns
returns g c =
    let l = c.if-not-has_left.ensures in
    let n = c.hand_ticket.ensures.number in
    calls g.T.Timetable g.R.SpareRule c.args.self.now _ _ (collects g.T.Timetable g.R.SpareRule c.args.self.now c.args.seat _ _ (ap (λ k. record { level = k; seat = c.args.seat }) n) l c.hand_ticket.ensures)
