use Rattle.std.proofs.Common.{refl}
use Rattle.std.proofs.lemmas.Result.{err_from_is_err_and}
use Rattle.level.proofs.Refusing.{end_refused}
use Rattle.level.proofs.Handing.{calls, ends}
use Rattle.level.proofs.level.Level.end.Goals as goal

pub returns-in_err-seat : goal.returns-in_err-seat
returns-in_err-seat g c =
    let r = c.in_err-seat.ensures in
    let p = err_from_is_err_and c.from_residual.result c.from_residual.ensures.1 in
    rw (p.1, p.2, r.told) (record { called = calls g.T.Timetable g.R.SpareRule c.args.self.now _ _ (end_refused _ c.args.ticket r.invalid); back = refl })

pub returns : goal.returns
returns g c =
    let r = c.in_ok-seat.ensures in
    let after = rw r.same at c.free_seat.ensures in
    record {
      called = calls g.T.Timetable g.R.SpareRule c.args.self.now _ _ (ends g.T.Timetable g.R.SpareRule c.args.self.now c.args.ticket _ _ r.is_out after);
      back = tt;
    }
