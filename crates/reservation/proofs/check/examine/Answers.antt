use Rattle.std.proofs.Common.{Err, sym, subst}
use Rattle.std.proofs.lemmas.Result.{err_from_is_err_and}
use Rattle.reservation.specs.Told.{Told}
use Rattle.reservation.proofs.check.examine.Goals as goal

pub returns-in_err-listed : goal.returns-in_err-listed
returns-in_err-listed g c =
    let owner = g.T.Timetable.owner c.args.timetable.now in
    let cycle = g.T.Timetable.cycle c.args.timetable.now in
    let p = err_from_is_err_and c.from_residual.result c.from_residual.ensures.1 in
    subst (Told owner cycle c.args.list.now) (sym p.1) (subst (λ f. Told owner cycle c.args.list.now (Err f)) (sym p.2) (c.in_err-listed.ensures owner cycle))
