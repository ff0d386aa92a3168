use Rattle.std.proofs.Common.{true, refl, arith}
use Rattle.std.proofs.lemmas.Result.{err_from_is_err_and}
use Rattle.spare.specs.Sets.{is_ready}
use Rattle.level.specs.Meaning.{woke}
use Rattle.level.proofs.Refusing.{wake_sound, wake_refused}
use Rattle.level.proofs.Handing.{switched, calls}
use Rattle.level.proofs.level.Level.wake.Goals as goal

pub returns-in_err-activity : goal.returns-in_err-activity
returns-in_err-activity g c =
    let u = c.in_err-activity.ensures in
    let p = err_from_is_err_and c.from_residual.result c.from_residual.ensures.1 in
    rw (p.1, p.2, u.told) (calls g.T.Timetable g.R.SpareRule c.args.self.now _ _ (wake_refused _ c.args.activity u.large))

pub returns : goal.returns
returns g c =
    let k = c.in_ok-activity.ensures in
    let set = c.with-self.ensures in
    calls g.T.Timetable g.R.SpareRule c.args.self.now (woke c.args.activity) _ (
      wake_sound _ c.args.activity (omega arith),
      record {
        kept = record { number = refl; owner = refl; cycle = refl; patience = refl };
        ready = rw (← k.same) (switched (is_ready c.args.self.now.inner.ready) (is_ready c.with-self.result) c.in_ok-activity.activity true (set.member k.small) set.others);
        clock = refl;
        seats = refl;
        marks = refl;
        used = refl;
        rule = refl;
      },
    )
