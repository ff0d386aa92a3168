use Rattle.std.proofs.Common.{false, refl, arith}
use Rattle.std.proofs.lemmas.Result.{err_from_is_err_and}
use Rattle.spare.specs.Sets.{is_ready}
use Rattle.level.specs.Meaning.{blocked}
use Rattle.level.proofs.Refusing.{block_sound, block_refused}
use Rattle.level.proofs.Handing.{switched, calls}
use Rattle.level.proofs.level.Level.block.Goals as goal

pub returns-in_err-activity : goal.returns-in_err-activity
returns-in_err-activity g c =
    let u = c.in_err-activity.ensures in
    let p = err_from_is_err_and c.from_residual.result c.from_residual.ensures.1 in
    rw (p.1, p.2, u.told) (calls g.T.Timetable g.R.SpareRule c.args.self.now _ _ (block_refused _ c.args.activity u.large))

pub returns : goal.returns
returns g c =
    let k = c.in_ok-activity.ensures in
    let set = c.without-self.ensures in
    calls g.T.Timetable g.R.SpareRule c.args.self.now (blocked c.args.activity) _ (
      block_sound _ c.args.activity (omega arith),
      record {
        kept = record { number = refl; owner = refl; cycle = refl; patience = refl };
        ready = rw (← k.same) (switched (is_ready c.args.self.now.inner.ready) (is_ready c.without-self.result) c.in_ok-activity.activity false set.member set.others);
        clock = refl;
        seats = refl;
        marks = refl;
        used = refl;
        rule = refl;
      },
    )
