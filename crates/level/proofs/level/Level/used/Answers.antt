use Rattle.std.proofs.Common.{refl, ap, ◌∙◌, get_or, arith}
use Rattle.std.proofs.lemmas.Result.{err_from_is_err_and}
use Rattle.level.specs.Meaning.{told}
use Rattle.level.proofs.Refusing.{used_sound, used_refused}
use Rattle.level.proofs.Handing.{calls}
use Rattle.level.proofs.level.Level.used.Goals as goal

pub returns-in_err-activity : goal.returns-in_err-activity
returns-in_err-activity g c =
    let u = c.in_err-activity.ensures in
    let p = err_from_is_err_and c.from_residual.result c.from_residual.ensures.1 in
    rw (p.1, p.2, u.told) (calls g.T.Timetable g.R.SpareRule c.args.self.now _ _ (used_refused _ c.args.activity u.large))

pub returns : goal.returns
returns g c =
    let k = c.in_ok-activity.ensures in
    calls g.T.Timetable g.R.SpareRule c.args.self.now (told c.args.activity _) _ (
      used_sound _ c.args.activity (omega arith),
      ap (λ a. get_or c.args.self.now.inner.used a 0) (c.from.ensures ∙ k.same),
      refl,
    )
