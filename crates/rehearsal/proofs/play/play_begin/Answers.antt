use Rattle.std.proofs.Common.{[], ◌∷◌, Ok, Err, refl, ap, subst}
use Rattle.std.proofs.lemmas.Int.{to_z-of_z}
use Rattle.row.specs.declared.row.Row.TheVariants.{BeginRefused}
use Rattle.level.specs.Levels.{meaning, Called, leave_event}
use Rattle.rehearsal.proofs.Playing.{one_call, two_calls}
use Rattle.rehearsal.proofs.Tickets.{left_sound}
use Rattle.rehearsal.proofs.play.play_begin.Goals as goal

pub returns-in-Ok-clause-plays : goal.returns-in-Ok-clause-plays
returns-in-Ok-clause-plays g c =
    let fs = c.ranges.start in
    let fd = c.ranges.deadline in
    let b = simp to_z-of_z at c.in-Ok.ensures in
    let f = meaning g.T.Timetable g.R.SpareRule in
    let l = c.leave.ensures.called in
    let done = subst (λ r. Called (f c.begin.new.self) (leave_event c.in-Ok.ticket r) (f c.leave.new.self)) c.unwrap.ensures l.called in
    two_calls (Ok c.in-Ok.ticket, refl) (record { called = b.called; rule = b.rule; means = refl }) (record { called = done; rule = l.rule; means = refl }) refl

pub returns-in-Err-clause-plays : goal.returns-in-Err-clause-plays
returns-in-Err-clause-plays g c =
    let fs = c.ranges.start in
    let fd = c.ranges.deadline in
    let e = simp to_z-of_z at c.in-Err.ensures in
    one_call (Err c.in-Err.refusal, refl) (record { called = e.called; rule = e.rule; means = refl })
    (ap (λ n. BeginRefused c.args.seat n ∷ []) c.number.ensures)

pub unwrap-requires : goal.unwrap-requires
unwrap-requires g c = left_sound _ _ _ c.args.seat c.args.activity _ c.args.estimate _ c.in-Ok.ticket _ c.in-Ok.ensures.called.step c.leave.ensures.called.called.step
