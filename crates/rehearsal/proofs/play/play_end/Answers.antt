use Rattle.std.proofs.Common.{[], ◌∷◌, Ok, Err, sym, refl, ap, subst}
use Rattle.level.specs.declared.ticket.Ticket.{Ticket}
use Rattle.row.specs.declared.row.Row.TheVariants.{Ended, EndRefused}
use Rattle.level.specs.Levels.{meaning, Called, end_event}
use Rattle.rehearsal.proofs.Playing.{one_call, two_calls}
use Rattle.rehearsal.proofs.Tickets.{end_sound}
use Rattle.rehearsal.proofs.play.play_end.Goals as goal

pub returns-in-Ok-clause-plays : goal.returns-in-Ok-clause-plays
returns-in-Ok-clause-plays g c =
    let b = c.in-Ok.ensures in
    let f = meaning g.T.Timetable g.R.SpareRule in
    let l = c.end.ensures.called in
    let done = subst (λ r. Called (f c.collect.new.self) (end_event c.in-Ok.ticket r) (f c.end.new.self)) c.unwrap.ensures l.called in
    two_calls (Ok c.in-Ok.ticket, c.unwrap.result, refl) (record { called = b.called; rule = b.rule; means = refl }) (record { called = done; rule = l.rule; means = refl })
    (ap (λ (x : Ticket). Ended x.seat c.unwrap.result ∷ []) (sym b.called.step.2))

pub returns-in-Err-clause-plays : goal.returns-in-Err-clause-plays
returns-in-Err-clause-plays g c =
    let e = c.in-Err.ensures in
    one_call (Err c.in-Err.refusal, 0, refl) (record { called = e.called; rule = e.rule; means = refl })
    (ap (λ n. EndRefused c.args.seat n ∷ []) c.number.ensures)

pub unwrap-requires : goal.unwrap-requires
unwrap-requires g c = end_sound _ _ _ c.args.seat c.in-Ok.ticket _ c.in-Ok.ensures.called.step c.end.ensures.called.called.step
