use Rattle.std.proofs.Common.{[], ◌∷◌, Ok, Err, refl, ap, subst}
use Rattle.row.specs.declared.row.Row.TheVariants.{BlockRefused}
use Rattle.level.specs.Levels.{meaning, Called, block_event}
use Rattle.rehearsal.proofs.Playing.{one_call, accepted, refused_with}
use Rattle.rehearsal.proofs.play.play_block.Goals as goal

pub returns-in_err-refusal-clause-plays : goal.returns-in_err-refusal-clause-plays
returns-in_err-refusal-clause-plays g c =
    let f = meaning g.T.Timetable g.R.SpareRule in
    let e = c.block.ensures in
    let done = subst (λ r. Called (f c.args.level.now) (block_event c.args.activity r) (f c.block.new.self)) (accepted c.block.result c.in_err-refusal.ensures.value) e.called in
    rw c.from_residual.ensures (one_call (Ok tt, refl) (record { called = done; rule = e.rule; means = refl }) refl)

pub returns-clause-plays : goal.returns-clause-plays
returns-clause-plays g c =
    let f = meaning g.T.Timetable g.R.SpareRule in
    let e = c.block.ensures in
    let done = subst (λ r. Called (f c.args.level.now) (block_event c.args.activity r) (f c.block.new.self)) (refused_with c.block.result c.in_ok-refusal.refusal c.in_ok-refusal.ensures.value) e.called in
    one_call (Err c.in_ok-refusal.refusal, refl) (record { called = done; rule = e.rule; means = refl }) (ap (λ n. BlockRefused c.args.activity n ∷ []) c.number.ensures)
