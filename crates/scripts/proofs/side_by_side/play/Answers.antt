use Rattle.std.proofs.Common.{◌∙◌}
use Rattle.scripts.proofs.Onwards.{story, by_call}
use Rattle.scripts.proofs.side_by_side.play.Goals as goal

pub returns : goal.returns
returns g c =
    let a = c.open-left.ensures.opened in
    let b = c.open-right.ensures.opened in
    let w = c.wake-woken.ensures.called in
    story _ _ _ _ _ _ _ _ _ _ a.opens.number ((by_call w).number ∙ a.opens.number) b.opens.number a.starts b.starts w.goes c.tick_both-first.ensures
