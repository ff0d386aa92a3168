use Rattle.scripts.proofs.Onwards.{ticks_both}
use Rattle.scripts.proofs.side_by_side.tick_both.Goals as goal

pub returns : goal.returns
returns g c = ticks_both _ _ _ _ _ _ c.tick-first.ensures.called.goes c.tick-second.ensures.called.goes
