use Rattle.level.specs.Meaning.{ticked}
use Rattle.level.proofs.Refusing.{called, tick_refused}
use Rattle.level.proofs.Ticking.{ticks}
use Rattle.level.proofs.level.Level.tick.Goals as goal

pub returns-then-at_end-clause-called : goal.returns-then-at_end-clause-called
returns-then-at_end-clause-called g c = called _ _ _ (tick_refused _ c.if-at_end.ensures)

pub returns-clause-called : goal.returns-clause-called
returns-clause-called g c =
    let given = c.give_tick-ticked.ensures in
    called _ (ticked _) _ (ticks g.T.Timetable g.R.SpareRule c.args.self.now c.give_tick-ticked.new.self _ _
    given.tick c.if-at_end.ensures given.given given.timetable given.inner c.advance.ensures)
