use Rattle.std.proofs.Common.{refl, ◌∙◌, w32}
use Rattle.std.proofs.lemmas.Int.{to_z-of_z}
use Rattle.level.specs.Together.{Opens}
use Rattle.level.specs.Levels.{meaning, opening}
use Rattle.level.proofs.Levels.{starts}
use Rattle.level.proofs.Seen.{seen_none}
use Rattle.level.proofs.level.Level.open.Goals as goal

pub returns : goal.returns
returns g c =
    let f = c.fresh.ensures in
    let t = c.args.timetable in
    let op : Opens c.args.number (opening g.T.Timetable g.R.SpareRule c.args.clock t c.args.rule)
    (meaning g.T.Timetable g.R.SpareRule (record { timetable = t; rule = c.args.rule; inner = c.fresh.result })) = record {
      number = f.number;
      clock = f.clock ∙ to_z-of_z w32 _ c.ranges.clock;
      owner = refl;
      cycle = refl;
      blocked = f.blocked;
      unused = f.unused;
      unmarked = seen_none _ _ f.unmarked;
      idle = f.idle;
      rule = refl;
      repeating = record { least = g.met.T.Timetable.least t; most = g.met.T.Timetable.most t; repeats = g.met.T.Timetable.repeats t; known = g.met.T.Timetable.known t };
      within = g.met.R.SpareRule.bounded c.args.rule;
    } in
    record { opened = record { opens = op; starts = starts _ _ _ op }; timetable = refl; rule = refl }
