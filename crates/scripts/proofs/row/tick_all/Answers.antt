use Rattle.std.proofs.Common.{◌<◌, length, arith, rules}
use Rattle.level.specs.Levels.{meaning}
use Rattle.scripts.specs.Rows.{TickedOnce}
use Rattle.scripts.proofs.Onwards.{by_call}
use Rattle.scripts.proofs.Rowing.{row, each_by, done_more, rest_more}
use Rattle.scripts.proofs.row.tick_all.Goals as goal

pub loop-level-preserved : goal.loop-level-preserved
loop-level-preserved g c =
    let f = meaning g.T.Timetable g.R.SpareRule in
    let i = c.loop-level.invariant in
    let same = i.0 in
    let lt : c.loop-level.level-index < length c.loop-level.levels = omega arith in (
      search rules,
      done_more TickedOnce f c.args.levels.now c.loop-level.levels c.loop-level.level-index c.tick.new.self c.level-item.result lt (c.tick.result, c.tick.ensures.called) i.1 i.2,
      rest_more TickedOnce f c.args.levels.now c.loop-level.levels c.loop-level.level-index c.tick.new.self c.level-item.result lt (c.tick.result, c.tick.ensures.called) i.1 i.2,
    )

pub returns : goal.returns
returns g c =
    let f = meaning g.T.Timetable g.R.SpareRule in
    let i = c.loop-level.invariant in
    record {
      each = λ k d l. i.1 k d (omega arith);
      size = i.0;
      plays = row _ _ (each_by f c.args.levels.now c.loop-level.levels i.0 (λ k d l. by_call (i.1 k d (omega arith)).1));
    }
