use Rattle.std.proofs.Common.{◌≡◌, Bool, ℤ, ap, ◌∙◌, pos, ◌+ℤ◌, to_z, of_z, w32, arith}
use Rattle.std.proofs.lemmas.Int.{ints}
use Rattle.level.specs.Board.{holder}
use Rattle.level.specs.Ticks.{between}
use Rattle.level.specs.Pass.{is_own, is_free, own_at, free_at}
use Rattle.level.proofs.Tallies.{between_counts, one_le}
use Rattle.level.proofs.marking.survey.Goals as goal

pub loop-t-preserved : goal.loop-t-preserved
loop-t-preserved g c =
    let i = c.loop-t.invariant in
    let own : ℤ → Bool = own_at (holder c.args.board.now) (g.T.Timetable.owner c.args.timetable.now) c.args.constraint.now.activity in
    let free : ℤ → Bool = free_at (holder c.args.board.now) (g.T.Timetable.owner c.args.timetable.now) c.args.constraint.now.activity in
    let next : to_z w32 (of_z w32 (to_z w32 c.loop-t.t-bits +ℤ pos 1)) ≡ to_z w32 c.loop-t.t-bits +ℤ pos 1 = omega (arith, ints) in
    let eo = c.add.ensures.own in
    let ef = c.add.ensures.free in
    let lo = one_le (is_own c.kind_at.result) in
    let lf = one_le (is_free c.kind_at.result) in
    record {
      from = omega (arith, ints);
      to = omega (arith, ints);
      own = between_counts own _ _ _ _ _ _ i.from next i.own (ap is_own c.kind_at.ensures) eo;
      free = between_counts free _ _ _ _ _ _ i.from next i.free (ap is_free c.kind_at.ensures) ef;
      few_own = omega (arith, ints);
      few_free = omega (arith, ints);
    }

pub returns : goal.returns
returns g c =
    let i = c.loop-t.invariant in
    let own : ℤ → Bool = own_at (holder c.args.board.now) (g.T.Timetable.owner c.args.timetable.now) c.args.constraint.now.activity in
    let free : ℤ → Bool = free_at (holder c.args.board.now) (g.T.Timetable.owner c.args.timetable.now) c.args.constraint.now.activity in
    let near = c.requires in
    let end : to_z w32 c.loop-t.t-bits ≡ c.args.constraint.now.deadline = omega (arith, ints) in
    record {
      own = i.own ∙ ap (between own c.args.constraint.now.start) end;
      free = i.free ∙ ap (between free c.args.constraint.now.start) end;
      few = (omega (arith, ints), omega (arith, ints));
    }
