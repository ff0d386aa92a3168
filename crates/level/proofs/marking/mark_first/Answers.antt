use Rattle.std.proofs.Common.{◌≡◌, ℕ, ◌+◌, ◌-◌, true, false, ℤ, pos, ◌+ℤ◌, ◌-ℤ◌, nat_abs, Option, ap, ◌∙◌, subst, arith, w32, to_z, of_z, rules}
use Rattle.std.proofs.lemmas.Int.{ints}
use Rattle.level.specs.Board.{holder}
use Rattle.level.specs.Ticks.{one}
use Rattle.level.specs.Pass.{is_own, is_free, takes, own_from, free_from, Passed}
use Rattle.level.proofs.Passes.{pass_skip, pass_take}
use Rattle.level.proofs.marking.mark_first.Goals as goal
use Rattle.level.proofs.marking.mark_first.Goals.{then-take, else-take}

pub loop-t-preserved : goal.loop-t-preserved
loop-t-preserved g c =
    let i = c.loop-t.invariant in
    let t : ℤ = to_z w32 c.loop-t.t-bits in
    let n : ℕ = nat_abs (t -ℤ c.args.constraint.now.start) in
    let at : t ≡ c.args.constraint.now.start +ℤ pos n = omega (arith, ints) in
    let next : to_z w32 (of_z w32 (to_z w32 c.loop-t.t-bits +ℤ pos 1)) ≡ t +ℤ pos 1 = omega (arith, ints) in
    let more : nat_abs (to_z w32 (of_z w32 (to_z w32 c.loop-t.t-bits +ℤ pos 1)) -ℤ c.args.constraint.now.start) ≡ n + 1 = omega (arith, ints) in
    let owner : ℤ → Option ℕ = g.T.Timetable.owner c.args.timetable.now in
    let k = c.kind_at.ensures in
    let eo = c.take.ensures.own ∙ ap (λ x. c.loop-t.left.own - one (is_own x)) k in
    let ef = c.take.ensures.free ∙ ap (λ x. c.loop-t.left.free - one (is_free x)) k in
    let ev = c.take.ensures.value ∙ ap (takes c.loop-t.left.own c.loop-t.left.free) k in
    record {
      from = omega (arith, ints);
      to = omega (arith, ints);
      pass = rw more (elim c.if-take.branch [
        | then-take w ↦
            pass_take owner c.args.constraint.now.activity _ n _ _ c.loop-t.left.own c.loop-t.left.free c.args.seat _ (holder c.loop-t.board) i.pass (omega (arith, ints))
            _ at _ _ eo ef _ (λ u. ap (λ b. holder b u) w.board-is ∙ w.mark.ensures u) (let e : true ≡ c.take.result = search rules in e ∙ ev)
        | else-take w ↦
            pass_skip owner c.args.constraint.now.activity _ n _ _ c.loop-t.left.own c.loop-t.left.free c.args.seat _ (holder c.loop-t.board) i.pass (omega (arith, ints))
            _ at _ _ eo ef _ (ap holder w.board-is) (let e : false ≡ c.take.result = search rules in e ∙ ev)
      ]);
    }

pub returns : goal.returns
returns g c =
    let i = c.loop-t.invariant in
    let end : to_z w32 c.loop-t.t-bits ≡ c.args.constraint.now.deadline = omega (arith, ints) in (
      _,
      _,
      subst (λ u. Passed (own_from (holder c.args.board.now) (g.T.Timetable.owner c.args.timetable.now) c.args.constraint.now.activity c.args.constraint.now.start)
          (free_from (holder c.args.board.now) (g.T.Timetable.owner c.args.timetable.now) c.args.constraint.now.activity c.args.constraint.now.start)
          c.args.constraint.now.start (nat_abs (u -ℤ c.args.constraint.now.start)) c.args.most.own c.args.most.free c.loop-t.left.own c.loop-t.left.free c.args.seat (holder c.args.board.now) (holder c.loop-t.board)) end i.pass,
    )
