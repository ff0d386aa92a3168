use Rattle.std.proofs.Common.{◌≡◌, ℕ, ◌≤◌, ℤ, pos, ◌+ℤ◌, ◌-ℤ◌, nat_abs, Option, refl, arith}
use Rattle.std.proofs.lemmas.Int.{ints}
use Rattle.level.specs.Board.{holder}
use Rattle.level.specs.Ticks.{between, is_available}
use Rattle.level.proofs.Choice.{given, sum_at}
use Rattle.level.proofs.marking.give.Goals as goal

pub returns-then-available-constraint : goal.returns-then-available-constraint
returns-then-available-constraint g c =
    let near = c.requires in
    let found = c.survey-found.ensures in
    let owner : ℤ → Option ℕ = g.T.Timetable.owner c.args.timetable.now in
    (_, refl, omega arith, sum_at owner c.args.constraint.now.activity c.args.constraint.now.start c.args.constraint.now.deadline _ (omega (arith, ints)) (holder c.args.board.now) found.own found.free, refl)

pub returns : goal.returns
returns g c =
    let near = c.requires in
    let found = c.survey-found.ensures in
    let a = c.args.constraint.now.activity in
    let start : ℤ = c.args.constraint.now.start in
    let deadline : ℤ = c.args.constraint.now.deadline in
    let before : ℤ → Option ℕ = holder c.args.board.now in
    let owner : ℤ → Option ℕ = g.T.Timetable.owner c.args.timetable.now in
    let ends : start +ℤ pos (nat_abs (deadline -ℤ start)) ≡ deadline = omega (arith, ints) in
    let sum = sum_at owner a start deadline (nat_abs (deadline -ℤ start)) ends before found.own found.free in
    let enough : c.args.constraint.now.estimate ≤ between (is_available before owner a) start deadline = omega arith in
    (enough, λ clock from to. given owner a c.args.seat clock start deadline (nat_abs (deadline -ℤ start)) c.args.constraint.now.estimate _ _ _ before _ from to ends c.mark_first.ensures.2 (omega arith) enough)
