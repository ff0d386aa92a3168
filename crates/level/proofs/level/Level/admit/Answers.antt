use Rattle.std.proofs.Common.{refl, arith, w32, SFits, rules}
use Rattle.std.proofs.lemmas.Int.{ints, to_z-of_z}
use Rattle.std.proofs.lemmas.Result.{err_from_is_err_and}
use Rattle.level.specs.declared.refusal.Refusal.TheVariants.{SeatUnavailable}
use Rattle.level.specs.Meaning.{to_begin}
use Rattle.level.specs.Levels.{meaning}
use Rattle.level.specs.Refusals.{Wrong, begin_whom, for_nothing, early, backward, far, seat_unavailable, in_use}
use Rattle.level.proofs.Refusing.{begin_least}
use Rattle.level.proofs.Seated.{there}
use Rattle.level.proofs.level.Level.admit.Goals as goal
use Rattle.level.proofs.level.Level.admit.Goals.{then-seat-gt15-via-then-seat-gt15, then-seat-gt15-via-else-seat-gt15+then-is_some}

pub returns-in_err-activity : goal.returns-in_err-activity
returns-in_err-activity g c =
    let u = c.in_err-activity.ensures in
    let p = err_from_is_err_and c.from_residual.result c.from_residual.ensures.1 in
    rw (p.1, p.2, u.told) (record { wrong = begin_whom u.large; least = begin_least _ _ _ _ _ _ 2 (omega arith) (λ x. absurd (omega arith)) (λ x z. omega arith) (λ x. absurd (omega arith)) (λ x. absurd (omega arith)) (λ x. absurd (omega arith)); same = refl })

pub returns-then-estimate-eq0 : goal.returns-then-estimate-eq0
returns-then-estimate-eq0 g c =
    let k = c.in_ok-activity.ensures in
    record { wrong = for_nothing (omega arith); least = begin_least _ _ _ _ _ _ 3 (omega arith) (λ x. omega arith) (λ x z. omega arith) (λ x. absurd (omega arith)) (λ x. absurd (omega arith)) (λ x. absurd (omega arith)); same = refl }

pub returns-then-start-self : goal.returns-then-start-self
returns-then-start-self g c =
    let k = c.in_ok-activity.ensures in
    let fs = c.ranges.start in
    let fd = c.ranges.deadline in
    let fc : SFits w32 c.args.self.now.inner.clock = search rules in
    let es = to_z-of_z w32 c.args.start fs in
    let ed = to_z-of_z w32 c.args.deadline fd in
    let ec = to_z-of_z w32 c.args.self.now.inner.clock fc in
    record { wrong = early (omega (arith, ints)); least = begin_least _ _ _ _ _ _ 4 (omega arith) (λ x. omega arith) (λ x z. omega arith) (λ x. absurd (omega arith)) (λ x. absurd (omega arith)) (λ x. absurd (omega arith)); same = refl }

pub returns-then-deadline-start : goal.returns-then-deadline-start
returns-then-deadline-start g c =
    let k = c.in_ok-activity.ensures in
    let fs = c.ranges.start in
    let fd = c.ranges.deadline in
    let fc : SFits w32 c.args.self.now.inner.clock = search rules in
    let es = to_z-of_z w32 c.args.start fs in
    let ed = to_z-of_z w32 c.args.deadline fd in
    let ec = to_z-of_z w32 c.args.self.now.inner.clock fc in
    record { wrong = backward (omega (arith, ints)); least = begin_least _ _ _ _ _ _ 5 (omega arith) (λ x. omega arith) (λ x z. omega arith) (λ x. omega (arith, ints)) (λ x. absurd (omega arith)) (λ x. absurd (omega arith)); same = refl }

pub returns-then-ahead-gt1024 : goal.returns-then-ahead-gt1024
returns-then-ahead-gt1024 g c =
    let k = c.in_ok-activity.ensures in
    let fs = c.ranges.start in
    let fd = c.ranges.deadline in
    let fc : SFits w32 c.args.self.now.inner.clock = search rules in
    let es = to_z-of_z w32 c.args.start fs in
    let ed = to_z-of_z w32 c.args.deadline fd in
    let ec = to_z-of_z w32 c.args.self.now.inner.clock fc in
    record { wrong = far (omega (arith, ints)); least = begin_least _ _ _ _ _ _ 5 (omega arith) (λ x. omega arith) (λ x z. omega arith) (λ x. omega (arith, ints)) (λ x. absurd (omega arith)) (λ x. absurd (omega arith)); same = refl }

pub returns-then-seat-gt15 : goal.returns-then-seat-gt15
returns-then-seat-gt15 g c =
    let k = c.in_ok-activity.ensures in
    let fs = c.ranges.start in
    let fd = c.ranges.deadline in
    let fc : SFits w32 c.args.self.now.inner.clock = search rules in
    let es = to_z-of_z w32 c.args.start fs in
    let ed = to_z-of_z w32 c.args.deadline fd in
    let ec = to_z-of_z w32 c.args.self.now.inner.clock fc in
    let m = meaning g.T.Timetable g.R.SpareRule c.args.self.now in
    let call = to_begin c.args.seat c.args.activity c.args.start c.args.estimate c.args.deadline in
    let wrong : Wrong m call SeatUnavailable = elim c.then-seat-gt15.branch [
      | then-seat-gt15-via-then-seat-gt15 w ↦ seat_unavailable (omega arith)
      | then-seat-gt15-via-else-seat-gt15+then-is_some w ↦ let held = there (m.seats c.args.seat) (search rules) in in_use held.1
    ] in
    record { wrong = wrong; least = begin_least _ _ _ _ _ _ 6 (omega arith) (λ x. omega arith) (λ x z. omega arith) (λ x. omega (arith, ints)) (λ x. (omega (arith, ints), omega (arith, ints))) (λ x. absurd (omega arith)); same = refl }

pub returns : goal.returns
returns g c =
    let k = c.in_ok-activity.ensures in
    let fs = c.ranges.start in
    let fd = c.ranges.deadline in
    let fc : SFits w32 c.args.self.now.inner.clock = search rules in
    let es = to_z-of_z w32 c.args.start fs in
    let ed = to_z-of_z w32 c.args.deadline fd in
    let ec = to_z-of_z w32 c.args.self.now.inner.clock fc in (
      record {
        whom = omega arith;
        some = λ z. omega arith;
        from = omega (arith, ints);
        to = omega (arith, ints);
        near = omega (arith, ints);
        seat = omega arith;
        unused = search rules;
      },
      rw (es, ed, c.in_ok-activity.ensures.same) refl,
    )
