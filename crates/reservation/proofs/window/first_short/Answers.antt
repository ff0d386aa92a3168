use Rattle.std.proofs.Common.{◌≡◌, ◌+◌, pos, arith, rules, below_none, below_more}
use Rattle.reservation.specs.Windows.{owned}
use Rattle.reservation.proofs.Sliding.{counted_slide, owned_le, served_by_cycle}
use Rattle.reservation.proofs.window.first_short.Given as given
use Rattle.reservation.proofs.window.first_short.Goals as goal

-- the window that begins one tick later
moved : (g : given.Over) (c : goal.After-owned_at-leaving g) → owned (g.T.Timetable.owner c.args.timetable.now) c.args.reservation.now.activity (pos (c.loop-start.start + 1)) c.args.reservation.now.period + c.owned_at-leaving.result ≡ c.loop-start.found + c.owned_at-entering.result
moved g c =
    counted_slide (g.T.Timetable.owner c.args.timetable.now) c.args.reservation.now.activity c.args.reservation.now.period c.loop-start.start
    c.loop-start.invariant.0 (search rules) (search rules)

pub loop-start-init : goal.loop-start-init
loop-start-init g c =
    let le = owned_le (g.T.Timetable.owner c.args.timetable.now) c.args.reservation.now.activity (pos 0) c.args.reservation.now.period in
    let e = c.count_first-found.ensures in
    (omega arith, omega arith, below_none _)

pub loop-start-preserved : goal.loop-start-preserved
loop-start-preserved g c =
    let m = moved g c in
    let le = owned_le (g.T.Timetable.owner c.args.timetable.now) c.args.reservation.now.activity (pos (c.loop-start.start + 1)) c.args.reservation.now.period in
    (omega arith, omega arith, below_more _ _ c.loop-start.invariant.2 (omega arith))

-- no window of the first cycle is short, so none is
pub returns : goal.returns
returns g c =
    let x = c.args.timetable.now in
    let r = c.args.reservation.now in
    let l = g.met.T.Timetable.least x in
    served_by_cycle (g.T.Timetable.owner x) (g.T.Timetable.cycle x) (omega arith) (g.met.T.Timetable.repeats x) r.activity r.ticks r.period (λ k h. c.loop-start.invariant.2 k (omega arith))
