use Rattle.std.proofs.Common.{◌≡◌, ℕ, ◌<◌, ℤ, ◌-ℤ◌, ap, ◌∙◌, arith}
use Rattle.std.proofs.lemmas.Int.{ints}
use Rattle.clock.specs.Floor.{floor_mod}
use Rattle.clock.proofs.Laws.{repeats_mod}
use Rattle.timetable.proofs.shift.ShiftTimetable.owner_at.Goals as goal

passed : {r : ℕ} {z s : ℤ} (n : ℕ) → r ≡ floor_mod z n → z ≡ s → r ≡ floor_mod s n
passed n e p = cc

-- the tick asked below is the one of its first cycle that has the same residue
pub returns : goal.returns
returns g c =
    let below = c.args.self.now.below in
    let length = g.T.Timetable.cycle c.args.self.now.below in
    let s : ℤ = c.args.t -ℤ c.args.self.now.by in
    let some : 0 < g.T.Timetable.cycle c.args.self.now.below = omega (arith, g.met.T.Timetable.least c.args.self.now.below) in
    let e : c.tick_below.result ≡ floor_mod s (g.T.Timetable.cycle c.args.self.now.below) = passed length c.tick_below.ensures (omega (arith, ints)) in
    c.owner_at.ensures ∙ ap (g.T.Timetable.owner below) (omega (arith, ints))
    ∙ repeats_mod (g.T.Timetable.owner below) length some (g.met.T.Timetable.repeats below) s
