use Rattle.std.proofs.Common.{arith}
use Rattle.plan.specs.Laws.{cycle_least, cycle_most}
use Rattle.plan.proofs.plan.PlanTimetable.cycle.Goals as goal

pub invariant_of-result : goal.invariant_of-result
invariant_of-result c =
    let p = c.args.self.now in
    let e = c.cycle_ticks.ensures in
    let low = cycle_least p.base p.depth p.sound.shaped.0 in
    let high = cycle_most p.base p.depth p.sound.shaped.1 p.sound.shaped.2 in
    record { range = (omega arith, omega arith) }
