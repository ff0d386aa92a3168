use Rattle.std.proofs.Common.{ℕ, ◌<◌}
use Rattle.plan.specs.Entries.{NoClash, Clashing, at}
use Rattle.plan.proofs.fill.first_clash.Given as goal

abbrev pub invariant-loop-later : goal.invariant-loop-later
invariant-loop-later l = NoClash l.entries l.later

abbrev pub invariant-loop-earlier : goal.invariant-loop-earlier
invariant-loop-earlier l = (k : ℕ) → k < l.earlier → Clashing (at l.entries k) (at l.entries l.later) → ⊥
