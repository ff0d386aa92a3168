use Rattle.std.proofs.Common.{◌-◌, ◌≤◌, length}
use Rattle.rehearse.proofs.read_input.Given as goal

abbrev pub invariant-loop-have : goal.invariant-loop-have
invariant-loop-have l = l.have ≤ length l.initial.buf

abbrev pub decreases-loop-have : goal.decreases-loop-have
decreases-loop-have l = length l.initial.buf - l.have
