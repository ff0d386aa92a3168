use Rattle.std.proofs.Common.{◌≡◌, ◌<◌, drop}
use Rattle.command.specs.Reading.{nat_after}
use Rattle.command.proofs.reader.digits_value.Given as goal

abbrev pub invariant-loop-d : goal.invariant-loop-d
invariant-loop-d l = (nat_after l.value (drop l.d-index l.digits) ≡ nat_after 0 l.digits) × (l.value < 4294967296)
