-- The numbers of the check's refusals.
use Rattle.std.specs.Prelude.{ℕ}
use Rattle.reservation.specs.declared.fault.CheckFault.{CheckFault}
use Rattle.reservation.specs.declared.fault.CheckFault.TheVariants.{TooMany, OutOfRange, Twice, Short, Overbooked}

abbrev pub number_of : CheckFault → ℕ
number_of TooMany = 11
number_of (OutOfRange index) = 12
number_of (Twice index) = 13
number_of (Short index start found) = 14
number_of Overbooked = 15
