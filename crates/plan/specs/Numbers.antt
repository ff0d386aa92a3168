-- The numbers of a plan's refusals.
use Rattle.std.specs.Prelude.{ℕ, Some, None, Option}
use Rattle.plan.specs.declared.fault.PlanFault.{PlanFault}
use Rattle.plan.specs.declared.fault.PlanFault.TheVariants.{Dimensions, TooManyEntries, OutOfRange, Clash, Memory}

abbrev pub number_of : PlanFault → Option ℕ
number_of Dimensions = Some 21
number_of TooManyEntries = Some 22
number_of (OutOfRange index) = Some 23
number_of (Clash later earlier) = Some 24
number_of Memory = None
