-- What filling a plan leaves behind, and what a clash that it tells is.
use Rattle.std.specs.Prelude.{◌≡◌, ℕ, List, ℤ, Ok, Err, Result}
use Rattle.plan.specs.declared.entry.Entry.{Entry}
use Rattle.plan.specs.declared.fault.PlanFault.{PlanFault}
use Rattle.plan.specs.declared.fault.PlanFault.TheVariants.{Dimensions, TooManyEntries, OutOfRange, Clash, Memory}
use Rattle.plan.specs.declared.plan.Plan.{Plan}
use Rattle.plan.specs.Entries.{Owns, at}

-- a plan that was filled has what it was given, and one that was refused is what it was
abbrev pub Filled : {U : Type 0} → ℕ → ℕ → List Entry → Plan → Plan → Result U PlanFault → Type 0
Filled b d es before after (Ok _) = (after.base ≡ b) × (after.depth ≡ d) × (after.entries ≡ es)
Filled b d es before after (Err _) = after ≡ before

-- two entries that are told to clash do own a tick in common
abbrev pub Shared : {U : Type 0} → ℕ → List Entry → Result U PlanFault → Type 0
Shared b es (Ok _) = Unit {0}
Shared b es (Err Dimensions) = Unit {0}
Shared b es (Err TooManyEntries) = Unit {0}
Shared b es (Err (OutOfRange index)) = Unit {0}
Shared b es (Err (Clash later earlier)) = (t : ℤ) × Owns b (at es earlier) t × Owns b (at es later) t
Shared b es (Err Memory) = Unit {0}
