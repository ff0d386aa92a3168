-- Which answer filling a plan gives to which base period, depth and entries.
use Rattle.std.specs.Prelude.{◌≡◌, ℕ, ◌<◌, ◌≤◌, List, length, Some, None, Ok, Err, Option, Result}
use Rattle.plan.specs.declared.entry.Entry.{Entry}
use Rattle.plan.specs.declared.fault.PlanFault.{PlanFault}
use Rattle.plan.specs.declared.fault.PlanFault.TheVariants.{Dimensions, TooManyEntries, OutOfRange, Clash, Memory}
use Rattle.plan.specs.Entries.{InRange, Clashing, NoClash, at}

-- a base period of 1 to 64 ticks, and a depth of 0 to 5
abbrev pub Shaped : ℕ → ℕ → Type 0
Shaped b d = (1 ≤ b) × (b ≤ 64) × (d ≤ 5)

-- the first n entries are in range
abbrev pub Ranged : ℕ → ℕ → List Entry → ℕ → Type 0
Ranged b d es n = (k : ℕ) → k < n → InRange b d (at es k)

-- k is the first index of an entry that is not in range
pub record FirstOutside (b d : ℕ) (es : List Entry) (k : ℕ) : Type 0 where
  pub within : k < length es
  pub before : Ranged b d es k
  pub outside : InRange b d (at es k) → ⊥

-- of the pairs that clash, these have the smallest later index, and with it the smallest earlier one
pub record FirstClash (es : List Entry) (later earlier : ℕ) : Type 0 where
  pub within : later < length es
  pub order : earlier < later
  pub clash : Clashing (at es earlier) (at es later)
  pub no_sooner : NoClash es later
  pub no_earlier : (k : ℕ) → k < earlier → Clashing (at es k) (at es later) → ⊥

-- all that a plan has to be
pub record Sound (b d : ℕ) (es : List Entry) : Type 0 where
  pub shaped : Shaped b d
  pub few : length es ≤ 120
  pub ranged : Ranged b d es (length es)
  pub apart : NoClash es (length es)

-- what each answer says; a refusal's test comes after those of the smaller numbers
abbrev pub Told : {U : Type 0} → ℕ → ℕ → List Entry → Result U PlanFault → Type 0
Told b d es (Ok _) = Sound b d es
Told b d es (Err Dimensions) = Shaped b d → ⊥
Told b d es (Err TooManyEntries) = Shaped b d × (120 < length es)
Told b d es (Err (OutOfRange k)) = Shaped b d × (length es ≤ 120) × FirstOutside b d es k
Told b d es (Err (Clash later earlier)) =
    Shaped b d × (length es ≤ 120) × Ranged b d es (length es) × FirstClash es later earlier
Told b d es (Err Memory) = Sound b d es

-- the numbered refusal in an answer, if there is one: want of memory is no verdict on the plan
abbrev pub refusal : {U : Type 0} → Result U PlanFault → Option PlanFault
refusal (Ok _) = None
refusal (Err Dimensions) = Some Dimensions
refusal (Err TooManyEntries) = Some TooManyEntries
refusal (Err (OutOfRange k)) = Some (OutOfRange k)
refusal (Err (Clash later earlier)) = Some (Clash later earlier)
refusal (Err Memory) = None

-- no other answer would be told of the same input, but for want of memory
abbrev pub Only : {U : Type 0} → ℕ → ℕ → List Entry → Result U PlanFault → Type 0
Only {U} b d es r = (s : Result U PlanFault) → Told b d es s → refusal s ≡ refusal r
