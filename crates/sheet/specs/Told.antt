-- Which answer loading gives to which bytes.
use Rattle.std.specs.Prelude.{◌≡◌, ℕ, ◌*◌, ◌^◌, ◌<◌, ◌≤◌, List, length, Ok, Err, Result, ◌≢◌}
use Rattle.plan.specs.declared.entry.Entry.{Entry}
use Rattle.plan.specs.declared.fault.PlanFault.TheVariants.{TooManyEntries, Memory}
use Rattle.plan.specs.Owners.{owner_in}
use Rattle.plan.specs.Told as plan
use Rattle.reservation.specs.declared.fault.CheckFault.TheVariants.{TooMany, Overbooked}
use Rattle.reservation.specs.declared.reservation.Reservation.{Reservation}
use Rattle.reservation.specs.Reservations.{Passes}
use Rattle.reservation.specs.Told as check
use Rattle.sheet.specs.declared.fault.SheetFault.{SheetFault}
use Rattle.sheet.specs.declared.fault.SheetFault.TheVariants.{Size, BlockCheck, Heading, EntryBlock, Plan, Check}
use Rattle.sheet.specs.Faults.{place_of}
use Rattle.sheet.specs.Format.{Checked, block, blocks_for, in_block, IsHeading, IsEntryBlock, IsSheet}

-- one, two or three blocks
abbrev pub HasBlocks : List ℕ → ℕ → Type 0
HasBlocks s n = (1 ≤ n) × (n ≤ 3) × (length s ≡ 512 * n)

-- the checks of the first n blocks are right
abbrev pub AllChecked : List ℕ → ℕ → Type 0
AllChecked s n = (k : ℕ) → k < n → Checked (block s k)

-- k is the first of n blocks whose check is wrong
pub record FirstUnchecked (s : List ℕ) (n k : ℕ) : Type 0 where
  pub within : k < n
  pub before : AllChecked s k
  pub wrong : Checked (block s k) → ⊥

-- a block that is the heading of something, whose entries fit n blocks
pub record Headed (b : List ℕ) (n : ℕ) : Type 0 where
  pub base : ℕ
  pub depth : ℕ
  pub reservations : List Reservation
  pub entries : ℕ
  pub heading : IsHeading b base depth reservations entries
  pub fits : blocks_for entries ≡ n

-- the entry blocks below block n are right, where there are so many entries
abbrev pub AllBlocks : List ℕ → ℕ → ℕ → Type 0
AllBlocks s entries n = (k : ℕ) → 1 ≤ k → k < n → IsEntryBlock (block s k) k (in_block entries k)

-- k is the first entry block, below block n, that is not as it should be
pub record FirstBroken (s : List ℕ) (entries n k : ℕ) : Type 0 where
  pub least : 1 ≤ k
  pub within : k < n
  pub before : AllBlocks s entries k
  pub wrong : IsEntryBlock (block s k) k (in_block entries k) → ⊥

-- bytes that are a sheet, with what they are the sheet of
pub record Holds (s : List ℕ) : Type 0 where
  pub base : ℕ
  pub depth : ℕ
  pub entries : List Entry
  pub reservations : List Reservation
  pub sheet : IsSheet s base depth entries reservations

-- what each refusal says; its test comes after those that stand above it
abbrev pub Refused : List ℕ → SheetFault → Type 0
Refused s Size = (n : ℕ) → HasBlocks s n → ⊥
Refused s (BlockCheck k) = (n : ℕ) × HasBlocks s n × FirstUnchecked s n k
Refused s Heading = (n : ℕ) × HasBlocks s n × AllChecked s n × (Headed (block s 0) n → ⊥)
Refused s (EntryBlock k) =
    (n : ℕ) × HasBlocks s n × AllChecked s n × (h : Headed (block s 0) n) × FirstBroken s h.entries n k
Refused s (Plan f) = (h : Holds s) × plan.Told {U = Unit {0}} h.base h.depth h.entries (Err f)
Refused s (Check f) =
    (h : Holds s)
    × plan.Sound h.base h.depth h.entries
    × check.Told (owner_in h.base h.entries) (h.base * 2 ^ h.depth) h.reservations (Err f)

-- the bytes are the sheet of a plan and of n reservations that pass on it
abbrev pub Accepted : List ℕ → ℕ → Type 0
Accepted s n =
    (h : Holds s)
    × plan.Sound h.base h.depth h.entries
    × Passes (owner_in h.base h.entries) h.reservations
    × (n ≡ length h.reservations)

-- what each answer says
abbrev pub Told : List ℕ → Result ℕ SheetFault → Type 0
Told s (Ok n) = Accepted s n
Told s (Err f) = Refused s f

-- want of memory, which is no verdict on the bytes and can come up in place of any answer after the plan's numbers
abbrev pub no_memory : Result ℕ SheetFault
no_memory = Err (Plan Memory)

-- no other answer would be told of the same bytes, but for want of memory
abbrev pub Only : List ℕ → Result ℕ SheetFault → Type 0
Only s r = (q : Result ℕ SheetFault) → Told s q → (q ≢ no_memory) → (r ≢ no_memory) → q ≡ r

-- the place of a fault is one of the sheet
abbrev pub Within : List ℕ → Result ℕ SheetFault → Type 0
Within s (Ok n) = Unit {0}
Within s (Err f) = place_of f ≤ length s

-- the faults of the layers below that no sheet can have: its heading has no room for more entries or reservations,
-- and what is served is never overbooked
pub record Never (r : Result ℕ SheetFault) : Type 0 where
  pub entries : r ≡ Err (Plan TooManyEntries) → ⊥
  pub reservations : r ≡ Err (Check TooMany) → ⊥
  pub overbooked : r ≡ Err (Check Overbooked) → ⊥
