-- What a fault of a sheet tells: its layer, its number and its place.
use Rattle.std.specs.Prelude.{ℕ, min, Some, Option}
use Rattle.plan.specs.declared.fault.PlanFault.{PlanFault}
use Rattle.plan.specs.declared.fault.PlanFault.TheVariants as of-plan
use Rattle.plan.specs.Numbers as plan
use Rattle.reservation.specs.declared.fault.CheckFault.{CheckFault}
use Rattle.reservation.specs.declared.fault.CheckFault.TheVariants as of-check
use Rattle.reservation.specs.Numbers as check
use Rattle.sheet.specs.declared.fault.Layer.{Layer}
use Rattle.sheet.specs.declared.fault.Layer.TheVariants as layers
use Rattle.sheet.specs.declared.fault.SheetFault.{SheetFault}
use Rattle.sheet.specs.declared.fault.SheetFault.TheVariants.{Size, BlockCheck, Heading, EntryBlock, Plan, Check}
use Rattle.sheet.specs.Format.{block_place, entry_place, reservation_place}

abbrev pub layer_of : SheetFault → Layer
layer_of Size = layers.Sheet
layer_of (BlockCheck n) = layers.Sheet
layer_of Heading = layers.Sheet
layer_of (EntryBlock n) = layers.Sheet
layer_of (Plan f) = layers.Plan
layer_of (Check f) = layers.Check

abbrev pub number_of : SheetFault → Option ℕ
number_of Size = Some 31
number_of (BlockCheck n) = Some 32
number_of Heading = Some 33
number_of (EntryBlock n) = Some 34
number_of (Plan f) = plan.number_of f
number_of (Check f) = Some (check.number_of f)

-- a place as a `usize` holds it: its greatest stands in for what is greater
abbrev pub in_usize : ℕ → ℕ
in_usize n = min n 18446744073709551615

-- the byte where the entry begins that the plan's fault tells of, for a clash the later one
abbrev pub plan_place : PlanFault → ℕ
plan_place of-plan.Dimensions = 0
plan_place of-plan.TooManyEntries = 0
plan_place (of-plan.OutOfRange k) = entry_place k
plan_place (of-plan.Clash later earlier) = entry_place later
plan_place of-plan.Memory = 0

-- the byte where the reservation begins that the check's fault tells of
abbrev pub check_place : CheckFault → ℕ
check_place of-check.TooMany = 0
check_place (of-check.OutOfRange k) = reservation_place k
check_place (of-check.Twice k) = reservation_place k
check_place (of-check.Short k start found) = reservation_place k
check_place of-check.Overbooked = 0

-- the byte where the block, entry or reservation begins that the fault tells of; 0 where it tells of none
abbrev pub place_of : SheetFault → ℕ
place_of Size = 0
place_of (BlockCheck n) = block_place n
place_of Heading = 0
place_of (EntryBlock n) = block_place n
place_of (Plan f) = plan_place f
place_of (Check f) = check_place f
